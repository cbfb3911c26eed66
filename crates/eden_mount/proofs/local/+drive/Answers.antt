use Rattle.std.proofs.Common.{◌≡◌, ◌<◌, arith}
use Rattle.eden_mount.specs.declared.events.Turned.TheVariants.{Done, Wait}
use Rattle.eden_mount.specs.Steps.{Turns}
use Rattle.eden_mount.proofs.Driving.{drive_size, done_drives, round_goes, round_drives}
use Rattle.eden_mount.proofs.local.+drive.Goals as goal

pub returns-in-Done : goal.returns-in-Done
returns-in-Done g t c = λ q driven.
    let turn : Turns g.T.Attempts.table g.W.World.honest g.H.History.copies c.args.mount.now 1 (Done c.in-Done.field-0 c.in-Done.reply) c.turn.new.self = c.in-Done.ensures in
    done_drives g.S.Source.fetched g.T.Attempts.table g.W.World.honest g.H.History.copies q c.args.mount.now c.turn.new.self c.args.source.now c.in-Done.field-0 c.in-Done.reply driven turn

pub returns-in-Wait : goal.returns-in-Wait
returns-in-Wait g t c = λ q driven.
    let turn : Turns g.T.Attempts.table g.W.World.honest g.H.History.copies c.args.mount.now 1 (Wait c.in-Wait.field-0) c.turn.new.self = c.in-Wait.ensures in
    let f = c.fetch_wanted.ensures in
    round_drives g.S.Source.fetched g.T.Attempts.table g.W.World.honest g.H.History.copies q c.args.mount.now c.turn.new.self f.1 c.fetch_wanted.new.mount c.drive.new.mount
    c.args.source.now c.fetch_wanted.new.source c.drive.new.source c.in-Wait.field-0 f.0 c.drive.result f.3 f.5 driven turn f.2 f.4
    (λ on. c.drive.ensures q on)

pub fetch_wanted-requires : goal.fetch_wanted-requires
fetch_wanted-requires g t c = (c.requires.0, c.args.mount.now, c.in-Wait.field-0, c.requires.1, c.in-Wait.ensures)

pub drive-requires : goal.drive-requires
drive-requires g t c =
    let q = c.requires.0 in
    let turn : Turns g.T.Attempts.table g.W.World.honest g.H.History.copies c.args.mount.now 1 (Wait c.in-Wait.field-0) c.turn.new.self = c.in-Wait.ensures in
    let f = c.fetch_wanted.ensures in
    let on = round_goes g.S.Source.fetched g.T.Attempts.table g.W.World.honest g.H.History.copies q c.args.mount.now c.turn.new.self f.1 c.fetch_wanted.new.mount c.args.source.now
    c.fetch_wanted.new.source c.in-Wait.field-0 f.0 f.3 f.5 c.requires.1 turn f.2 f.4 in
    let less : drive_size g.T.Attempts.table c.fetch_wanted.new.mount < drive_size g.T.Attempts.table c.args.mount.now = on.1 in
    let now : drive_size g.T.Attempts.table c.args.mount.now ≡ t = c.decreases in
    let next : drive_size g.T.Attempts.table c.fetch_wanted.new.mount < t = omega (arith, less, now) in
    λ κs h. (next, (h.0, (h.1.0, (h.1.1.0, (h.1.1.1.0, (h.1.1.1.1.0, (h.1.1.1.1.1, (q, on.0))))))))
