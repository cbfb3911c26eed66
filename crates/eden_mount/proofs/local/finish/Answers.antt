use Rattle.std.proofs.Common.{Ok, refl, subst}
use Rattle.eden_mount.specs.declared.events.Turned.{Turned}
use Rattle.eden_mount.specs.declared.events.Turned.TheVariants.{Done, Wait}
use Rattle.eden_mount.specs.Core.{after_start}
use Rattle.eden_mount.specs.Steps.{Asks}
use Rattle.eden_mount.proofs.Driving.{started_driven, done_drives, round_goes, round_drives}
use Rattle.eden_mount.proofs.local.finish.Goals as goal

pub fetch_wanted-requires : goal.fetch_wanted-requires
fetch_wanted-requires g c =
    let A = g.T.Attempts.table in
    let q = c.args.request in
    let m = c.args.mount.now in
    let begun = after_start 1 q m in
    let P : Turned → Type 0 = λ turned. Asks A g.W.World.honest g.H.History.copies m 1 q (Ok turned) c.ask.new.self in
    let asks : P (Wait c.in-Ok-Wait.field-0-0) = subst P c.in-Ok-Wait.field-0-is c.in-Ok-Wait.ensures in
    let driven = started_driven A g.W.World.honest g.W.World.opening g.W.World.numbers q m begun c.holds.ensures c.requires asks.0 refl in
    (q, begun, c.in-Ok-Wait.field-0-0, driven, asks.2)

pub drive-requires : goal.drive-requires
drive-requires g c =
    let A = g.T.Attempts.table in
    let q = c.args.request in
    let m = c.args.mount.now in
    let begun = after_start 1 q m in
    let P : Turned → Type 0 = λ turned. Asks A g.W.World.honest g.H.History.copies m 1 q (Ok turned) c.ask.new.self in
    let asks : P (Wait c.in-Ok-Wait.field-0-0) = subst P c.in-Ok-Wait.field-0-is c.in-Ok-Wait.ensures in
    let driven = started_driven A g.W.World.honest g.W.World.opening g.W.World.numbers q m begun c.holds.ensures c.requires asks.0 refl in
    let f = c.fetch_wanted.ensures in
    let on = round_goes g.S.Source.fetched A g.W.World.honest g.H.History.copies q begun c.ask.new.self f.1 c.fetch_wanted.new.mount c.args.source.now c.fetch_wanted.new.source
    c.in-Ok-Wait.field-0-0 f.0 f.3
    f.5 driven asks.2 f.2 f.4 in
    (q, on.0)

pub returns-in-Ok-Done : goal.returns-in-Ok-Done
returns-in-Ok-Done g c =
    let A = g.T.Attempts.table in
    let q = c.args.request in
    let m = c.args.mount.now in
    let begun = after_start 1 q m in
    let P : Turned → Type 0 = λ turned. Asks A g.W.World.honest g.H.History.copies m 1 q (Ok turned) c.ask.new.self in
    let asks : P (Done c.in-Ok-Done.field-0-0 c.in-Ok-Done.reply) = subst P c.in-Ok-Done.field-0-is c.in-Ok-Done.ensures in
    let driven = started_driven A g.W.World.honest g.W.World.opening g.W.World.numbers q m begun c.holds.ensures c.requires asks.0 refl in
    (asks.0, done_drives g.S.Source.fetched A g.W.World.honest g.H.History.copies q begun c.ask.new.self c.args.source.now c.in-Ok-Done.field-0-0 c.in-Ok-Done.reply driven asks.2)

pub returns-in-Ok-Wait : goal.returns-in-Ok-Wait
returns-in-Ok-Wait g c =
    let A = g.T.Attempts.table in
    let q = c.args.request in
    let m = c.args.mount.now in
    let begun = after_start 1 q m in
    let P : Turned → Type 0 = λ turned. Asks A g.W.World.honest g.H.History.copies m 1 q (Ok turned) c.ask.new.self in
    let asks : P (Wait c.in-Ok-Wait.field-0-0) = subst P c.in-Ok-Wait.field-0-is c.in-Ok-Wait.ensures in
    let driven = started_driven A g.W.World.honest g.W.World.opening g.W.World.numbers q m begun c.holds.ensures c.requires asks.0 refl in
    let f = c.fetch_wanted.ensures in (
      asks.0,
      round_drives g.S.Source.fetched A g.W.World.honest g.H.History.copies q begun c.ask.new.self f.1 c.fetch_wanted.new.mount c.drive.new.mount c.args.source.now c.fetch_wanted.new.source
          c.drive.new.source c.in-Ok-Wait.field-0-0 f.0 c.drive.result f.3 f.5 driven asks.2 f.2 f.4 (λ on. c.drive.ensures q on),
    )
