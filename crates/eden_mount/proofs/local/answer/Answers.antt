use Rattle.std.proofs.Common.{refl}
use Rattle.eden_mount.specs.Core.{after_start}
use Rattle.eden_mount.proofs.Driving.{started_serves}
use Rattle.eden_mount.proofs.local.answer.Goals as goal

pub returns-in-Ok : goal.returns-in-Ok
returns-in-Ok g c =
    let A = g.T.Attempts.table in
    let q = c.args.request in
    let m = c.args.mount.now in
    started_serves A g.W.World.honest g.W.World.opening g.W.World.numbers q m (after_start 1 q m) c.holds.ensures c.requires c.in-Ok.ensures.0 refl g.H.History.copies g.S.Source.fetched
    c.finish.new.mount c.let_go.new.mount c.args.source.now c.finish.new.source c.in-Ok.reply g.T.Attempts.few c.in-Ok.ensures.1 c.let_go.ensures
