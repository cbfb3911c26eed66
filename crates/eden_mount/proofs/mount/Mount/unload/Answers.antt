use Rattle.eden_mount.specs.Kept.{core_from}
use Rattle.eden_mount.proofs.Keeping.{unload_keeps}
use Rattle.eden_mount.proofs.Placing.{retabled}
use Rattle.eden_mount.proofs.mount.Mount.unload.Goals as goal

pub invariant_of-self : goal.invariant_of-self
invariant_of-self g c =
    let a = c.self.inside in
    let m = core_from a.table a.imports a.seats.items (g.H.History.entries a.history) (g.H.History.limit a.history) in
    let kept = unload_keeps g.T.Attempts.table g.W.World.honest g.W.World.opening g.W.World.numbers m c.args.path.now c.args.older_than c.unload.result c.unload.new.self c.self.invariant.0.0
    c.unload.ensures.unloads in
    ((kept, c.self.invariant.0.1), retabled g.T.Attempts.leads a.table c.unload.new.self a.seats.items a.places.items c.unload.ensures.places c.self.invariant.1)
