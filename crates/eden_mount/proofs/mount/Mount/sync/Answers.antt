use Rattle.eden_mount.specs.Kept.{core_from}
use Rattle.eden_mount.proofs.Keeping.{sync_keeps}
use Rattle.eden_mount.proofs.Placing.{retabled}
use Rattle.eden_mount.proofs.mount.Mount.sync.Goals as goal

pub invariant_of-self : goal.invariant_of-self
invariant_of-self g c =
    let a = c.self.inside in
    let m = core_from a.table a.imports a.seats.items (g.H.History.entries a.history) (g.H.History.limit a.history) in
    let kept = sync_keeps g.T.Attempts.table g.W.World.honest g.W.World.opening g.W.World.numbers m c.sync.result c.sync.new.self c.self.invariant.0.0 c.sync.ensures.syncs in
    ((kept, c.self.invariant.0.1), retabled g.T.Attempts.leads a.table c.sync.new.self a.seats.items a.places.items c.sync.ensures.places c.self.invariant.1)
