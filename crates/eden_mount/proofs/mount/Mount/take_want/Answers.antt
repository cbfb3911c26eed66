use Rattle.eden_import.specs.Queue.{next_key}
use Rattle.eden_mount.specs.Kept.{core_from}
use Rattle.eden_mount.proofs.Keeping.{take_keeps}
use Rattle.eden_mount.proofs.mount.Mount.take_want.Goals as goal

pub invariant_of-self : goal.invariant_of-self
invariant_of-self g c =
    let a = c.self.inside in
    let m = core_from a.table a.imports a.seats.items (g.H.History.entries a.history) (g.H.History.limit a.history) in
    let e = c.take.ensures in
    let kept = take_keeps g.T.Attempts.table g.W.World.honest g.W.World.opening g.W.World.numbers m (next_key a.imports) c.take.new.self c.self.invariant.0.0 e.kept e.step in
    ((kept, c.self.invariant.0.1), c.self.invariant.1)
