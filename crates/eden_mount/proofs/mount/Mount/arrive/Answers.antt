use Rattle.std.proofs.Common.{◌≡◌, Bool, true, cond, ap, ◌∙◌, rules}
use Rattle.eden_import.specs.Keys.{has_key}
use Rattle.eden_import.specs.Queue.{after_done}
use Rattle.eden_mount.specs.Kept.{core_from}
use Rattle.eden_mount.proofs.Keeping.{fail_keeps, land_keeps, retable, same_backs}
use Rattle.eden_mount.proofs.Placing.{retabled}
use Rattle.eden_mount.proofs.mount.Mount.arrive.Goals as goal

pub invariant_of-self : goal.invariant_of-self
invariant_of-self g c =
    let a = c.self.inside in
    let A = g.T.Attempts.table in
    let m = core_from a.table a.imports a.seats.items (g.H.History.entries a.history) (g.H.History.limit a.history) in
    let e = c.done.ensures in
    let flies : has_key c.args.key a.imports.flight ≡ true = search rules in
    let step : c.done.new.self ≡ after_done c.args.key a.imports = e.step ∙ ap (λ (b : Bool). cond b (after_done c.args.key a.imports) a.imports) flies in
    let kept = land_keeps A g.W.World.honest g.W.World.opening g.W.World.numbers m c.args.key c.keep.new.table c.done.new.self c.self.invariant.0.0 e.kept step c.in-Ok.ensures.ok.2.tree
    (same_backs A g.W.World.honest g.W.World.opening g.W.World.numbers a.table c.keep.new.table c.in-Ok.ensures.ok.2.numbers c.in-Ok.ensures.ok.2.next) in
    ((kept, c.self.invariant.0.1), retabled g.T.Attempts.leads a.table c.keep.new.table a.seats.items a.places.items c.in-Ok.ensures.places c.self.invariant.1)

pub invariant_of-self-in-Err : goal.invariant_of-self-in-Err
invariant_of-self-in-Err g c =
    let a = c.self.inside in
    let A = g.T.Attempts.table in
    let m = core_from a.table a.imports a.seats.items (g.H.History.entries a.history) (g.H.History.limit a.history) in
    let q = c.failed.new.self in
    let kept = fail_keeps A g.W.World.honest g.W.World.opening g.W.World.numbers m c.args.key c.in-Err.cause q c.self.invariant.0.0 c.failed.ensures.kept c.failed.ensures.step in
    let shows = retable A g.W.World.honest g.W.World.opening g.W.World.numbers (record m { queue = q }) c.keep.new.table kept (λ _. ap A.shown c.in-Err.ensures.err.1)
    (λ _. same_backs A g.W.World.honest g.W.World.opening g.W.World.numbers a.table c.keep.new.table (ap A.numbers c.in-Err.ensures.err.1) (ap A.next c.in-Err.ensures.err.1)) in
    ((shows, c.self.invariant.0.1), retabled g.T.Attempts.leads a.table c.keep.new.table a.seats.items a.places.items c.keep.ensures.places c.self.invariant.1)
