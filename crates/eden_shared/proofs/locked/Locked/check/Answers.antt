use Rattle.std.proofs.Common.{◌+◌, ◌∙◌, Some, sym, ap, subst}
use Rattle.eden_shared.specs.declared.account.Terms.{Terms}
use Rattle.eden_shared.specs.Passes.{Carried, carried, IsKnown}
use Rattle.eden_shared.specs.Terms.{Meets}
use Rattle.eden_shared.proofs.Holding.{known}
use Rattle.eden_shared.proofs.locked.Locked.check.Goals as goal

pub returns-clause-known : goal.returns-clause-known
returns-clause-known g c =
    let m = c.self.inside.mount in let here = c.pass.inside in
    let A = g.T.Attempts.table in
    let is = known m _ c.self.invariant.terms here.number here.end.value c.pass.invariant.0.0 c.self.invariant.valued c.look.ensures.lane in
    let knows : IsKnown A m (carried here.end.value.terms here.number (here.known + 1) here.end.value.told) = record {
      free = is.0 ∙ ap Some c.pass.invariant.1;
      told = is.1;
      kept = subst (λ (t : Terms). Meets A t m) (sym is.2) c.self.invariant.kept;
    } in
    subst (λ l. IsKnown A l.mount c.args.pass.now) c.self.view_is (subst (λ (p : Carried). IsKnown A m p) c.pass.view_is knows)
