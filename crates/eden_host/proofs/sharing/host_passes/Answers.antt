use Rattle.std.proofs.Common.{◌≡◌, List, Result, Ok, Err, subst, arith}
use Rattle.std.specs.Prelude.{IfOk, IsOk}
use Rattle.eden_shared.specs.declared.account.Terms.{Terms}
use Rattle.eden_shared.specs.Passes.{Agrees, Carried, newcomers}
use Rattle.eden_shared.specs.Terms.{Meets}
use Rattle.eden_host.specs.Sessions.{AreHosted}
use Rattle.eden_host.proofs.Beginning.{newcomers_terms}
use Rattle.eden_host.proofs.Gathering.{terms_stay}
use Rattle.eden_host.proofs.sharing.host_passes.Goals as goal

-- an error is no success
never : {T E : Type 0} (r : Result T E) (e : E) → r ≡ Err e → ¬ IsOk r
never (Ok x) e is ok = absurd (cc is)
never (Err f) e is ok = absurd (cc ok)

pub unreachable-requires : goal.unreachable-requires
unreachable-requires g c = never _ _ c.in-Err.is c.host-hosted.ensures.whole

pub returns : goal.returns
returns g c = λ terms passes.
    let told = c.host-hosted.ensures.told in
    let A = g.T.Attempts.table in
    let hosted = subst (λ (ps : List Carried). AreHosted g.I.Read g.O.Write g.W.World.honest g.W.World.opening g.W.World.numbers ps told.0 c.host-hosted.result.outcome) passes told.1 in
    let agrees = subst (λ r. IfOk r (λ m. Agrees A m told.0)) c.in-Ok.is told.2 in
    let first = agrees.told.each.each 1 (omega arith) c.holds.ensures.queue.some_passes.0 in
    let same = terms_stay g.I.Read g.O.Write g.W.World.honest g.W.World.opening g.W.World.numbers terms (newcomers terms 1 terms.passes) told.0 c.host-hosted.result.outcome hosted
    (newcomers_terms terms 1 terms.passes) first.1 first.0 first.2 in
    record {
      ended = c.in-Ok.mount;
      is = record {
        left = told.0;
        hosted = hosted;
        agrees = agrees;
        kept = subst (λ (t : Terms). Meets A t c.in-Ok.mount) same (agrees.kept first.1 first.0 first.2);
        legal = c.holds.ensures.legal;
        shown = c.holds.ensures.shown;
        backed = c.holds.ensures.backed;
      };
      table = c.into_table-table.ensures;
    }
