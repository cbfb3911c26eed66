use Rattle.std.proofs.Common.{◌≡◌, List, Result, Ok, Err, subst, arith}
use Rattle.std.specs.Prelude.{IsOk}
use Rattle.eden_shared.specs.declared.account.Terms.{Terms}
use Rattle.eden_shared.specs.Passes.{Carried, newcomers}
use Rattle.eden_shared.specs.Terms.{Meets}
use Rattle.eden_host.proofs.CallerLemmas.{newcomers_terms}
use Rattle.eden_fuse_host.specs.Hands.{IsServed}
use Rattle.eden_fuse_host.proofs.Gathering.{each_stays, served_seats, terms_stay}
use Rattle.eden_fuse_host.proofs.sharing.show_passes.Goals as goal

-- an error is no success
never : {T E : Type 0} (r : Result T E) (e : E) → r ≡ Err e → ¬ IsOk r
never (Ok x) e is ok = absurd (cc is)
never (Err f) e is ok = absurd (cc ok)

pub unreachable-requires : goal.unreachable-requires
unreachable-requires g c =
    let same = served_seats g.V.Receiver g.O.Sender (g.G.Lines.comes c.args.lines.now) g.W.World.honest g.W.World.opening g.W.World.numbers c.args.manner _ _ _ _ c.show_by-passes.ensures in
    never _ _ c.in-Err.is (c.finish.ensures.each (each_stays _ _ _ same c.requires.each))

pub returns : goal.returns
returns g c = λ terms passes.
    let A = g.T.Attempts.table in
    let left = c.show_by-passes.result.0.items in
    let Comes = g.G.Lines.comes c.args.lines.now in
    let served = subst (λ (ps : List Carried). IsServed g.V.Receiver g.O.Sender Comes g.W.World.honest g.W.World.opening g.W.World.numbers c.args.manner ps left
    c.show_by-passes.result.1 c.show_by-passes.result.2) passes c.show_by-passes.ensures in
    let agrees = c.in-Ok.ensures.ok in
    let first = agrees.told.each.each 1 (omega arith) c.holds.ensures.queue.some_passes.0 in
    let seats = served_seats g.V.Receiver g.O.Sender Comes g.W.World.honest g.W.World.opening g.W.World.numbers c.args.manner (newcomers terms 1 terms.passes) left
    c.show_by-passes.result.1 c.show_by-passes.result.2 served in
    let same = terms_stay terms (newcomers terms 1 terms.passes) left first.1 first.0 seats (newcomers_terms terms 1 terms.passes) first.2 in
    record {
      ended = c.in-Ok.mount;
      is = record {
        left = left;
        served = served;
        agrees = agrees;
        kept = subst (λ (t : Terms). Meets A t c.in-Ok.mount) same (agrees.kept first.1 first.0 first.2);
        legal = c.holds.ensures.legal;
        shown = c.holds.ensures.shown;
        backed = c.holds.ensures.backed;
      };
      table = c.into_table-table.ensures;
    }
