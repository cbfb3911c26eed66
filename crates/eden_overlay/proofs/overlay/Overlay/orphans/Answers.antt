use Rattle.std.proofs.Common.{◌&&◌, List, ℕ, leb, not, sym, subst, nat_cmp}
use Rattle.std.specs.BTreeSet.{contains}
use Rattle.std.specs.List.Sorted.{IsStrictlySortedBy}
use Rattle.std.proofs.lemmas.List.Kept.{IsStrictlySortedBy-filter}
use Rattle.eden_model.specs.Limits.{number_least}
use Rattle.eden_overlay.specs.Files.{Stored, ListsNumbers}
use Rattle.eden_overlay.specs.Tidying.{ListsOrphans}
use Rattle.eden_overlay.proofs.Tidied.{orphans_listed}
use Rattle.eden_overlay.proofs.overlay.Overlay.orphans.Goals as goal

pub returns-clause-all : goal.returns-clause-all
returns-clause-all g c = λ honest.
    let F = g.F.Files.stored c.args.self.now in
    let P : List ℕ → Type 0 = λ ks. ListsOrphans ks F c.args.root in
    let Q : Stored → Type 0 = λ X. ListsNumbers c.in_ok-numbers.numbers.items X in
    subst P (sym c.unnamed.ensures)
    (orphans_listed F c.args.root (contains nat_cmp c.in_ok-named.named) (c.in_ok-named.ensures.all honest) c.in_ok-numbers.numbers.items
    (subst Q (c.named.ensures.unchanged honest) (c.in_ok-numbers.ensures.all honest)))

pub returns-clause-rising : goal.returns-clause-rising
returns-clause-rising g c =
    subst (IsStrictlySortedBy nat_cmp) (sym c.unnamed.ensures)
    (IsStrictlySortedBy-filter nat_cmp (λ k. leb number_least k && not (contains nat_cmp c.in_ok-named.named k)) c.in_ok-numbers.numbers.items c.in_ok-numbers.ensures.rising)
