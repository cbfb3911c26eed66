use Rattle.std.proofs.Common.{◌≡◌, ◌∙◌, [], sym, refl, subst, inl, inr}
use Rattle.std.proofs.lemmas.Bool.{eqb-true}
use Rattle.std.proofs.lemmas.List.{nil_from_length}
use Rattle.eden_overlay.specs.Files.{Stored}
use Rattle.eden_overlay.specs.Held.{HoldsState}
use Rattle.eden_overlay.specs.Tidying.{ListsOrphans}
use Rattle.eden_checkout.specs.declared.opening.Opening.TheVariants as opening
use Rattle.eden_checkout.specs.Opening.{of_rescan}
use Rattle.eden_checkout.specs.Tidying.{IsTidyRefusal}
use Rattle.eden_checkout.proofs.Opened.{handed_up, refused_of}
use Rattle.eden_checkout.proofs.Rescanned.{rescan_refused}
use Rattle.eden_checkout.proofs.Tidied.{none_stored, none_listed, listed_over}
use Rattle.eden_checkout.proofs.tidying.closed_orphans.Goals as goal

pub returns-in_err-state-clause-refused : goal.returns-in_err-state-clause-refused
returns-in_err-state-clause-refused g c =
    let honest = g.W.World.honest in
    let F = g.F.Files.stored c.args.overlay.now in
    let G = g.F.Files.stored c.list.new.self in
    let old = g.F.Files.failures c.args.overlay.now in
    let looked = g.F.Files.failures c.list.new.self in
    let new = g.F.Files.failures c.stored_state.new.overlay in
    let passed = c.in_ok-numbers.was in
    let count : looked ≡ old = c.list.ensures.counted.same (λ failed. cc) in
    let fault = c.in_err-state.field-0.0 in
    handed_up c.from_residual-in_err-state.result fault (IsTidyRefusal honest F old new) c.from_residual-in_err-state.ensures.1
    (inl (λ root. refused_of honest F G old looked new c.list.ensures.unchanged count opening.Closed root fault (c.in_err-state.ensures.refused root)))

pub returns-in_err-orphans-clause-refused : goal.returns-in_err-orphans-clause-refused
returns-in_err-orphans-clause-refused g c =
    let honest = g.W.World.honest in
    let F = g.F.Files.stored c.args.overlay.now in
    let G = g.F.Files.stored c.stored_state.new.overlay in
    let old = g.F.Files.failures c.args.overlay.now in
    let looked = g.F.Files.failures c.stored_state.new.overlay in
    let new = g.F.Files.failures c.orphans.new.self in
    let passed = c.in_ok-numbers.was in
    let listed : g.F.Files.failures c.list.new.self ≡ old = c.list.ensures.counted.same (λ failed. cc) in
    let count : looked ≡ old = c.in_ok-state.ensures.unfailed ∙ listed in
    let fault = c.in_err-orphans.field-0.0 in
    let root = c.in_ok-state.state.root in
    let held : honest → HoldsState F c.in_ok-state.state = λ outside. subst (λ (X : Stored). HoldsState X c.in_ok-state.state) (c.list.ensures.unchanged outside) (c.in_ok-state.ensures.ok outside) in
    handed_up c.from_residual-in_err-orphans.result (of_rescan fault) (IsTidyRefusal honest F old new) c.from_residual-in_err-orphans.ensures.1
    (inr (
      root,
      (
        refused_of honest F G old looked new (λ outside. c.stored_state.ensures.unchanged outside ∙ c.list.ensures.unchanged outside) count opening.Rescan root (of_rescan fault)
            (rescan_refused honest root G looked new fault c.in_err-orphans.ensures.refused),
        λ outside. inr (c.in_ok-state.state, (held outside, refl)),
      ),
    ))

pub returns-then-is_empty-clause-all : goal.returns-then-is_empty-clause-all
returns-then-is_empty-clause-all g c = λ honest root over.
    let F = g.F.Files.stored c.args.overlay.now in
    let ks = c.in_ok-numbers.numbers.items in
    let zero : c.in_ok-numbers.numbers.len ≡ 0 = eqb-true c.in_ok-numbers.numbers.len 0 (sym c.if-is_empty.ensures) in
    let empty : ks ≡ [] = nil_from_length ks (sym c.in_ok-numbers.numbers.ok.0 ∙ zero) in
    none_listed F ks (none_stored F ks (c.in_ok-numbers.ensures.all honest) empty) empty root

pub returns-clause-all : goal.returns-clause-all
returns-clause-all g c = λ honest root over.
    let F = g.F.Files.stored c.args.overlay.now in
    let ks = c.in_ok-orphans.field-0.items in
    let state = c.in_ok-state.state in
    let held = subst (λ (X : Stored). HoldsState X state) (c.list.ensures.unchanged honest) (c.in_ok-state.ensures.ok honest) in
    let same = c.stored_state.ensures.unchanged honest ∙ c.list.ensures.unchanged honest in
    listed_over F ks state held (subst (λ (X : Stored). ListsOrphans ks X state.root) same (c.in_ok-orphans.ensures.all honest)) root over
