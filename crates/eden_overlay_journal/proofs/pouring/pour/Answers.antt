use Rattle.std.proofs.Common.{◌≡◌, ◌∙◌, List, ℕ, All, ap, subst, sym}
use Rattle.eden_overlay.specs.Files.{Stored}
use Rattle.eden_overlay_journal.specs.Changes.{Changes, ListsChanges, changed_files}
use Rattle.eden_overlay_journal.proofs.Poured.{all_done, emptied}
use Rattle.eden_overlay_journal.proofs.pouring.pour.Goals as goal

pub returns-clause-same : goal.returns-clause-same
returns-clause-same g c = λ honest.
    let C = g.J.Journal.changes c.args.journal.now in
    let D = g.J.Journal.changes c.pour_all.new.journal in
    let F = g.F.Files.stored c.args.files.now in
    let f = g.F.Files.stored c.pour_all.new.files in
    let t : Stored = changed_files C F in
    let ks = c.deref.result.now in
    let was = c.settle.ensures.unchanged honest ∙ c.in_ok-numbers.ensures.unchanged honest in
    let seen : changed_files C f ≡ t = subst (λ (x : Changes). changed_files x f ≡ changed_files x F) was (c.in_ok-pour_all.ensures.same honest) in
    let done : All (λ k. f k ≡ t k) ks = subst (λ (x : Changes). All (λ k. f k ≡ changed_files x F k) ks) was (c.in_ok-pour_all.ensures.ok honest) in
    let lists : ListsChanges ks C = subst (λ (l : List ℕ). ListsChanges l C) (sym c.deref.ensures.value) (c.in_ok-numbers.ensures.all honest) in
    let said = g.J.Journal.changes c.empty_poured.new.journal in
    ap (changed_files said) (c.empty_poured.ensures.files honest)
    ∙ emptied c.empty_poured.result D said f t (c.empty_poured.ensures.ok honest) (c.empty_poured.ensures.err honest) (all_done C f t ks seen lists done)
    (ap (λ (x : Changes). changed_files x f) (c.in_ok-pour_all.ensures.journal honest ∙ was) ∙ seen)
