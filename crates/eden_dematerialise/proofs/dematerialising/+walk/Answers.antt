use Rattle.std.proofs.Common.{◌∙◌, ◌≤◌, ℕ, List, [], ◌∷◌, Contains, length, IfSome, sym, ap, subst, inl, inr}
use Rattle.std.proofs.lemmas.Iterator.Adapters.{YieldsList-from_vec}
use Rattle.std.proofs.lemmas.Iterator.Consumers.{YieldsList-so_far, YieldsList-turn, YieldsList-end}
use Rattle.std.proofs.lemmas.List.{map-id}
use Rattle.std.proofs.lemmas.List.Elements.{Contains-append_left, Contains-push, Contains-push_cases}
use Rattle.eden_model.specs.declared.id.Id.{Id}
use Rattle.eden_model.specs.declared.tree_entry.TreeEntry.{TreeEntry}
use Rattle.eden_overlay.specs.Files.{Stored}
use Rattle.eden_overlay.specs.Held.{HoldsEntries, entries_at}
use Rattle.eden_overlay.proofs.CallerLemmas.{contains_none}
use Rattle.eden_dematerialise.specs.Dematerialising.{Dematerialises, NoneIsLeft, Stand}
use Rattle.eden_dematerialise.specs.Settling.{AreFrom, AreLed, AreSettled}
use Rattle.eden_dematerialise.proofs.Left.{from_above, leads_below, leads_then, none_comes, none_left, none_there, on_ok, taken_there}
use Rattle.eden_dematerialise.proofs.Steps.{nothing, then}
use Rattle.eden_dematerialise.proofs.dematerialising.+walk.Given as given
use Rattle.eden_dematerialise.proofs.dematerialising.+walk.Goals as goal

pub directory-returns-in_err-entries-clause-done : goal.directory-returns-in_err-entries-clause-done
directory-returns-in_err-entries-clause-done g t c = λ honest. nothing g.W.World.repository c.args.number c.args.tree _ _ (c.entries_of.ensures.unchanged honest)

pub directory-returns-in_default-clause-done : goal.directory-returns-in_default-clause-done
directory-returns-in_default-clause-done g t c = λ honest. nothing g.W.World.repository c.args.number c.args.tree _ _ (c.entries_of.ensures.unchanged honest)

pub directory-returns-in_err-commit-clause-done : goal.directory-returns-in_err-commit-clause-done
directory-returns-in_err-commit-clause-done g t c = λ honest. nothing g.W.World.repository c.args.number c.args.tree _ _ (c.entries_of.ensures.unchanged honest)

pub directory-returns-in_err-listing-clause-done : goal.directory-returns-in_err-listing-clause-done
directory-returns-in_err-listing-clause-done g t c = λ honest.
    nothing g.W.World.repository c.args.number c.args.tree _ _ (c.with_entries.ensures.unchanged honest ∙ c.entries_of.ensures.unchanged honest)

pub directory-returns-in_default-clause-left : goal.directory-returns-in_default-clause-left
directory-returns-in_default-clause-left g t c = λ honest.
    let none = c.in_ok-entries.ensures.none honest c.in_default.is in
    none_there g.W.World.repository _ c.args.number c.args.tree (ap (λ (X : Stored). entries_at X c.args.number) (c.entries_of.ensures.unchanged honest) ∙ none)

pub directory-returns-clause-done : goal.directory-returns-clause-done
directory-returns-clause-done g t c = λ honest.
    let R = g.W.World.repository in
    let F = g.F.Files.stored c.args.files.now in
    let G = g.F.Files.stored c.store.new.files in
    let entries = c.in-Some.entries.items in
    let read = c.entries_of.ensures.unchanged honest in
    let same = c.with_entries.ensures.unchanged honest ∙ read in
    let made = c.in_ok-listing.field-0 in
    let commit = c.in_ok-commit.commit.items in
    let had = c.in_ok-commit.ensures honest in
    let is_commit = c.as_slice.ensures.value in
    let held : HoldsEntries F c.args.number entries =
    subst (λ o. IfSome o (λ v. HoldsEntries F c.args.number v.items)) c.in-Some.is (c.in_ok-entries.ensures.held honest) in
    let stand : Stand R F commit entries made.listing =
    subst (λ (X : Stored). Stand R X commit entries made.listing) read
    (subst (λ (es : List TreeEntry). Stand R (g.F.Files.stored c.entries_of.new.files) es entries made.listing) is_commit (c.in_ok-listing.ensures.stand honest)) in
    let first = subst (λ (X : Stored). Dematerialises R c.args.number c.args.tree X G) same
    (c.store.ensures.done honest c.args.tree commit entries had
    (subst (λ (X : Stored). HoldsEntries X c.args.number entries) (sym same) held) (subst (λ (X : Stored). Stand R X commit entries made.listing) (sym same) stand)) in
    let from : AreFrom commit made.listing made.below.items = subst (λ (es : List TreeEntry). AreFrom es made.listing made.below.items) is_commit (c.in_ok-listing.ensures.from honest) in
    then R c.args.number c.args.tree F G (g.F.Files.stored c.inside.new.files) first
    (c.inside.ensures.done honest c.args.number c.args.tree c.requires.number
    (λ x there. leads_below R F G c.args.number c.args.tree commit entries made.listing x c.requires.number first had held stand (from x there)))

pub directory-returns-clause-left : goal.directory-returns-clause-left
directory-returns-clause-left g t c = λ honest.
    let R = g.W.World.repository in
    let F = g.F.Files.stored c.args.files.now in
    let G = g.F.Files.stored c.store.new.files in
    let H = g.F.Files.stored c.inside.new.files in
    let entries = c.in-Some.entries.items in
    let read = c.entries_of.ensures.unchanged honest in
    let same = c.with_entries.ensures.unchanged honest ∙ read in
    let made = c.in_ok-listing.field-0 in
    let commit = c.in_ok-commit.commit.items in
    let is_commit = c.as_slice.ensures.value in
    let held : HoldsEntries F c.args.number entries =
    subst (λ o. IfSome o (λ v. HoldsEntries F c.args.number v.items)) c.in-Some.is (c.in_ok-entries.ensures.held honest) in
    let stand : Stand R F commit entries made.listing =
    subst (λ (X : Stored). Stand R X commit entries made.listing) read
    (subst (λ (es : List TreeEntry). Stand R (g.F.Files.stored c.entries_of.new.files) es entries made.listing) is_commit (c.in_ok-listing.ensures.stand honest)) in
    let still = subst (λ (X : Stored). HoldsEntries X c.args.number entries) (sym same) held in
    let stands = subst (λ (X : Stored). Stand R X commit entries made.listing) (sym same) stand in
    let had = c.in_ok-commit.ensures honest in
    let first = subst (λ (X : Stored). Dematerialises R c.args.number c.args.tree X G) same (c.store.ensures.done honest c.args.tree commit entries had still stands) in
    let from : AreFrom commit made.listing made.below.items = subst (λ (es : List TreeEntry). AreFrom es made.listing made.below.items) is_commit (c.in_ok-listing.ensures.from honest) in
    let more = c.inside.ensures.done honest c.args.number c.args.tree c.requires.number
    (λ x there. leads_below R F G c.args.number c.args.tree commit entries made.listing x c.requires.number first had held stand (from x there)) in
    let settled : AreSettled R F commit made.listing =
    subst (λ (X : Stored). AreSettled R X commit made.listing) read
    (subst (λ (es : List TreeEntry). AreSettled R (g.F.Files.stored c.entries_of.new.files) es made.listing) is_commit (c.in_ok-listing.ensures.settled honest)) in
    let led : AreLed commit made.listing made.below.items = subst (λ (es : List TreeEntry). AreLed es made.listing made.below.items) is_commit c.in_ok-listing.ensures.led in
    on_ok c.inside.result
    (none_left R c.args.number c.args.tree F G H c.args.number c.args.tree commit made.listing made.below.items c.requires.number first
    (c.in_ok-store.ensures.held honest commit entries still stands c.in_ok-listing.ensures.same) settled had led more)
    (c.inside.ensures.left honest)

pub inside-returns-then-is_empty-clause-done : goal.inside-returns-then-is_empty-clause-done
inside-returns-then-is_empty-clause-done g t c = λ honest k tree least led. Dematerialises.begun

pub inside-returns-then-levels-eq0-clause-done : goal.inside-returns-then-levels-eq0-clause-done
inside-returns-then-levels-eq0-clause-done g t c = λ honest k tree least led. Dematerialises.begun

pub inside-below-init : goal.inside-below-init
inside-below-init g t c = record {
  done = λ honest k tree least led. Dematerialises.begun;
  left = λ honest x there. absurd (contains_none x there);
  least = λ x there. absurd (contains_none x there);
}

-- the next one's number is a directory's too
least_next : (g : given.Over) {t : ℕ} (c : goal.inside-In_ok-directory g t) → 1 ≤ c.in-Some.number
least_next g c =
    let items = c.args.below.items in
    let given = c.into_iter-number-iterator.ensures.into_iter_gives in
    let all = YieldsList-from_vec {s = c.into_iter-number-iterator.result} items given.0 (given.1 ∙ c.args.below.ok.0) in
    let turn = YieldsList-turn all c.below.yielded c.below.number-iterator c.below.yielded_by c.next.result c.next.new.self (c.in-Some.number, c.in-Some.tree) c.in-Some.is c.next.ensures.steps in
    subst (λ (y : ℕ × Id). 1 ≤ y.0) (sym turn.1) (c.requires.numbers _ _ turn.0)

pub inside-below-preserved : goal.inside-below-preserved
inside-below-preserved g t c = record {
  done = λ honest k tree least led.
      let R = g.W.World.repository in
      let item : ℕ × Id = (c.in-Some.number, c.in-Some.tree) in
      let before = c.below.invariant.done honest k tree least (λ x there. led x (Contains-append_left c.below.yielded (item ∷ []) x there)) in
      let here = leads_then R k tree _ _ k tree item.0 item.1 least before (led item (Contains-push c.below.yielded item)) in
      then R k tree _ _ _ before (from_above R k tree item.0 item.1 _ _ least here (c.directory.ensures.done honest));
  left = λ honest x there.
      let R = g.W.World.repository in
      elim (Contains-push_cases c.below.yielded (c.in-Some.number, c.in-Some.tree) x there) [
        | inl before ↦ none_comes R c.in-Some.number c.in-Some.tree _ _ x.0 x.1 (c.below.invariant.least x before) (c.directory.ensures.done honest) (c.below.invariant.left honest x before)
        | inr is ↦
            subst (λ (y : ℕ × Id). NoneIsLeft R (g.F.Files.stored c.directory.new.files) y.0 y.1) is (c.in_ok-directory.ensures.left honest)
      ];
  least = λ x there. elim (Contains-push_cases c.below.yielded (c.in-Some.number, c.in-Some.tree) x there) [
    | inl before ↦ c.below.invariant.least x before
    | inr is ↦ subst (λ (y : ℕ × Id). 1 ≤ y.0) is (least_next g c)
  ];
}

pub inside-returns-in_err-directory-clause-done : goal.inside-returns-in_err-directory-clause-done
inside-returns-in_err-directory-clause-done g t c = λ honest k tree least led.
    let R = g.W.World.repository in
    let items = c.args.below.items in
    let yielded = c.below.yielded in
    let item : ℕ × Id = (c.in-Some.number, c.in-Some.tree) in
    let given = c.into_iter-number-iterator.ensures.into_iter_gives in
    let all = YieldsList-from_vec {s = c.into_iter-number-iterator.result} items given.0 (given.1 ∙ c.args.below.ok.0) in
    let front = YieldsList-so_far all yielded c.below.number-iterator c.below.yielded_by in
    let turn = YieldsList-turn all yielded c.below.number-iterator c.below.yielded_by c.next.result c.next.new.self item c.in-Some.is c.next.ensures.steps in
    let before = c.below.invariant.done honest k tree least (λ x there. led x (taken_there yielded items x front there)) in
    let here = leads_then R k tree _ _ k tree item.0 item.1 least before (led item (length yielded, turn.0, sym turn.1)) in
    then R k tree _ _ _ before (from_above R k tree item.0 item.1 _ _ least here (c.directory.ensures.done honest))

pub inside-returns-clause-done : goal.inside-returns-clause-done
inside-returns-clause-done g t c = λ honest k tree least led.
    let items = c.args.below.items in
    let yielded = c.below.yielded in
    let given = c.into_iter-number-iterator.ensures.into_iter_gives in
    let all = YieldsList-from_vec {s = c.into_iter-number-iterator.result} items given.0 (given.1 ∙ c.args.below.ok.0) in
    let front = YieldsList-so_far all yielded c.below.number-iterator c.below.yielded_by in
    c.below.invariant.done honest k tree least (λ x there. led x (taken_there yielded items x front there))

pub inside-returns-clause-left : goal.inside-returns-clause-left
inside-returns-clause-left g t c = λ honest x there.
    let items = c.args.below.items in
    let yielded = c.below.yielded in
    let given = c.into_iter-number-iterator.ensures.into_iter_gives in
    let all = YieldsList-from_vec {s = c.into_iter-number-iterator.result} items given.0 (given.1 ∙ c.args.below.ok.0) in
    let last = YieldsList-end all yielded c.below.number-iterator c.below.yielded_by c.next.result c.next.new.self c.in-None.is c.next.ensures.steps in
    c.below.invariant.left honest x (subst (λ (l : List (ℕ × Id)). Contains l x) (sym (sym (map-id yielded) ∙ last.0)) there)
