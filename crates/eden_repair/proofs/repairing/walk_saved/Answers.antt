use Rattle.std.proofs.Common.{rules, [], refl, sym, subst, nat_cmp}
use Rattle.std.specs.BTreeSet.{contains}
use Rattle.eden_repair.specs.Covering.{IsCovered, NoneIsOwn, none_seen}
use Rattle.eden_repair.proofs.Whole.{below_up, next_up, none_but, none_more, skipped}
use Rattle.eden_overlay.proofs.CallerLemmas.{contains_none, contains_rest}
use Rattle.eden_repair.proofs.Left.{below_there, next_back}
use Rattle.eden_repair.proofs.Steps.{forgets_less, forgets_none, forgets_then, some_still}
use Rattle.eden_repair.proofs.repairing.walk_saved.Goals as goal

pub loop-directory-init : goal.loop-directory-init
loop-directory-init g c = record {
  forgets = λ honest first stayed led are. forgets_none _ _ first stayed _ _ _ _ refl refl led are;
  covered = λ honest root first. first;
  none_own = c.requires.none_own;
  range = c.requires.met;
  few = c.requires.few;
  counted = refl;
}

pub returns-in_err-below-clause-forgets : goal.returns-in_err-below-clause-forgets
returns-in_err-below-clause-forgets g c = λ honest first stayed led are.
    some_still _ _ _ first stayed _ _ _ (c.loop-directory.invariant.forgets honest first stayed led are).some (c.in_err-below.ensures.there honest) c.in_err-below.ensures.untold

pub returns-in_err-append-clause-forgets : goal.returns-in_err-append-clause-forgets
returns-in_err-append-clause-forgets g c = λ honest first stayed led are.
    let x = c.in-Some.directory in
    let all = forgets_then _ _ _ first stayed _ _ _ _ _ _ c.pop.new.self.items c.in_ok-below.below.items [] x
    (next_back [] c.loop-directory.pending.items c.pop.new.self.items x c.in-Some.ensures.items) (λ y there. absurd (contains_none y there))
    (c.loop-directory.invariant.forgets honest first stayed led are) (c.in_ok-below.ensures.forgets honest) in
    all.some

pub loop-directory-preserved-in-Object : goal.loop-directory-preserved-in-Object
loop-directory-preserved-in-Object g c = record {
  forgets = λ honest first stayed led are.
      let x = c.in-Some.directory in
      let before = c.pop.new.self.items in
      let below = c.in_ok-below.below.items in
      forgets_then _ _ _ first stayed _ _ _ _ _ _ before below c.append.new.self.items x (next_back [] c.loop-directory.pending.items before x c.in-Some.ensures.items)
      (below_there below [] before c.append.new.self.items c.in_ok-append.ensures.items) (c.loop-directory.invariant.forgets honest first stayed led are) (c.in_ok-below.ensures.forgets honest);
  covered = λ honest root first.
      let F = g.F.Files.stored c.loop-directory.files in
      let G = g.F.Files.stored c.mend_saved.new.files in
      let x = c.in-Some.directory in
      let before = c.pop.new.self.items in
      let met = contains nat_cmp c.mend_saved.new.met in
      let up = next_up F root (contains nat_cmp c.loop-directory.met) none_seen [] c.loop-directory.pending.items before x c.in-Some.ensures.items
      (c.loop-directory.invariant.covered honest root first) in
      subst (λ l. IsCovered G root l met none_seen) (sym c.in_ok-append.ensures.items)
      (below_up G root met none_seen c.in_ok-below.below.items [] before (c.in_ok-below.ensures.covered honest root before up));
  none_own = subst NoneIsOwn (sym c.in_ok-append.ensures.items) (none_more c.pop.new.self.items c.in_ok-below.below.items
      (none_but c.loop-directory.pending.items c.pop.new.self.items c.in-Some.directory c.in-Some.ensures.items c.loop-directory.invariant.none_own) c.in_ok-below.ensures.none_own);
  range = search rules;
  few = search rules;
  counted = search rules;
}

pub loop-directory-preserved : goal.loop-directory-preserved
loop-directory-preserved g c = record {
  forgets = λ honest first stayed led are.
      let x = c.in-Some.directory in
      forgets_less _ _ first stayed _ _ _ _ _ (λ y there. next_back [] c.loop-directory.pending.items c.pop.new.self.items x c.in-Some.ensures.items y (contains_rest x y c.pop.new.self.items there))
      (c.loop-directory.invariant.forgets honest first stayed led are);
  covered = λ honest root first.
      skipped (g.F.Files.stored c.loop-directory.files) root c.in-Some.directory c.loop-directory.pending.items c.pop.new.self.items (contains nat_cmp c.loop-directory.met) none_seen
      c.in-Some.ensures.items c.in_default-origin.not-Object c.loop-directory.invariant.none_own (c.loop-directory.invariant.covered honest root first);
  none_own = none_but c.loop-directory.pending.items c.pop.new.self.items c.in-Some.directory c.in-Some.ensures.items c.loop-directory.invariant.none_own;
  range = search rules;
  few = search rules;
  counted = search rules;
}

pub returns-clause-forgets : goal.returns-clause-forgets
returns-clause-forgets g c = λ honest first stayed led are. (c.loop-directory.invariant.forgets honest first stayed led are).some
