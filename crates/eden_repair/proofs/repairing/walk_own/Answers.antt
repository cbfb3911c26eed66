use Rattle.std.proofs.Common.{rules, [], ◌≡◌, ◌∙◌, ◌++◌, true, false, map, refl, sym, ap, subst, nat_cmp}
use Rattle.std.specs.List.{list_any}
use Rattle.std.proofs.lemmas.List.Elements.{Contains-append_left}
use Rattle.std.specs.BTreeMap.{is_at}
use Rattle.std.specs.BTreeSet.{contains}
use Rattle.eden_repair.specs.Covering.{IsCovered, NoneIsOwn, none_seen}
use Rattle.eden_overlay.proofs.CallerLemmas.{contains_none, contains_rest}
use Rattle.eden_repair.specs.Surveying.{AreLed, way_of}
use Rattle.eden_repair.proofs.Left.{aside_there, below_there, next_back}
use Rattle.eden_repair.proofs.Steps.{all_led, all_so_far, begins, mended_less, none_there, so_far}
use Rattle.eden_repair.proofs.Whole.{below_up, empty_done, next_up, none_left, one_more, put_aside, unseen}
use Rattle.eden_repair.proofs.repairing.walk_own.Goals as goal

pub loop-directory-init : goal.loop-directory-init
loop-directory-init g c = record {
  mended = λ honest first led. begins (g.F.Files.stored c.args.files.now) first c.args.found.now.items c.args.met.now c.new-seen.result (c.new-saved.result.items ++ c.args.pending.items)
      c.requires.found c.requires.met c.new-seen.ensures.empty (subst (λ l. AreLed first (l ++ c.args.pending.items)) (sym c.new-saved.ensures.items) led);
  covered = λ honest root first.
      let F = g.F.Files.stored c.args.files.now in
      let met = contains nat_cmp c.args.met.now in
      let left = c.args.pending.items in
      subst (λ l. IsCovered F root (l ++ left) met (contains nat_cmp c.new-seen.result)) (sym c.new-saved.ensures.items)
      (unseen F root left met none_seen (contains nat_cmp c.new-seen.result) (none_there c.new-seen.result c.new-seen.ensures.empty) first);
  none_own = none_left c.new-saved.result.items c.new-saved.ensures.items;
  range = λ k has. let wrong : false ≡ true = ap (list_any (is_at (nat_cmp k))) (sym c.requires.met) ∙ has in absurd (cc);
  few = search rules;
  counted = refl;
}

pub loop-directory-preserved-in-Some : goal.loop-directory-preserved-in-Some
loop-directory-preserved-in-Some g c = record {
  mended = λ honest first led.
      let aside = c.loop-directory.saved.items in
      let before = c.pop.new.self.items in
      let next = next_back aside c.loop-directory.pending.items before c.in-Some.directory c.in-Some.ensures.items in
      let up = mended_less _ _ first _ _ _ _ _ next (c.loop-directory.invariant.mended honest first led) in
      mended_less _ _ first _ _ _ _ _ (below_there c.in_ok-below-in-Own.below.items aside before c.append.new.self.items c.in_ok-append-in-Own.ensures.items)
      (c.in_ok-below-in-Own.ensures.mended honest _ first (aside ++ before) up);
  covered = λ honest root first.
      let F = g.F.Files.stored c.loop-directory.files in
      let G = g.F.Files.stored c.mend_own.new.files in
      let x = c.in-Some.directory in
      let aside = c.loop-directory.saved.items in
      let before = c.pop.new.self.items in
      let met = contains nat_cmp c.loop-directory.met in
      let seen = contains nat_cmp c.loop-directory.seen in
      let m = c.loop-directory.invariant.mended honest (map way_of c.args.pending.items) (all_led c.args.pending.items) in
      let up = next_up F root met seen aside c.loop-directory.pending.items before x c.in-Some.ensures.items (c.loop-directory.invariant.covered honest root first) in
      subst (λ l. IsCovered G root (aside ++ l) (contains nat_cmp c.mend_own.new.met) (contains nat_cmp c.mend_own.new.seen)) (sym c.in_ok-append-in-Own.ensures.items)
      (below_up G root (contains nat_cmp c.mend_own.new.met) (contains nat_cmp c.mend_own.new.seen) c.in_ok-below-in-Own.below.items aside before
      (c.in_ok-below-in-Own.ensures.covered honest m.stayed m.met root (aside ++ before) up));
  none_own = c.loop-directory.invariant.none_own;
  range = search rules;
  few = search rules;
  counted = search rules;
}

pub loop-directory-preserved-in-Continue-branch-3 : goal.loop-directory-preserved-in-Continue-branch-3
loop-directory-preserved-in-Continue-branch-3 g c = record {
  mended = λ honest first led.
      let aside = c.loop-directory.saved.items in
      let before = c.pop.new.self.items in
      let x = c.in-Some.directory in
      let all = aside_there aside before x c.push.new.self.items c.in_ok-push-in-Object.ensures.items in
      mended_less _ _ first _ _ _ _ _ (λ y there. next_back aside c.loop-directory.pending.items before x c.in-Some.ensures.items y (all y there))
      (c.loop-directory.invariant.mended honest first led);
  covered = λ honest root first.
      let F = g.F.Files.stored c.loop-directory.files in
      let covered = IsCovered F root in
      subst (λ l. covered (l ++ c.pop.new.self.items) (contains nat_cmp c.loop-directory.met) (contains nat_cmp c.loop-directory.seen)) (sym c.in_ok-push-in-Object.ensures.items)
      (put_aside _ root _ _ c.loop-directory.saved.items _ c.in-Some.directory
      (next_up _ root _ _ c.loop-directory.saved.items _ _ c.in-Some.directory c.in-Some.ensures.items (c.loop-directory.invariant.covered honest root first)));
  none_own = subst NoneIsOwn (sym c.in_ok-push-in-Object.ensures.items)
      (one_more c.loop-directory.saved.items c.in-Some.directory c.in-Object.field-0 c.in-Object.is c.loop-directory.invariant.none_own);
  range = search rules;
  few = search rules;
  counted = search rules;
}

pub loop-directory-preserved : goal.loop-directory-preserved
loop-directory-preserved g c = record {
  mended = λ honest first led.
      let aside = c.loop-directory.saved.items in
      let before = c.pop.new.self.items in
      let x = c.in-Some.directory in
      mended_less _ _ first _ _ _ _ _ (λ y there. next_back aside c.loop-directory.pending.items before x c.in-Some.ensures.items y (contains_rest x y (aside ++ before) there))
      (c.loop-directory.invariant.mended honest first led);
  covered = λ honest root first.
      empty_done _ root c.in-Some.directory _ _ _ c.in-Empty.is
      (next_up _ root _ _ c.loop-directory.saved.items _ _ c.in-Some.directory c.in-Some.ensures.items (c.loop-directory.invariant.covered honest root first));
  none_own = c.loop-directory.invariant.none_own;
  range = search rules;
  few = search rules;
  counted = search rules;
}

pub returns-in_err-append-in-Own-clause-mended : goal.returns-in_err-append-in-Own-clause-mended
returns-in_err-append-in-Own-clause-mended g c = λ honest first led.
    let aside = c.loop-directory.saved.items in
    let before = c.pop.new.self.items in
    let up = mended_less _ _ first _ _ _ _ _ (next_back aside c.loop-directory.pending.items before c.in-Some.directory c.in-Some.ensures.items) (c.loop-directory.invariant.mended honest first led) in
    so_far _ _ first _ _ _ _ [] (λ y there. absurd (contains_none y there)) (c.in_ok-below-in-Own.ensures.mended honest _ first (aside ++ before) up)

pub returns-clause-led : goal.returns-clause-led
returns-clause-led g c = λ honest first led.
    let aside = c.loop-directory.saved.items in
    all_so_far _ _ first _ _ _ (aside ++ c.loop-directory.pending.items) aside (λ y there. Contains-append_left aside c.loop-directory.pending.items y there)
    (c.loop-directory.invariant.mended honest first led)
