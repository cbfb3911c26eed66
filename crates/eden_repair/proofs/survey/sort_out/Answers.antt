use Rattle.std.proofs.Common.{rules, arith, length, ◌≤◌, ◌∙◌, ◌++◌, ◌∷◌, [], sym, subst, nat_cmp}
use Rattle.std.specs.BTreeSet.{contains}
use Rattle.std.proofs.lemmas.List.{append-nil, length-append, map-id}
use Rattle.std.proofs.lemmas.Iterator.Adapters.{YieldsList-from_vec}
use Rattle.std.proofs.lemmas.Iterator.Consumers.{YieldsList-turn, YieldsList-end}
use Rattle.eden_overlay_format.specs.Directory.{IsStorable}
use Rattle.eden_overlay.specs.Files.{Stored}
use Rattle.eden_repair.specs.Repairing.{Sorts, ways_below}
use Rattle.eden_repair.specs.Surveying.{AreOf, SortsOn}
use Rattle.eden_repair.specs.Covering.{AreBelow, AreNew}
use Rattle.eden_repair.proofs.Covered.{below_none, new_none}
use Rattle.eden_repair.proofs.Steps.{each_at, led_none_of}
use Rattle.eden_repair.proofs.survey.sort_out.Goals as goal

pub entries-init : goal.entries-init
entries-init g c =
    let F = g.F.Files.stored c.args.files.now in
    let at = c.args.path.now in
    let was = contains nat_cmp c.args.met.now in
    record {
      new = subst (λ l. AreNew l was was) (sym c.in_ok-new.ensures) (new_none was was (λ k had. had));
      below = subst (λ l. AreBelow l c.new-3.result.items) (sym c.in_ok-new.ensures) (subst (AreBelow []) (sym c.new-3.ensures.items) below_none);
      led = led_none_of (ways_below at c.in_ok-new.field-0) c.new-3.result.items c.new-3.ensures.items;
      sorts = λ honest stayed met. record {
        sorts = subst (λ l. Sorts F at stayed [] l c.new-4.result.items) (sym c.in_ok-new.ensures) (subst (λ l. Sorts F at stayed [] [] l) (sym c.new-4.ensures.items) Sorts.none);
        met = subst (λ l. AreOf was (stayed ++ l)) (sym c.in_ok-new.ensures) (subst (AreOf was) (sym (append-nil stayed)) met);
      };
      more = search rules;
      range = c.requires.met;
      few = c.requires.few;
      short = search rules;
      unchanged = search rules;
      counted = search rules;
    }

pub sort_one-requires-clause-storable : goal.sort_one-requires-clause-storable
sort_one-requires-clause-storable g c =
    let items = c.args.entries.items in
    let e = c.in-Some.entry in
    let given = c.into_iter-entry-iterator.ensures.into_iter_gives in
    let all = YieldsList-from_vec {s = c.into_iter-entry-iterator.result} items given.0 (given.1 ∙ c.args.entries.ok.0) in
    let turn = YieldsList-turn all c.entries.yielded c.entries.entry-iterator c.entries.yielded_by c.next.result c.next.new.self e c.in-Some.is c.next.ensures.steps in
    subst IsStorable (sym turn.1) (each_at IsStorable items _ e c.requires.storable.each turn.0)

pub entries-preserved : goal.entries-preserved
entries-preserved g c = record {
  new = c.in_ok-sorted.ensures.new (contains nat_cmp c.args.met.now) c.entries.invariant.new;
  below = c.in_ok-sorted.ensures.below c.entries.invariant.below;
  led = c.in_ok-sorted.ensures.led c.entries.invariant.led;
  sorts = λ honest stayed met.
      let at = c.args.path.now in
      let yielded = c.entries.yielded in
      let before = c.entries.sorted in
      let inv = c.entries.invariant.sorts honest stayed met in
      let same = c.entries.invariant.unchanged honest in
      subst (λ (X : Stored). SortsOn X at stayed (yielded ++ c.in-Some.entry ∷ []) c.in_ok-sorted.sorted (contains nat_cmp c.sort_one.new.met)) same
      (c.in_ok-sorted.ensures.sorts honest stayed yielded inv.met (subst (λ (X : Stored). Sorts X at stayed yielded before.listing before.cut.items) (sym same) inv.sorts));
  more = let a = c.entries.invariant.more in let b = c.in_ok-sorted.ensures.more in omega arith;
  range = search rules;
  few = search rules;
  short =
      let a = c.entries.invariant.short in
      let b = c.in_ok-sorted.ensures.short in
      subst (λ n. length c.in_ok-sorted.sorted.listing ≤ n) (sym (length-append c.entries.yielded (c.in-Some.entry ∷ []))) (omega arith);
  unchanged = search rules;
  counted = search rules;
}

pub returns-clause-sorts : goal.returns-clause-sorts
returns-clause-sorts g c = λ honest stayed met.
    let items = c.args.entries.items in
    let yielded = c.entries.yielded in
    let given = c.into_iter-entry-iterator.ensures.into_iter_gives in
    let all = YieldsList-from_vec {s = c.into_iter-entry-iterator.result} items given.0 (given.1 ∙ c.args.entries.ok.0) in
    let last = YieldsList-end all yielded c.entries.entry-iterator c.entries.yielded_by c.next.result c.next.new.self c.in-None.is c.next.ensures.steps in
    subst (λ l. SortsOn (g.F.Files.stored c.args.files.now) c.args.path.now stayed l c.entries.sorted (contains nat_cmp c.entries.met)) (sym (map-id yielded) ∙ last.0)
    (c.entries.invariant.sorts honest stayed met)
