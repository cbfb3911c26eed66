use Rattle.std.proofs.Common.{rules, nat_cmp}
use Rattle.std.specs.BTreeSet.{contains}
use Rattle.eden_repair.proofs.Covered.{one_new}
use Rattle.eden_repair.proofs.Steps.{none_led, one_of, twice_now, twice_still}
use Rattle.eden_repair.proofs.saved.take_in.Goals as goal

pub entries-preserved-in_ok-below : goal.entries-preserved-in_ok-below
entries-preserved-in_ok-below c = record {
  twice = λ not known are. twice_still known c.entries.yielded c.in-Some.entry (c.entries.invariant.twice not known are);
  all = λ known are. one_of known c.entries.yielded c.in-Some.entry _ _ (c.entries.invariant.all known are) c.in_ok-meet.ensures.one;
  new = λ are. one_new c.entries.yielded c.in-Some.entry (contains nat_cmp c.args.met.now) (contains nat_cmp c.entries.met) (contains nat_cmp c.meet.new.met)
      (c.entries.invariant.new are) (c.in_ok-meet.ensures.met c.if-not-branch.false);
  below = λ are. c.in_ok-below.ensures.below c.entries.yielded (c.entries.invariant.below are);
  led = c.in_ok-below.ensures.led c.entries.yielded c.entries.invariant.led;
  stay = search rules;
  more = search rules;
  range = search rules;
  few = search rules;
}

pub entries-preserved : goal.entries-preserved
entries-preserved c = record {
  twice = λ not known are. twice_still known c.entries.yielded c.in-Some.entry (c.entries.invariant.twice not known are);
  all = λ known are. one_of known c.entries.yielded c.in-Some.entry _ _ (c.entries.invariant.all known are) c.in_ok-meet.ensures.one;
  new = λ are. one_new c.entries.yielded c.in-Some.entry (contains nat_cmp c.args.met.now) (contains nat_cmp c.entries.met) (contains nat_cmp c.meet.new.met)
      (c.entries.invariant.new are) (c.in_ok-meet.ensures.met c.if-not-branch.false);
  below = λ are. c.in_ok-below.ensures.below c.entries.yielded (c.entries.invariant.below are);
  led = c.in_ok-below.ensures.led c.entries.yielded c.entries.invariant.led;
  stay = search rules;
  more = search rules;
  range = search rules;
  few = search rules;
}

pub entries-preserved-then-not-branch : goal.entries-preserved-then-not-branch
entries-preserved-then-not-branch c = record {
  twice = λ not known are.
      twice_now known c.entries.yielded c.in-Some.entry (contains nat_cmp c.entries.met) (c.entries.invariant.all known are) (c.in_ok-meet.ensures.old c.if-not-branch.true);
  all = λ known are. one_of known c.entries.yielded c.in-Some.entry _ _ (c.entries.invariant.all known are) c.in_ok-meet.ensures.one;
  new = search rules;
  below = search rules;
  led = none_led c.args.path.now c.entries.yielded c.entries.below.items c.in-Some.entry c.entries.invariant.led;
  stay = search rules;
  more = search rules;
  range = search rules;
  few = search rules;
}
