use Rattle.std.proofs.Common.{arith, sym, ◌∙◌, ◌-◌}
use Rattle.eden_tree.proofs.Halving.{half_left, few_steps}
use Rattle.eden_tree.proofs.RowLemmas.{less_through, greater_through}
use Rattle.eden_tree.proofs.search.search.Goals as goal

pub overflow_add-compared : goal.overflow_add-compared
overflow_add-compared g c = omega (arith, few_steps (c.loop-low.high - c.loop-low.low) c.loop-low.compared _ (omega arith) c.loop-low.invariant.halved 32 c.requires.few)

pub loop-low-preserved-in-Less : goal.loop-low-preserved-in-Less
loop-low-preserved-in-Less g c = record {
  within = (omega arith, c.loop-low.invariant.within.1);
  less = less_through c.args.items.now c.args.name.now _ c.index-items-middle.result c.requires.rising (omega arith) (sym c.cmp.ensures ∙ c.in-Less.is);
  greater = c.loop-low.invariant.greater;
  halved = half_left _ (c.loop-low.high - c.loop-low.low) _ _ (omega arith) c.loop-low.invariant.halved;
  before = few_steps (c.loop-low.high - c.loop-low.low) _ _ (omega arith) c.loop-low.invariant.halved;
}

pub returns-in-Equal-clause-compared : goal.returns-in-Equal-clause-compared
returns-in-Equal-clause-compared g c = few_steps (c.loop-low.high - c.loop-low.low) _ _ (omega arith) c.loop-low.invariant.halved

pub loop-low-preserved : goal.loop-low-preserved
loop-low-preserved g c = record {
  within = (omega arith, omega arith);
  less = c.loop-low.invariant.less;
  greater = greater_through c.args.items.now c.args.name.now _ c.index-items-middle.result c.requires.rising (omega arith) (sym c.cmp.ensures ∙ c.in-Greater.is);
  halved = half_left _ (c.loop-low.high - c.loop-low.low) _ _ (omega arith) c.loop-low.invariant.halved;
  before = few_steps (c.loop-low.high - c.loop-low.low) _ _ (omega arith) c.loop-low.invariant.halved;
}
