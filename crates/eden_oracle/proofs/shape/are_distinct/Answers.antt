use Rattle.std.proofs.Common.{refl, sym, ◌∙◌}
use Rattle.eden_oracle.proofs.Shapes.{distinct_step, comes_twice, distinct_end}
use Rattle.eden_oracle.proofs.shape.are_distinct.Goals as goal

pub returns-then-is_some : goal.returns-then-is_some
returns-then-is_some c = (
  λ e. cc,
  λ d. absurd (comes_twice c.args.rows.now c.loop-k.k c.index-rows-k.result c.as_slice.result.now c.find.result c.loop-k-test.true c.as_slice.ensures c.find.ensures
      (sym c.is_some.ensures ∙ c.if-is_some.true) c.loop-k.invariant d),
)

pub loop-k-preserved : goal.loop-k-preserved
loop-k-preserved c = distinct_step c.args.rows.now c.loop-k.k c.index-rows-k.result c.as_slice.result.now c.find.result c.loop-k-test.true c.as_slice.ensures c.find.ensures
    (sym c.is_some.ensures ∙ c.if-is_some.false) c.loop-k.invariant

pub returns : goal.returns
returns c = (λ e. distinct_end c.args.rows.now c.loop-k.k c.loop-k-test.false c.loop-k.invariant, λ d. refl)
