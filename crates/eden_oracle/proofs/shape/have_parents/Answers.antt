use Rattle.std.proofs.Common.{◌∙◌, sym}
use Rattle.eden_oracle.specs.Rows.{tree_of}
use Rattle.eden_oracle.proofs.Shapes.{row_has_parent, one_more_parent}
use Rattle.eden_oracle.proofs.shape.have_parents.Goals as goal

pub returns-then-not-has_parent : goal.returns-then-not-has_parent
returns-then-not-has_parent c = (
  λ e. cc,
  λ all. sym c.if-not-has_parent.true ∙ c.has_parent.ensures.1
      (row_has_parent (tree_of c.args.rows.now) c.args.rows.now c.loop-path.path-index c.loop-path-item.result c.as_slice.result.now c.loop-path-test.true c.loop-path-item.is c.as_slice.ensures all),
)

pub loop-path-preserved : goal.loop-path-preserved
loop-path-preserved c = one_more_parent
    (tree_of c.args.rows.now) c.args.rows.now c.loop-path.path-index c.loop-path-item.result c.as_slice.result.now c.loop-path-test.true c.loop-path-item.is c.as_slice.ensures c.loop-path.invariant
    (c.has_parent.ensures.0 c.if-not-has_parent.false)
