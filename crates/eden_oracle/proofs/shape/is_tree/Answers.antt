use Rattle.eden_oracle.proofs.Shapes.{tree_from_rows, parents_from_tree}
use Rattle.eden_oracle.proofs.shape.is_tree.Goals as goal

pub returns-then-has_root : goal.returns-then-has_root
returns-then-has_root c = (
  λ e. tree_from_rows c.args.rows.now (c.has_root.ensures.0 c.if-has_root.true) (c.have_parents.ensures.0 e),
  λ t. c.have_parents.ensures.1 (parents_from_tree c.args.rows.now t),
)
