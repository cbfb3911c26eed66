use Rattle.std.proofs.Common.{take}
use Rattle.std.specs.List.{All}
use Rattle.eden_oracle.specs.Rows.{tree_of}
use Rattle.eden_model.specs.Trees.{HasParent}
use Rattle.eden_oracle.proofs.shape.have_parents.Given as goal

abbrev pub invariant-loop-path : goal.invariant-loop-path
invariant-loop-path l = All (λ row. HasParent (tree_of l.rows) row.0) (take l.path-index l.rows)
