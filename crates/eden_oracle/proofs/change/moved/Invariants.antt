use Rattle.std.proofs.Common.{◌≡◌, take}
use Rattle.eden_model.specs.Operations.{move}
use Rattle.eden_oracle.specs.Rows.{tree_of}
use Rattle.eden_model.specs.Trees.{Path}
use Rattle.eden_oracle.proofs.change.moved.Given as goal

-- the rows so far, moved
abbrev pub invariant-loop-path : goal.invariant-loop-path
invariant-loop-path g l = (q : Path) → tree_of l.all.items q ≡ move (tree_of (take l.path-index l.rows)) l.from l.to q
