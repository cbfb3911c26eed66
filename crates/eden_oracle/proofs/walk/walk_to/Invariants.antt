use Rattle.std.proofs.Common.{◌≡◌, take, drop}
use Rattle.eden_oracle.specs.Rows.{tree_of}
use Rattle.eden_model.specs.Trees.{walk, walk_from}
use Rattle.eden_oracle.proofs.walk.walk_to.Given as goal

-- the walk from here ends as the whole one
abbrev pub invariant-loop-k : goal.invariant-loop-k
invariant-loop-k l = walk_from (tree_of l.rows) (take l.k l.path) (drop l.k l.path) ≡ walk (tree_of l.rows) l.path
