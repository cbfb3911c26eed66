-- A tree without empty directories.
use Rattle.std.specs.Prelude.{◌≡◌, true, [], ◌++◌, Some, None}
use Rattle.eden_model.specs.declared.node.Node.{Node}
use Rattle.eden_model.specs.declared.node.Node.TheVariants.{Dir}
use Rattle.eden_model.specs.Trees.{Path, Tree}

-- at the path and below it stand listed directories alone: no file, no link, and none whose entries aren't known
abbrev pub IsEmptyAt : Tree → Path → Type 0
IsEmptyAt F p = (below : Path) (node : Node) → F (p ++ below) ≡ Some node → node ≡ Dir true

-- The second tree is the first with empty directories left out. The top stays.
pub record IsPruned (whole pruned : Tree) : Type 0 where
  pub top : pruned [] ≡ whole []
  pub within : (p : Path) (node : Node) → pruned p ≡ Some node → whole p ≡ Some node
  pub rest : (p : Path) → pruned p ≡ None → IsEmptyAt whole p
