-- An entry that moves: when it can, in words of memory alone.
use Rattle.std.specs.Prelude.{◌≡◌, ◌≢◌, [], ◌∷◌, ◌++◌, Some, None}
use Rattle.eden_model.specs.declared.kind.Origin.TheVariants as origin
use Rattle.eden_model.specs.Trees.{Name, Path}
use Rattle.eden_tree.specs.Directory.{Row, Directory, child_of}
use Rattle.eden_tree.specs.Rows.{find_row}
use Rattle.eden_tree.specs.Paths.{row_at}
use Rattle.eden_coupling.specs.Changing.{MayGo}

-- an entry that isn't loaded can move from the directory at the one path to that at the other, or to another name of the same
-- one: both are loaded and their own, and what stands there isn't loaded
pub record CanMove (x : Row) (p : Path) (n : Name) (q : Path) (m : Name) : Type 0 where
  pub from : Row
  pub source : Directory
  pub entry : Row
  pub at_from : row_at p x ≡ Some from
  pub holds_source : child_of from ≡ Some source
  pub own_from : from.origin ≡ origin.Own
  pub there : find_row n source.rows ≡ Some entry
  pub unloaded : child_of entry ≡ None
  pub to : Row
  pub target : Directory
  pub at_to : row_at q x ≡ Some to
  pub holds_target : child_of to ≡ Some target
  pub own_to : to.origin ≡ origin.Own
  pub may_go : MayGo target m
  pub other : p ++ n ∷ [] ≢ q ++ m ∷ []
