-- What tests ask of a table before an entry goes or moves.
use Rattle.std.specs.Prelude.{◌≡◌, ◌≢◌, ◌⊎◌, Some, None}
use Rattle.eden_model.specs.declared.kind.Origin.TheVariants as origin
use Rattle.eden_model.specs.Trees.{Name, Path}
use Rattle.eden_tree.specs.Directory.{Row, Directory, child_of}
use Rattle.eden_tree.specs.Rows.{find_row}
use Rattle.eden_tree.specs.Paths.{row_at}
use Rattle.eden_coupling.specs.Changing.{MayGo}

-- an entry of that name is there, and not loaded
pub record HasUnloaded (n : Name) (d : Directory) : Type 0 where
  pub entry : Row
  pub there : find_row n d.rows ≡ Some entry
  pub unloaded : child_of entry ≡ None

-- the directory at the path is loaded and the mount's own, and has such an entry
pub record IsSource (p : Path) (n : Name) (x : Row) : Type 0 where
  pub row : Row
  pub directory : Directory
  pub at : row_at p x ≡ Some row
  pub holds : child_of row ≡ Some directory
  pub own : row.origin ≡ origin.Own
  pub has : HasUnloaded n directory

-- .. and has no loaded directory under that name
pub record IsTarget (p : Path) (n : Name) (x : Row) : Type 0 where
  pub row : Row
  pub directory : Directory
  pub at : row_at p x ≡ Some row
  pub holds : child_of row ≡ Some directory
  pub own : row.origin ≡ origin.Own
  pub may_go : MayGo directory n

-- an entry may move from the one name to the other
pub record CanRename (p : Path) (n : Name) (q : Path) (m : Name) (x : Row) : Type 0 where
  pub source : IsSource p n x
  pub target : IsTarget q m x
  pub other : (n ≢ m) ⊎ (p ≢ q)
