-- What tests ask of a table before they change it or read from it.
use Rattle.std.specs.Prelude.{◌≡◌, ◌≢◌, ◌<◌, ◌≤◌, ◌^◌, ◌-◌, ℕ, Some, None, length}
use Rattle.eden_model.specs.declared.kind.Kind.TheVariants as kind
use Rattle.eden_model.specs.declared.kind.Origin.TheVariants as origin
use Rattle.eden_model.specs.Limits.{number_least}
use Rattle.eden_model.specs.Names.{name_refusal}
use Rattle.eden_model.specs.Trees.{Name, Path}
use Rattle.eden_tree.specs.Directory.{Row, Directory, child_of}
use Rattle.eden_tree.specs.Paths.{row_at}
use Rattle.eden_coupling.specs.Changing.{MayGo}

-- there is room for one entry more under a name that is one, and what stands there isn't loaded
pub record IsOpen (n : Name) (d : Directory) : Type 0 where
  pub named : name_refusal n ≡ None
  pub room : length d.rows < 2 ^ 32 - 1
  pub may_go : MayGo d n

-- the directory at the path is loaded, and open under the name
pub record IsOpenAt (p : Path) (n : Name) (x : Row) : Type 0 where
  pub row : Row
  pub directory : Directory
  pub at : row_at p x ≡ Some row
  pub holds : child_of row ≡ Some directory
  pub opens : IsOpen n directory

-- an entry of the mount's own, with a number that was given, and not loaded
pub record IsNewOwn (next : ℕ) (z : Row) : Type 0 where
  pub own : z.origin ≡ origin.Own
  pub least : number_least ≤ z.number
  pub given : z.number < next
  pub unloaded : child_of z ≡ None

-- a file or a link of the mount's own stands at the path
pub record IsOwnFile (p : Path) (x : Row) : Type 0 where
  pub row : Row
  pub at : row_at p x ≡ Some row
  pub own : row.origin ≡ origin.Own
  pub kind : row.kind ≢ kind.Dir
