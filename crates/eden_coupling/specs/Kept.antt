-- What an inode table keeps.
use Rattle.std.specs.Prelude.{◌≡◌, ◌≢◌, ◌≤◌, ℕ, Some}
use Rattle.eden_model.specs.declared.kind.Kind.TheVariants as kind
use Rattle.eden_model.specs.declared.kind.Origin.TheVariants as origin
use Rattle.eden_model.specs.Limits.{number_least, number_end}
use Rattle.eden_model.specs.Repository.{Repository, no_files}
use Rattle.eden_overlay_format.specs.Directory.{AreStorable}
use Rattle.eden_overlay.specs.Files.{Stored}
use Rattle.eden_tree.specs.Directory.{Row, Directory, child_of}
use Rattle.eden_coupling.specs.Listings.{Place, listing_of}
use Rattle.eden_coupling.specs.Shown.{IsFrom}
use Rattle.eden_coupling.specs.Ties.{Ties}

-- whatever the outside: the root is a directory of number 1, and each loaded directory can be stored
pub record IsTable (x : Row) (next : ℕ) : Type 0 where
  pub root : x.number ≡ 1
  pub kind : x.kind ≡ kind.Dir
  pub listed : (y : Row) (d : Directory) → Place x y → child_of y ≡ Some d → AreStorable (listing_of d)
  pub least : number_least ≤ next
  pub most : next ≤ number_end

-- where the outside is honest: the table is tied to the files, and a loaded directory that isn't its own has what it would
-- be loaded from
pub record IsKept (R : Repository) (F : Stored) (x : Row) (next : ℕ) : Type 0 where
  pub full : Stored
  pub ties : Ties F full x next
  pub agrees : (y : Row) (d : Directory) → Place x y → child_of y ≡ Some d → y.origin ≢ origin.Own → IsFrom R no_files y d
