-- A loaded directory that goes along with its entry.
use Rattle.std.specs.Prelude.{◌≡◌, ◌≢◌, ◌++◌, ◌∷◌, ◌⊎◌, ℕ, [], false, Option, Some, None, IsSome}
use Rattle.eden_model.specs.declared.kind.Kind.TheVariants as kind
use Rattle.eden_model.specs.declared.kind.Origin.TheVariants as origin
use Rattle.eden_model.specs.Paths.{behind_of}
use Rattle.eden_model.specs.Repository.{Repository, no_files}
use Rattle.eden_model.specs.Trees.{Name, Path}
use Rattle.eden_overlay_format.specs.Directory.{AreStorable}
use Rattle.eden_overlay.specs.Files.{Stored}
use Rattle.eden_overlay.specs.Held.{HoldsEntries}
use Rattle.eden_tree.specs.Directory.{Row, Directory, child_of, with_child}
use Rattle.eden_tree.specs.Paths.{row_at, edit_row}
use Rattle.eden_coupling.specs.Chains.{IsLoadedAt}
use Rattle.eden_coupling.specs.Changing.{with_listing}
use Rattle.eden_coupling.specs.Kept.{IsKept}
use Rattle.eden_coupling.specs.Listings.{listing_of}
use Rattle.eden_coupling.specs.NumberSaves.{HasStored}
use Rattle.eden_coupling.specs.Numberings.{in_files}
use Rattle.eden_coupling.specs.Shown.{IsFrom}
use Rattle.eden_coupling.specs.Unloading.{HasNoneInside}
use Rattle.eden_materialise.specs.Puts.{AtDirectory}
use Rattle.eden_ops.specs.Relocating.{CanRelocate, IsUnloadedAt}

-- the entry at the path, if any, is the mount's own
abbrev pub IsOwnAt : Path → Row → Type 0
IsOwnAt p x = (y : Row) → row_at p x ≡ Some y → y.origin ≡ origin.Own

-- the directory that is loaded at the path, if any, is saved, with none loaded inside
abbrev pub IsBareAt : Path → Row → Type 0
IsBareAt p x = AtDirectory p x (λ y d. (d.unsaved ≡ false) × HasNoneInside d)

-- what was loaded is so, but for what stands below the path
abbrev pub StaysToThere : Path → Row → Row → Type 0
StaysToThere p x z = (q : Path) → (behind_of p q ≡ None) ⊎ (q ≡ p) → IsLoadedAt q x → IsLoadedAt q z

-- The entry at the one path can go to the other, with the directory that it holds, if any: that is bare, the directories
-- above both are the mount's own, and what stands there isn't loaded.
pub record CanCarry (x : Row) (from to : Path) : Type 0 where
  pub can : CanRelocate x from to
  pub bare : IsBareAt from x
  pub to_unloaded : IsUnloadedAt to x
  pub own_from : (p : Path) (n : Name) → from ≡ p ++ n ∷ [] → IsOwnAt p x
  pub own_to : (p : Path) (n : Name) → to ≡ p ++ n ∷ [] → IsOwnAt p x

-- ---- it is taken out, and put back

-- the entry at the path holds a directory, which is saved and has none loaded inside
pub record IsReady (p : Path) (x : Row) : Type 0 where
  pub row : Row
  pub directory : Directory
  pub at : row_at p x ≡ Some row
  pub holds : child_of row ≡ Some directory
  pub saved : directory.unsaved ≡ false
  pub none_inside : HasNoneInside directory

-- the table without the directory that is loaded at a path
abbrev pub without_at : Path → Row → Row
without_at p x = edit_row p (with_child None) x

-- z is x without the directory that was loaded at the path, which is this
pub record Takes (p : Path) (x z : Row) (o : Option Directory) : Type 0 where
  pub is : z ≡ without_at p x
  pub taken : (y : Row) → row_at p x ≡ Some y → (o ≡ child_of y) × (IsSome (child_of y) → y.kind ≡ kind.Dir)

-- The entry at the path is a directory and holds none, and this one may be put there: it is saved, with none loaded inside.
-- If the outside is honest, the entry's own file lists it; or the entry isn't the mount's own, and the table with it is kept. What
-- is stored for the entry is what it has, with its numbers.
pub record CanHold (honest : Type 0) (R : Repository) (F : Stored) (next : ℕ) (p : Path) (x : Row) (d : Directory) : Type 0 where
  pub row : Row
  pub at : row_at p x ≡ Some row
  pub dir : row.kind ≡ kind.Dir
  pub empty : child_of row ≡ None
  pub saved : d.unsaved ≡ false
  pub none_inside : HasNoneInside d
  pub storable : AreStorable (listing_of d)
  pub held : honest → row.origin ≡ origin.Own → HoldsEntries F row.number (listing_of d)
  pub from : honest → row.origin ≢ origin.Own → IsFrom R no_files row d
  pub kept : honest → row.origin ≢ origin.Own → IsKept R F (with_listing p d x) next
  pub numbers : honest → HasStored (in_files F) row d
