-- Loaded directories that go.
use Rattle.std.specs.Prelude.{◌≡◌, ◌≤◌, ◌-◌, ◌+◌, ◌⊎◌, ℕ, true, false, Option, Some, None, IsSome}
use Rattle.eden_model.specs.declared.id.Id.{Id}
use Rattle.eden_model.specs.declared.kind.Origin.TheVariants as origin
use Rattle.eden_model.specs.Trees.{Name, Path}
use Rattle.eden_overlay_format.specs.Directory.{AreStorable}
use Rattle.eden_overlay.specs.declared.files.FilesFault.{FilesFault}
use Rattle.eden_overlay.specs.Files.{Stored}
use Rattle.eden_overlay.specs.Held.{with_entries}
use Rattle.eden_overlay.specs.Soundness.{AreSound}
use Rattle.eden_tree.specs.Directory.{Row, Directory, child_of, with_child}
use Rattle.eden_tree.specs.Rows.{find_row}
use Rattle.eden_tree.specs.Paths.{row_at, edit_row}
use Rattle.eden_coupling.specs.Listings.{listing_of}

-- no entry of the directory holds a loaded one
abbrev pub HasNoneInside : Directory → Type 0
HasNoneInside d = (n : Name) (z : Row) → find_row n d.rows ≡ Some z → child_of z ≡ None

-- Stored files and a table, and then the same where one loaded directory went: it was old enough, with none inside, and
-- where it was marked unsaved it was stored first. What is stored is known where the outside is honest.
pub record Goes (honest : Type 0) (clock age : ℕ) (F : Stored) (x : Row) (G : Stored) (z : Row) : Type 0 where
  pub path : Path
  pub row : Row
  pub directory : Directory
  pub at : row_at path x ≡ Some row
  pub holds : child_of row ≡ Some directory
  pub old : age ≤ clock - directory.stamp
  pub none_inside : HasNoneInside directory
  pub gone : z ≡ edit_row path (with_child None) x
  pub saved : honest → directory.unsaved ≡ false → G ≡ F
  pub stored : honest → directory.unsaved ≡ true → G ≡ with_entries F row.number (listing_of directory)

-- so many went, one after the other; of an outside that isn't honest, the files may be any
pub data Unloads (honest : Type 0) (clock age : ℕ) (F : Stored) (x : Row) : Stored → Row → ℕ → Type 0 where
  none : Unloads honest clock age F x F x 0
  one_more : (G : Stored) (y : Row) (c : ℕ) (H : Stored) (z : Row) → Unloads honest clock age F x G y c → Goes honest clock age G y H z
      → Unloads honest clock age F x H z (c + 1)
  same_files : (G : Stored) (y : Row) (c : ℕ) (H : Stored) → Unloads honest clock age F x G y c → (honest → H ≡ G) → Unloads honest clock age F x H y c

-- a directory that is stored before it goes: one that is unsaved, or on a tree object, whose numbers are saved
abbrev pub IsStoredFirst : Row → Directory → Type 0
IsStoredFirst y d = (d.unsaved ≡ true) ⊎ ((id : Id) × (y.origin ≡ origin.Object id))

-- what is still loaded is too young, has a loaded directory inside, or had to be stored where a store was refused
abbrev pub IsSettled : ℕ → ℕ → Option FilesFault → Row → Type 0
IsSettled clock age refused x = (p : Path) (y : Row) (d : Directory) → row_at p x ≡ Some y → child_of y ≡ Some d
    → age ≤ clock - d.stamp → HasNoneInside d → IsStoredFirst y d × IsSome refused

-- every loaded directory can be stored
abbrev pub AreListed : Row → Type 0
AreListed x = (p : Path) (y : Row) (d : Directory) → row_at p x ≡ Some y → child_of y ≡ Some d → AreStorable (listing_of d)

-- however many go, what is left can be stored, and the files are sound
abbrev pub MayUnload : Type 0 → ℕ → ℕ → Stored → Row → Type 0
MayUnload honest clock age F x = (G : Stored) (z : Row) (c : ℕ) → Unloads honest clock age F x G z c → AreListed z × (honest → AreSound G)
