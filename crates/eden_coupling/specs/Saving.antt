-- Directories that are unsaved, and are stored again.
use Rattle.std.specs.Prelude.{◌≡◌, ◌++◌, ◌∷◌, ℕ, Bool, true, false, Some}
use Rattle.std.specs.Option.{option_map}
use Rattle.eden_model.specs.Repository.{Repository}
use Rattle.eden_model.specs.Trees.{Name, Path}
use Rattle.eden_overlay.specs.Files.{Stored}
use Rattle.eden_overlay.specs.Held.{with_entries}
use Rattle.eden_tree.specs.Directory.{Row, Directory, child_of}
use Rattle.eden_tree.specs.Paths.{row_at, Standing, standing_at}
use Rattle.eden_coupling.specs.Chains.{IsUnsavedAt, NoneMarked}
use Rattle.eden_coupling.specs.Changing.{with_listing}
use Rattle.eden_coupling.specs.Kept.{IsTable, IsKept}
use Rattle.eden_coupling.specs.Listings.{listing_of}
use Rattle.eden_coupling.specs.Shown.{shown_in}

-- the directory, and saved
abbrev pub saved : Directory → Directory
saved d = record d { unsaved = false }

-- Stored files and a table, and then the same once the loaded directory at a path, which was unsaved, was stored as it is in
-- memory. What is stored is known where the outside is honest.
pub record Saves (honest : Type 0) (p : Path) (F : Stored) (x : Row) (G : Stored) (z : Row) : Type 0 where
  pub row : Row
  pub directory : Directory
  pub at : row_at p x ≡ Some row
  pub holds : child_of row ≡ Some directory
  pub unsaved : directory.unsaved ≡ true
  pub stored : honest → G ≡ with_entries F row.number (listing_of directory)
  pub then : z ≡ with_listing p (saved directory) x

-- .. and so some directories above the entry at a path, one after the other
pub data SavesAbove (honest : Type 0) (p : Path) (F : Stored) (x : Row) : Stored → Row → Type 0 where
  none : SavesAbove honest p F x F x
  one_more : (front : Path) (n : Name) (rest : Path) (G : Stored) (y : Row) (H : Stored) (z : Row) → p ≡ front ++ n ∷ rest → SavesAbove honest p F x G y
      → Saves honest front G y H z → SavesAbove honest p F x H z
  same_files : (G : Stored) (y : Row) (H : Stored) → SavesAbove honest p F x G y → (honest → H ≡ G) → SavesAbove honest p F x H y

-- no directory above the entry at a path is unsaved
abbrev pub IsSavedAbove : Path → Row → Type 0
IsSavedAbove p x = (front : Path) (n : Name) (rest : Path) → p ≡ front ++ n ∷ rest → ¬ IsUnsavedAt front x

-- an entry as it stands, whatever its directory's mark
abbrev pub unmarked : Standing → Standing
unmarked v = record v { loaded = option_map (λ (l : ℕ × Bool). (l.0, false)) v.loaded }

-- each entry is as it was, but for the marks
abbrev pub AreAlikeUnmarked : Row → Row → Type 0
AreAlikeUnmarked x z = (q : Path) → option_map unmarked (standing_at q z) ≡ option_map unmarked (standing_at q x)

-- ---- what a directory that is stored again keeps

abbrev pub SavesTable : Type 1
SavesTable = (honest : Type 0) (F : Stored) (x : Row) (next : ℕ) (p : Path) (G : Stored) (z : Row) → IsTable x next → Saves honest p F x G z → IsTable z next

abbrev pub SavesKept : Type 1
SavesKept = (honest : Type 0) (R : Repository) (F : Stored) (x : Row) (next : ℕ) (p : Path) (G : Stored) (z : Row) → honest → IsTable x next → IsKept R F x next
    → Saves honest p F x G z → IsKept R G z next

abbrev pub SavesAlike : Type 1
SavesAlike = (honest : Type 0) (R : Repository) (F : Stored) (x : Row) (next : ℕ) (p : Path) (G : Stored) (z : Row) → honest → IsTable x next
    → IsKept R F x next
    → Saves honest p F x G z → shown_in R G z ≡ shown_in R F x

-- no mark is set, its own is off, and all else of each entry is as it was
abbrev pub SavesMarks : Type 1
SavesMarks = (honest : Type 0) (F : Stored) (x : Row) (p : Path) (G : Stored) (z : Row) → Saves honest p F x G z → NoneMarked x z × (¬ IsUnsavedAt p z)

abbrev pub SavesUnmarked : Type 1
SavesUnmarked = (honest : Type 0) (F : Stored) (x : Row) (p : Path) (G : Stored) (z : Row) → Saves honest p F x G z → AreAlikeUnmarked x z
