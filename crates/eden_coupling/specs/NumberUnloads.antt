-- Loaded directories that are stored with their numbers, each on its own or with those saved, and go.
use Rattle.std.specs.Prelude.{◌≡◌, ◌≤◌, ◌-◌, ◌+◌, ℕ, true, false, length, Some, None}
use Rattle.eden_model.specs.declared.id.Id.{Id}
use Rattle.eden_model.specs.declared.kind.Origin.TheVariants as origin
use Rattle.eden_model.specs.Repository.{Repository}
use Rattle.eden_model.specs.Trees.{Path}
use Rattle.eden_overlay.specs.Files.{Stored}
use Rattle.eden_overlay.specs.Held.{saved_at, with_entries, with_numbers}
use Rattle.eden_overlay.specs.Soundness.{AreSound}
use Rattle.eden_tree.specs.Directory.{Row, Directory, child_of, with_child}
use Rattle.eden_tree.specs.Paths.{row_at, edit_row}
use Rattle.eden_coupling.specs.Kept.{IsTable, IsKept}
use Rattle.eden_coupling.specs.Listings.{listing_of}
use Rattle.eden_coupling.specs.NumberKept.{KeepsNumbers}
use Rattle.eden_coupling.specs.NumberSaves.{IsSameOver}
use Rattle.eden_coupling.specs.Unloading.{HasNoneInside, AreListed}

-- The files once the loaded directory of that entry may go. One that is the mount's own was stored where it was marked
-- unsaved. Of one on a tree object the numbers were saved, now or before. An empty one has none.
pub data IsPutAway (F : Stored) (y : Row) (d : Directory) (G : Stored) : Type 0 where
  own_stored : y.origin ≡ origin.Own → d.unsaved ≡ true → G ≡ with_entries F y.number (listing_of d) → IsPutAway F y d G
  own_before : y.origin ≡ origin.Own → d.unsaved ≡ false → G ≡ F → IsPutAway F y d G
  empty : y.origin ≡ origin.Empty → G ≡ F → IsPutAway F y d G
  numbers_saved : (id : Id) → y.origin ≡ origin.Object id → length id.bytes ≡ 20 → G ≡ with_numbers F y.number id (listing_of d) → IsPutAway F y d G
  numbers_before : (id : Id) → y.origin ≡ origin.Object id → saved_at F y.number id ≡ Some (listing_of d) → G ≡ F → IsPutAway F y d G

-- Stored files and a table, and then the same where one loaded directory went: it was old enough, with none inside, and put
-- away first. What is stored is known where the outside is honest.
pub record GoesAway (honest : Type 0) (clock age : ℕ) (F : Stored) (x : Row) (G : Stored) (z : Row) : Type 0 where
  pub path : Path
  pub row : Row
  pub directory : Directory
  pub at : row_at path x ≡ Some row
  pub holds : child_of row ≡ Some directory
  pub old : age ≤ clock - directory.stamp
  pub none_inside : HasNoneInside directory
  pub gone : z ≡ edit_row path (with_child None) x
  pub put_away : honest → IsPutAway F row directory G

-- so many went, one after the other; of an outside that isn't honest, the files may be any
pub data UnloadsAway (honest : Type 0) (clock age : ℕ) (F : Stored) (x : Row) : Stored → Row → ℕ → Type 0 where
  none : UnloadsAway honest clock age F x F x 0
  one_more : (G : Stored) (y : Row) (c : ℕ) (H : Stored) (z : Row) → UnloadsAway honest clock age F x G y c → GoesAway honest clock age G y H z
      → UnloadsAway honest clock age F x H z (c + 1)
  same_files : (G : Stored) (y : Row) (c : ℕ) (H : Stored) → UnloadsAway honest clock age F x G y c → (honest → H ≡ G) → UnloadsAway honest clock age F x H y c

-- however many go, what is left can be stored, and the files are sound
abbrev pub MayGoAway : Type 0 → ℕ → ℕ → Stored → Row → Type 0
MayGoAway honest clock age F x = (G : Stored) (z : Row) (c : ℕ) → UnloadsAway honest clock age F x G z c → AreListed z × (honest → AreSound G)

-- a directory with none inside that is put away may go: the table and its numbers are kept, and it shows the same
abbrev pub PutAwayKeeps : Type 0
PutAwayKeeps = (R : Repository) (F G : Stored) (x y : Row) (next : ℕ) (p : Path) (d : Directory) → IsTable x next → IsKept R F x next → KeepsNumbers R F x next
    → row_at p x ≡ Some y → child_of y ≡ Some d → HasNoneInside d → IsPutAway F y d G
    → IsSameOver R F G x (edit_row p (with_child None) x) next × KeepsNumbers R G (edit_row p (with_child None) x) next
