-- What storing, unloading and materialising do to the numbers that are shown.
use Rattle.std.specs.Prelude.{◌≡◌, ◌≢◌, ◌≤◌, ◌<◌, ◌⊎◌, ℕ, false, List, [], length, Option, Some, None}
use Rattle.eden_model.specs.declared.id.Id.{Id}
use Rattle.eden_model.specs.declared.kind.Origin.TheVariants as origin
use Rattle.eden_model.specs.Numbers.{AreOnce}
use Rattle.eden_model.specs.Repository.{Repository}
use Rattle.eden_model.specs.Trees.{Path}
use Rattle.eden_overlay_format.specs.declared.stored_entry.StoredEntry.{StoredEntry}
use Rattle.eden_overlay.specs.Files.{Stored}
use Rattle.eden_overlay.specs.Held.{root_file, with_entries, with_numbers}
use Rattle.eden_tree.specs.Directory.{Row, Directory, child_of, with_child}
use Rattle.eden_tree.specs.Paths.{row_at, edit_row}
use Rattle.eden_coupling.specs.Kept.{IsTable, IsKept}
use Rattle.eden_coupling.specs.Laws.{owned}
use Rattle.eden_coupling.specs.Listings.{Place, listing_of}
use Rattle.eden_coupling.specs.Materialising.{Chain, owned_along}
use Rattle.eden_coupling.specs.NumberLoads.{AreBlank}
use Rattle.eden_coupling.specs.Numberings.{NumberFiles, number_files, in_files, stored_below, numbers}
use Rattle.eden_coupling.specs.Shown.{shown_in}
use Rattle.eden_coupling.specs.Ties.{IsAway, Ties}
use Rattle.eden_coupling.specs.Unloading.{HasNoneInside}

-- all but the file of that number is alike
abbrev pub SameElsewhere : NumberFiles → NumberFiles → ℕ → Type 0
SameElsewhere M K k = (c : ℕ) → c ≢ k → (K.own c ≡ M.own c) × ((id : Id) → K.saved c id ≡ M.saved c id)

-- what is stored for the entry is what the directory has
abbrev pub HasStored : NumberFiles → Row → Directory → Type 0
HasStored M y d = (stored_below M y ≡ Some (listing_of d)) ⊎ ((stored_below M y ≡ None) × (d.rows ≡ []))

-- Stored files and a table, and then the same where one loaded directory was stored, its own or with its numbers saved,
-- and went: with none inside.
pub record GoesStored (M : NumberFiles) (x : Row) (K : NumberFiles) (z : Row) : Type 0 where
  pub path : Path
  pub row : Row
  pub directory : Directory
  pub at : row_at path x ≡ Some row
  pub holds : child_of row ≡ Some directory
  pub none_inside : HasNoneInside directory
  pub elsewhere : SameElsewhere M K row.number
  pub stored : HasStored K row directory
  pub gone : z ≡ edit_row path (with_child None) x

-- so many, one after the other
pub data GoStored (M : NumberFiles) (x : Row) : NumberFiles → Row → Type 0 where
  none : GoStored M x M x
  one_more : (K : NumberFiles) (y : Row) (L : NumberFiles) (z : Row) → GoStored M x K y → GoesStored K y L z → GoStored M x L z

-- ---- what is promised

-- the file of a loaded directory isn't seen: so its numbers may be saved
abbrev pub SaveUnseen : Type 0
SaveUnseen = (M K : NumberFiles) (x y : Row) (p : Path) (d : Directory) (q : Path) → AreOnce (numbers M x) → row_at p x ≡ Some y → child_of y ≡ Some d
    → SameElsewhere M K y.number → numbers K x q ≡ numbers M x q

-- a directory that was stored and goes leaves the numbers
abbrev pub GoneSame : Type 0
GoneSame = (M : NumberFiles) (x : Row) (K : NumberFiles) (z : Row) (q : Path) → AreOnce (numbers M x) → GoesStored M x K z
    → numbers K z q ≡ numbers M x q

abbrev pub ManyGoneSame : Type 0
ManyGoneSame = (M : NumberFiles) (x : Row) (K : NumberFiles) (z : Row) (q : Path) → AreOnce (numbers M x) → GoStored M x K z
    → numbers K z q ≡ numbers M x q

-- a loaded directory that is stored and becomes its own leaves them
abbrev pub OwnedSame : Type 0
OwnedSame = (M K : NumberFiles) (x y : Row) (p : Path) (d : Directory) (q : Path) → AreOnce (numbers M x) → row_at p x ≡ Some y → child_of y ≡ Some d
    → SameElsewhere M K y.number → numbers K (edit_row p owned x) q ≡ numbers M x q

-- so does a chain that was stored and becomes its own, with no numbers saved for its directories any more
abbrev pub ChainSame : Type 0
ChainSame = (F G : Stored) (saved left : ℕ → Id → Option (List StoredEntry)) (x y : Row) (p : Path) (d : Directory) (q : Path)
    → AreOnce (numbers (number_files F saved) x) → row_at p x ≡ Some y → child_of y ≡ Some d → Chain F x p G
    → ((k : ℕ) → IsAway x k → (id : Id) → left k id ≡ saved k id)
    → numbers (number_files G left) (owned (owned_along p x)) q ≡ numbers (number_files F saved) x q

-- ---- the file of a directory whose numbers are saved

-- but for file k these are the same files
abbrev pub SameBut : Stored → Stored → ℕ → Type 0
SameBut F G k = (c : ℕ) → c ≢ k → G c ≡ F c

-- of a loaded directory that isn't its own the file may hold anything, if it is no root's file: the table stays tied
abbrev pub OtherFileTied : Type 0
OtherFileTied = (F G full : Stored) (x y : Row) (d : Directory) (next : ℕ) → Ties F full x next → Place x y → child_of y ≡ Some d
    → y.origin ≢ origin.Own → (y.number ≡ 1 → root_file G ≡ None) → SameBut F G y.number → Ties G full x next

-- .. kept
abbrev pub OtherFileKept : Type 0
OtherFileKept = (R : Repository) (F G : Stored) (x y : Row) (d : Directory) (next : ℕ) → IsKept R F x next → Place x y → child_of y ≡ Some d
    → y.origin ≢ origin.Own → (y.number ≡ 1 → root_file G ≡ None) → SameBut F G y.number → IsKept R G x next

-- .. and shows the same nodes
abbrev pub OtherFileAlike : Type 0
OtherFileAlike = (R : Repository) (F G : Stored) (x y : Row) (d : Directory) (next : ℕ) → IsKept R F x next → Place x y → child_of y ≡ Some d
    → SameBut F G y.number → shown_in R G x ≡ shown_in R F x

-- The table z over the files G is kept, and shows the same nodes and the same numbers as x over F.
pub record IsSameOver (R : Repository) (F G : Stored) (x z : Row) (next : ℕ) : Type 0 where
  pub kept : IsKept R G z next
  pub nodes : shown_in R G z ≡ shown_in R F x
  pub same : (q : Path) → numbers (in_files G) z q ≡ numbers (in_files F) x q

-- so it is where the numbers of a loaded directory of a tree object are saved, be it the root
abbrev pub SavedSameOver : Type 0
SavedSameOver = (R : Repository) (F : Stored) (x y : Row) (p : Path) (d : Directory) (id : Id) (next : ℕ) → IsTable x next → IsKept R F x next
    → AreOnce (numbers (in_files F) x) → row_at p x ≡ Some y → child_of y ≡ Some d → y.origin ≡ origin.Object id
    → IsSameOver R F (with_numbers F y.number id (listing_of d)) x x next

-- .. and once it goes: with none inside, and not marked unsaved
abbrev pub GoneSameOver : Type 0
GoneSameOver = (R : Repository) (F : Stored) (x y : Row) (p : Path) (d : Directory) (id : Id) (next : ℕ) → IsTable x next → IsKept R F x next
    → AreOnce (numbers (in_files F) x) → row_at p x ≡ Some y → child_of y ≡ Some d → y.origin ≡ origin.Object id → length id.bytes ≡ 20
    → HasNoneInside d → d.unsaved ≡ false
    → IsSameOver R F (with_numbers F y.number id (listing_of d)) x (edit_row p (with_child None) x) next

-- ---- numbers yet to be given

-- none is saved under one of them, whatever is saved or stored under others
abbrev pub BlankRises : Type 0
BlankRises = (F : Stored) (next later : ℕ) → AreBlank (in_files F) next → next ≤ later → AreBlank (in_files F) later

abbrev pub BlankSaved : Type 0
BlankSaved = (F : Stored) (next k : ℕ) (id : Id) (es : List StoredEntry) → AreBlank (in_files F) next → k < next
    → AreBlank (in_files (with_numbers F k id es)) next

abbrev pub BlankStored : Type 0
BlankStored = (F : Stored) (next k : ℕ) (es : List StoredEntry) → AreBlank (in_files F) next → AreBlank (in_files (with_entries F k es)) next
