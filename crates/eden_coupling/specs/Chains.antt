-- A chain of directories that becomes the mount's own, the listing of its lowest one changed.
use Rattle.std.specs.Prelude.{◌≡◌, ◌⊎◌, ℕ, true, false, List, [], ◌∷◌, Some, IsSome, IsSomeAnd}
use Rattle.std.specs.Option.{option_map, option_and_then}
use Rattle.eden_model.specs.Trees.{Name, Path}
use Rattle.eden_overlay_format.specs.Directory.{AreStorable, is_own}
use Rattle.eden_overlay_format.specs.declared.stored_entry.StoredEntry.{StoredEntry}
use Rattle.eden_overlay.specs.Files.{Stored}
use Rattle.eden_overlay.specs.Held.{with_entries}
use Rattle.eden_tree.specs.Directory.{Row, Directory, child_of}
use Rattle.eden_tree.specs.Rows.{find_row}
use Rattle.eden_tree.specs.Paths.{row_at}
use Rattle.eden_coupling.specs.Changing.{with_listing}
use Rattle.eden_coupling.specs.Laws.{owned}
use Rattle.eden_coupling.specs.Listings.{Place}
use Rattle.eden_coupling.specs.Materialising.{marked_listing, owned_along}

-- the entry at the path is a loaded directory
abbrev pub IsLoadedAt : Path → Row → Type 0
IsLoadedAt p x = IsSomeAnd (row_at p x) (λ y. IsSome (child_of y))

-- no loaded directory is unsaved
abbrev pub AreSaved : Row → Type 0
AreSaved x = (y : Row) (d : Directory) → Place x y → child_of y ≡ Some d → d.unsaved ≡ false

-- the loaded directory at the path is unsaved
abbrev pub IsUnsavedAt : Path → Row → Type 0
IsUnsavedAt p x = option_map (λ (d : Directory). d.unsaved) (option_and_then child_of (row_at p x)) ≡ Some true

-- what is unsaved in z is so in x
abbrev pub NoneMarked : Row → Row → Type 0
NoneMarked x z = (p : Path) → IsUnsavedAt p z → IsUnsavedAt p x

-- what is loaded in x is so in z
abbrev pub StaysLoaded : Row → Row → Type 0
StaysLoaded x z = (p : Path) → IsLoadedAt p x → IsLoadedAt p z

-- the table with the directory at a path become e, and its own with all above it
abbrev pub chained : Path → Directory → Row → Row
chained p e x = owned (owned_along p (with_listing p e x))

-- a directory is stored again with the one below it its own, unless both are so already
abbrev pub IsAboveOther : Row → Row → Type 0
IsAboveOther x z = (is_own x.origin ≡ false) ⊎ (is_own z.origin ≡ false)

-- the files after the directories above the one at a path were stored where they have to be, the lowest first
pub data Above (F : Stored) : Row → Path → Stored → Type 0 where
  at_end : (x : Row) → Above F x [] F
  as_is : (x : Row) (d : Directory) (n : Name) (z : Row) (p : Path) (G : Stored) → child_of x ≡ Some d → find_row n d.rows ≡ Some z → Above F z p G
      → is_own x.origin ≡ true → is_own z.origin ≡ true → Above F x (n ∷ p) G
  again : (x : Row) (d : Directory) (n : Name) (z : Row) (p : Path) (G : Stored) → child_of x ≡ Some d → find_row n d.rows ≡ Some z → Above F z p G
      → IsAboveOther x z → Above F x (n ∷ p) (with_entries G x.number (marked_listing d n))

-- the files where one of these stores is yet to come: those below it were made, and none above it
pub data Unfinished (F : Stored) : Row → Path → Stored → Type 0 where
  here : (x : Row) (d : Directory) (n : Name) (z : Row) (p : Path) (G : Stored) → child_of x ≡ Some d → find_row n d.rows ≡ Some z → Above F z p G
      → IsAboveOther x z → Unfinished F x (n ∷ p) G
  below : (x : Row) (d : Directory) (n : Name) (z : Row) (p : Path) (G : Stored) → child_of x ≡ Some d → find_row n d.rows ≡ Some z → Unfinished F z p G
      → Unfinished F x (n ∷ p) G

-- file k was stored with some entries, or left as it was
pub data MayStore (F : Stored) (k : ℕ) (G : Stored) : Type 0 where
  left : G ≡ F → MayStore F k G
  listed : (entries : List StoredEntry) → AreStorable entries → G ≡ with_entries F k entries → MayStore F k G

-- the files where a store of the chain was refused, the first one or a later one
pub data Refused (F : Stored) (x : Row) (p : Path) (G : Stored) : Type 0 where
  at_first : G ≡ F → Refused F x p G
  later : (y : Row) (d : Directory) (M : Stored) → row_at p x ≡ Some y → child_of y ≡ Some d → MayStore F y.number M → Unfinished M x p G → Refused F x p G
