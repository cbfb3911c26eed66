-- What follows of a table that is tied to its files, and what keeps it tied.
use Rattle.std.specs.Prelude.{◌≡◌, ◌≢◌, ◌<◌, ◌≤◌, ℕ, false, List, Some, None}
use Rattle.eden_model.specs.declared.kind.Origin.TheVariants as origin
use Rattle.eden_model.specs.Limits.{number_least}
use Rattle.eden_model.specs.Trees.{Name, Path}
use Rattle.eden_overlay_format.specs.declared.stored_entry.StoredEntry.{StoredEntry}
use Rattle.eden_overlay_format.specs.Directory.{AreStorable}
use Rattle.eden_overlay.specs.Files.{Stored}
use Rattle.eden_overlay.specs.Held.{HoldsEntries, with_entries, root_file}
use Rattle.eden_overlay.specs.Soundness.{Names, IsLive, AreSound}
use Rattle.eden_tree.specs.Directory.{Row, Directory, child_of, with_child}
use Rattle.eden_tree.specs.Rows.{find_row, set_row}
use Rattle.eden_tree.specs.Paths.{row_at, edit_row}
use Rattle.eden_coupling.specs.Listings.{listing_of, Place}
use Rattle.eden_coupling.specs.Ties.{Ties, IsStoredAs}
use Rattle.eden_coupling.specs.Unloading.{Goes}

-- the files that a table is tied to are sound
abbrev pub TiesSound : Type 0
TiesSound = (F full : Stored) (x : Row) (next : ℕ) → Ties F full x next → AreSound F

-- every number that the files name is below the next
abbrev pub NumbersBelow : Type 0
NumbersBelow = (F full : Stored) (x : Row) (next : ℕ) → Ties F full x next
    → (c : ℕ) (e : StoredEntry) → IsLive F c → Names F c e → e.number < next

-- so is every number that a loaded directory names, and none of them is the root's
abbrev pub RowsNumbered : Type 0
RowsNumbered = (F full : Stored) (x : Row) (next : ℕ) → Ties F full x next
    → (y : Row) (d : Directory) (n : Name) (z : Row) → Place x y → child_of y ≡ Some d → find_row n d.rows ≡ Some z
    → (number_least ≤ z.number) × (z.number < next)

-- .. and no other entry in memory has it
abbrev pub RowsOnce : Type 0
RowsOnce = (F full : Stored) (x : Row) (next : ℕ) → Ties F full x next
    → (y z : Row) (d e : Directory) (n m : Name) (v w : Row) → Place x y → child_of y ≡ Some d → find_row n d.rows ≡ Some v
    → Place x z → child_of z ≡ Some e → find_row m e.rows ≡ Some w → v.number ≡ w.number → (y ≡ z) × ((n ≡ m) × (v ≡ w))

-- a directory of its own that goes leaves the table tied
abbrev pub GoesTied : Type 0
GoesTied = (clock age next : ℕ) (F G full : Stored) (x z : Row) → Ties F full x next
    → (g : Goes (Unit {0}) clock age F x G z) → g.row.origin ≡ origin.Own → AreStorable (listing_of g.directory)
    → Ties G full z next

-- ---- materialising, from the lowest directory up

-- a directory that isn't its own, nor the root, may be stored with any entries
abbrev pub StraysTied : Type 0
StraysTied = (F full : Stored) (x : Row) (next : ℕ) → Ties F full x next
    → (y : Row) (d : Directory) (entries : List StoredEntry) → Place x y → child_of y ≡ Some d
    → y.origin ≢ origin.Own → y.number ≢ 1 → AreStorable entries → Ties (with_entries F y.number entries) full x next

-- an entry that becomes its own
abbrev pub owned : Row → Row
owned z = record z { origin = origin.Own }

-- a loaded directory's entry, with the entry n in it its own, and saved
abbrev pub with_owned : Directory → Name → Row → Directory
with_owned d n z = record d { rows = set_row n (owned z) d.rows; unsaved = false }

-- In a directory y a loaded child z that is stored may become its own, once y is stored so where y is its own. Of
-- another y's file nothing is asked, but that it isn't the root's own.
abbrev pub ChildrenTied : Type 0
ChildrenTied = (F full : Stored) (x : Row) (next : ℕ) → Ties F full x next
    → (G : Stored) (p : Path) (y : Row) (d : Directory) (n : Name) (z : Row) (e : Directory) → row_at p x ≡ Some y → child_of y ≡ Some d
    → find_row n d.rows ≡ Some z → child_of z ≡ Some e → IsStoredAs F z.number e
    → ((k : ℕ) → k ≢ y.number → G k ≡ F k) → (y.origin ≡ origin.Own → HoldsEntries G y.number (listing_of (with_owned d n z)))
    → (y.origin ≢ origin.Own → y.number ≡ 1 → root_file G ≡ None)
    → Ties G full (edit_row p (with_child (Some (with_owned d n z))) x) next

-- the root may become its own, once file 1 is stored
abbrev pub RootTied : Type 0
RootTied = (F full : Stored) (x : Row) (next : ℕ) → Ties F full x next
    → (d : Directory) → child_of x ≡ Some d → x.origin ≢ origin.Own → d.unsaved ≡ false → AreStorable (listing_of d)
    → Ties (with_entries F 1 (listing_of d)) full (owned x) next
