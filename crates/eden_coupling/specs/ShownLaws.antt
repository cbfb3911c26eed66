-- What a table shows, and what keeps that.
use Rattle.std.specs.Prelude.{◌≡◌, ◌≢◌, ℕ, List, [], ◌∷◌, ◌++◌, Option, Some, None, false}
use Rattle.std.specs.Option.{option_map}
use Rattle.eden_model.specs.declared.id.Id.{Id}
use Rattle.eden_model.specs.declared.kind.Kind.TheVariants as kind
use Rattle.eden_model.specs.declared.kind.Origin.TheVariants as origin
use Rattle.eden_model.specs.declared.tree_entry.TreeEntry.{TreeEntry}
use Rattle.eden_model.specs.Trees.{Name, Path, Tree, graft}
use Rattle.eden_model.specs.Shown.{Item, shown, shown_at}
use Rattle.eden_model.specs.Repository.{Repository, Source, source_of, ground_with}
use Rattle.eden_overlay.specs.Files.{Stored}
use Rattle.eden_overlay.specs.Held.{own_files}
use Rattle.eden_tree.specs.Directory.{Row, Directory, child_of, with_child}
use Rattle.eden_tree.specs.Rows.{find_row}
use Rattle.eden_tree.specs.Paths.{row_at, edit_row, stamped_along}
use Rattle.eden_coupling.specs.Listings.{own_if_loaded, Place}
use Rattle.eden_coupling.specs.Shown.{item_in, table_ground, shown_in, shown_away, IsFrom}
use Rattle.eden_coupling.specs.Kept.{IsTable, IsKept}
use Rattle.eden_coupling.specs.Loading.{IsAt, LoadsObject}
use Rattle.eden_coupling.specs.Unloading.{HasNoneInside}

-- an entry as it would be were all that is loaded materialised
abbrev pub full_item : Row → Item Source
full_item x = record { kind = x.kind; source = source_of x.number (own_if_loaded x.child x.origin) }

-- A kept table shows what the files `full` show: so what keeps those keeps what is shown.
abbrev pub ShowsFull : Type 0
ShowsFull = (R : Repository) (F : Stored) (x : Row) (next : ℕ) (k : IsKept R F x next) → shown_in R F x ≡ shown (ground_with R (own_files k.full)) (full_item x)

-- an entry in which nothing is loaded shows what the files do
abbrev pub ShowsAway : Type 0
ShowsAway = (R : Repository) (F : Stored) (x : Row) → child_of x ≡ None → shown_in R F x ≡ shown_away R F x

-- .. and so does a table where no directory is unsaved
abbrev pub ShowsFiles : Type 0
ShowsFiles = (R : Repository) (F : Stored) (x : Row) (next : ℕ) → IsTable x next → IsKept R F x next → ((y : Row) (d : Directory) → Place x y
    → child_of y ≡ Some d → d.unsaved ≡ false)
    → shown_in R F x ≡ shown_away R F x

-- the same is shown with a directory loaded, as with it gone
abbrev pub LoadsAlike : Type 0
LoadsAlike = (R : Repository) (F : Stored) (p : Path) (x y : Row) (d : Directory) → row_at p x ≡ Some y → child_of y ≡ None → y.kind ≡ kind.Dir
    → HasNoneInside d → IsFrom R (own_files F) y d
    → shown_in R F (edit_row p (with_child (Some d)) x) ≡ shown_in R F x

-- so a directory that is loaded from its tree object leaves what is shown
abbrev pub ObjectLoadsAlike : Type 0
ObjectLoadsAlike = (R : Repository) (F : Stored) (clock next : ℕ) (x : Row) (p : Path) (id : Id) (es : List TreeEntry) (z : Row) (after : ℕ)
    → IsAt p x (origin.Object id) → R.tree id ≡ Some es → LoadsObject clock next x p es z after → shown_in R F z ≡ shown_in R F x

-- stamps and marks are not seen
abbrev pub StampsAlike : Type 0
StampsAlike = (R : Repository) (F : Stored) (p : Path) (clock : ℕ) (x : Row) → shown_in R F (stamped_along p clock x) ≡ shown_in R F x

-- what an entry shows, or none
abbrev pub shown_from : Repository → Stored → Option Row → Tree
shown_from R F o = shown_at (table_ground R (own_files F)) (option_map item_in o)

-- only directories are loaded
abbrev pub AreDirectories : Row → Type 0
AreDirectories x = (y : Row) (d : Directory) → Place x y → child_of y ≡ Some d → y.kind ≡ kind.Dir

-- With another entry under a name of a loaded directory, or none, what that shows stands at and below the name, and all else
-- is as before.
abbrev pub ChangesGraft : Type 0
ChangesGraft = (R : Repository) (F : Stored) (p : Path) (n : Name) (o : Option Row) (x y : Row) (d e : Directory) → AreDirectories x
    → row_at p x ≡ Some y → child_of y ≡ Some d → ((m : Name) → m ≢ n → find_row m e.rows ≡ find_row m d.rows) → find_row n e.rows ≡ o
    → shown_in R F (edit_row p (with_child (Some e)) x) ≡ graft (p ++ n ∷ []) (shown_from R F o) (shown_in R F x)

-- what stands at and below an entry in memory is what that entry shows
abbrev pub ShowsBelow : Type 0
ShowsBelow = (R : Repository) (F : Stored) (p q : Path) (x y : Row) → AreDirectories x → row_at p x ≡ Some y
    → shown_in R F x (p ++ q) ≡ shown_in R F y q

-- .. and at and below a name that a loaded directory lacks, nothing
abbrev pub ShowsAbsent : Type 0
ShowsAbsent = (R : Repository) (F : Stored) (p : Path) (n : Name) (q : Path) (x y : Row) (d : Directory) → AreDirectories x
    → row_at p x ≡ Some y → child_of y ≡ Some d → find_row n d.rows ≡ None → shown_in R F x (p ++ n ∷ q) ≡ None
