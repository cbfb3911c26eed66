-- What keeps a table: stamps, numbers that are given, and loads from tree objects.
use Rattle.std.specs.Prelude.{◌≤◌, ℕ, Some, ◌≡◌, List}
use Rattle.eden_model.specs.declared.id.Id.{Id}
use Rattle.eden_model.specs.declared.kind.Origin.TheVariants as origin
use Rattle.eden_model.specs.declared.tree_entry.TreeEntry.{TreeEntry}
use Rattle.eden_model.specs.Limits.{number_end}
use Rattle.eden_model.specs.Trees.{Path}
use Rattle.eden_model.specs.Repository.{Repository}
use Rattle.eden_overlay_format.specs.Directory.{AreStorable}
use Rattle.eden_overlay.specs.Files.{Stored}
use Rattle.eden_tree.specs.Directory.{Row}
use Rattle.eden_tree.specs.Paths.{stamped_along}
use Rattle.eden_coupling.specs.Listings.{listing_of}
use Rattle.eden_coupling.specs.Kept.{IsTable, IsKept}
use Rattle.eden_coupling.specs.Loading.{IsAt, LoadsObject}

-- ---- whatever the outside

-- stamps leave a table
abbrev pub StampsTable : Type 0
StampsTable = (next clock : ℕ) (x : Row) (p : Path) → IsTable x next → IsTable (stamped_along p clock x) next

-- a loaded directory that can be stored leaves a table
abbrev pub ObjectLoadsTable : Type 0
ObjectLoadsTable = (clock next : ℕ) (x : Row) (p : Path) (es : List TreeEntry) (z : Row) (after : ℕ) → IsTable x next
    → (l : LoadsObject clock next x p es z after)
    → AreStorable (listing_of l.directory) → after ≤ number_end → IsTable z after

-- ---- where the outside is honest

-- numbers that are given keep a table
abbrev pub NextRises : Type 0
NextRises = (R : Repository) (F : Stored) (x : Row) (next after : ℕ) → IsKept R F x next → next ≤ after → IsKept R F x after

-- so do stamps
abbrev pub StampsKept : Type 0
StampsKept = (R : Repository) (F : Stored) (next clock : ℕ) (x : Row) (p : Path) → IsKept R F x next → IsKept R F (stamped_along p clock x) next

-- so does a directory that is loaded from its tree object
abbrev pub ObjectLoadsKept : Type 0
ObjectLoadsKept = (R : Repository) (F : Stored) (clock next : ℕ) (x : Row) (p : Path) (id : Id) (es : List TreeEntry) (z : Row) (after : ℕ) → IsTable x next
    → IsKept R F x next
    → IsAt p x (origin.Object id) → R.tree id ≡ Some es → (l : LoadsObject clock next x p es z after) → AreStorable (listing_of l.directory)
    → IsKept R F z after
