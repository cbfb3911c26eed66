-- Numbers stand where nodes are shown.
use Rattle.std.specs.Prelude.{◌≡◌, ℕ, List, Option, Some, None}
use Rattle.std.specs.Option.{IsSome, option_map}
use Rattle.eden_model.specs.declared.id.Id.{Id}
use Rattle.eden_model.specs.declared.kind.Origin.TheVariants as origin
use Rattle.eden_model.specs.declared.tree_entry.TreeEntry.{TreeEntry}
use Rattle.eden_model.specs.Repository.{Repository, items_of}
use Rattle.eden_model.specs.Trees.{Name, Path}
use Rattle.eden_overlay_format.specs.declared.stored_entry.StoredEntry.{StoredEntry}
use Rattle.eden_overlay.specs.Files.{Stored}
use Rattle.eden_tree.specs.Directory.{Row, child_of}
use Rattle.eden_coupling.specs.Numberings.{NumberFiles, row_named, number_files, numbers, entry_at}
use Rattle.eden_coupling.specs.Shown.{item_away, shown_in}
use Rattle.eden_coupling.specs.ShownLaws.{AreDirectories}

-- the entries of a tree object, with numbers
abbrev pub ListsTree : Repository → Id → List StoredEntry → Type 0
ListsTree R id es = (ts : List TreeEntry) × (R.tree id ≡ Some ts) × ((n : Name) → option_map item_away (row_named n es) ≡ items_of ts n)

-- numbers saved for the tree object of an entry that stands there, and isn't loaded, list the object's entries
abbrev pub ListTrees : Repository → NumberFiles → Row → Type 0
ListTrees R M x = (p : Path) (z : Row) (id : Id) (es : List StoredEntry) → entry_at M x p ≡ Some z → child_of z ≡ None → z.origin ≡ origin.Object id
    → M.saved z.number id ≡ Some es → ListsTree R id es

-- so what has a number is shown
abbrev pub NumbersAreNodes : Type 0
NumbersAreNodes = (R : Repository) (F : Stored) (saved : ℕ → Id → Option (List StoredEntry)) (x : Row) (p : Path) (n : ℕ) → AreDirectories x
    → ListTrees R (number_files F saved) x → numbers (number_files F saved) x p ≡ Some n → IsSome (shown_in R F x p)
