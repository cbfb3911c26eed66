-- An entry put into a directory in memory, and one taken out.
use Rattle.std.specs.Prelude.{◌≡◌, Bool, true, Option, Some, None}
use Rattle.eden_model.specs.Trees.{Name, Path}
use Rattle.eden_overlay.specs.Files.{Stored}
use Rattle.eden_overlay.specs.Held.{with_entries}
use Rattle.eden_tree.specs.Directory.{Row, Directory, child_of, with_child, change_child}
use Rattle.eden_tree.specs.Rows.{find_row}
use Rattle.eden_tree.specs.Paths.{row_at, edit_row}
use Rattle.eden_coupling.specs.Changing.{changed}
use Rattle.eden_coupling.specs.Listings.{listing_of}

-- an entry with this under a name of its directory, which is saved then, where it holds one
abbrev pub changed_in : Name → Option Row → Row → Row
changed_in n o x = change_child (λ d. changed d n o) x

-- an entry with its directory marked unsaved
abbrev pub marked : Row → Row
marked x = change_child (λ d. record d { unsaved = true }) x

-- z is the entry x with the entry w under a name of its directory, where `entry` stood, and saved, where the mark was this
pub record IsPut (n : Name) (w : Row) (entry : Option Row) (mark : Bool) (x z : Row) : Type 0 where
  pub directory : Directory
  pub holds : child_of x ≡ Some directory
  pub is : z ≡ with_child (Some (changed directory n (Some w))) x
  pub stood : entry ≡ find_row n directory.rows
  pub was : mark ≡ directory.unsaved

-- the same at a path
pub record IsPutAt (p : Path) (n : Name) (w : Row) (entry : Option Row) (mark : Bool) (x z : Row) : Type 0 where
  pub before : Row
  pub after : Row
  pub at : row_at p x ≡ Some before
  pub put : IsPut n w entry mark before after
  pub is : z ≡ edit_row p (λ _. after) x

-- the files with a directory stored without the entry of that name
abbrev pub left_by : Name → Stored → Row → Directory → Stored
left_by n F y d = with_entries F y.number (listing_of (changed d n None))

-- .. and then another as it is
abbrev pub both_by : Name → Stored → Row → Directory → Row → Directory → Stored
both_by n F y d u e = with_entries (left_by n F y d) u.number (listing_of e)
