-- Files that nothing loaded or live has as its own.
use Rattle.std.specs.Prelude.{◌≡◌, ◌≢◌, ◌≤◌, ℕ, List, Option, Some, None}
use Rattle.eden_model.specs.declared.kind.Origin.TheVariants as origin
use Rattle.eden_model.specs.Repository.{Repository}
use Rattle.eden_model.specs.Trees.{Name, Path}
use Rattle.eden_overlay.specs.Files.{Stored, with_file}
use Rattle.eden_overlay.specs.Soundness.{AreSound}
use Rattle.eden_tree.specs.Directory.{Row, Directory, child_of}
use Rattle.eden_tree.specs.Rows.{find_row}
use Rattle.eden_tree.specs.Paths.{row_at}
use Rattle.eden_coupling.specs.Kept.{IsTable, IsKept}
use Rattle.eden_coupling.specs.Shown.{shown_in}

-- the number is the state's, was never given, or is that of an entry that isn't loaded nor its own
pub data IsLoose (x : Row) (next k : ℕ) : Type 0 where
  the_state : k ≡ 0 → IsLoose x next k
  never_given : next ≤ k → IsLoose x next k
  other_entry : (p : Path) (y : Row) (d : Directory) (n : Name) (w : Row) → row_at p x ≡ Some y → child_of y ≡ Some d → find_row n d.rows ≡ Some w
      → child_of w ≡ None → w.origin ≢ origin.Own → w.number ≡ k → IsLoose x next k

-- such a file may be stored, changed or taken out: the files stay sound, the table kept, and the same is shown
abbrev pub LooseSound : Type 0
LooseSound = (R : Repository) (F : Stored) (x : Row) (next k : ℕ) (w : Option (List ℕ)) → IsTable x next → IsKept R F x next → IsLoose x next k
    → AreSound (with_file F k w)

abbrev pub LooseKept : Type 0
LooseKept = (R : Repository) (F : Stored) (x : Row) (next k : ℕ) (w : Option (List ℕ)) → IsTable x next → IsKept R F x next → IsLoose x next k
    → IsKept R (with_file F k w) x next

abbrev pub LooseAlike : Type 0
LooseAlike = (R : Repository) (F : Stored) (x : Row) (next k : ℕ) (w : Option (List ℕ)) → IsTable x next → IsKept R F x next → IsLoose x next k
    → shown_in R (with_file F k w) x ≡ shown_in R F x
