-- What single steps in memory keep of numbers: an entry that is left out, whatever is below it, one that comes, a chain that
-- becomes the mount's own, and a directory that is held again.
use Rattle.std.specs.Prelude.{◌≡◌, ◌≢◌, ◌≤◌, ◌<◌, ℕ, Some, None}
use Rattle.eden_model.specs.declared.id.Id.{Id}
use Rattle.eden_model.specs.Limits.{number_least}
use Rattle.eden_model.specs.Named.{AreRising}
use Rattle.eden_model.specs.Repository.{Repository}
use Rattle.eden_model.specs.Trees.{Name, Path}
use Rattle.eden_overlay.specs.Files.{Stored}
use Rattle.eden_overlay.specs.Held.{saved_at}
use Rattle.eden_tree.specs.Directory.{Row, Directory, child_of}
use Rattle.eden_tree.specs.Paths.{row_at}
use Rattle.eden_tree.specs.Rows.{find_row}
use Rattle.eden_coupling.specs.Changing.{changed, with_listing, MayMove, moved_in}
use Rattle.eden_coupling.specs.Laws.{owned}
use Rattle.eden_coupling.specs.Materialising.{owned_along}
use Rattle.eden_coupling.specs.NumberChanges.{IsBare}
use Rattle.eden_coupling.specs.NumberKept.{KeepsNumbers, SameNumbers}
use Rattle.eden_coupling.specs.NumberSaves.{HasStored}
use Rattle.eden_coupling.specs.Numberings.{in_files, numbers}
use Rattle.eden_coupling.specs.Unloading.{HasNoneInside}

-- what goes takes the numbers along that stand below it
abbrev pub LeaveKeeps : Type 0
LeaveKeeps = (R : Repository) (F : Stored) (x y : Row) (next : ℕ) (p : Path) (n : Name) (d : Directory) → KeepsNumbers R F x next → row_at p x ≡ Some y
    → child_of y ≡ Some d → AreRising (λ r. r.0) d.rows → KeepsNumbers R F (with_listing p (changed d n None) x) next

-- .. and isn't shown any more
abbrev pub LeftNotShown : Type 0
LeftNotShown = (R : Repository) (F : Stored) (x y w : Row) (next : ℕ) (p : Path) (n : Name) (d : Directory) → KeepsNumbers R F x next → row_at p x ≡ Some y
    → child_of y ≡ Some d → AreRising (λ r. r.0) d.rows → find_row n d.rows ≡ Some w
    → (q : Path) → numbers (in_files F) (with_listing p (changed d n None) x) q ≢ Some w.number

-- nor is what a moved entry takes the place of
abbrev pub ReplacedNotShown : Type 0
ReplacedNotShown = (R : Repository) (F : Stored) (x w : Row) (next : ℕ) (p : Path) (n : Name) (q : Path) (m : Name) → (may : MayMove x p n q m)
    → KeepsNumbers R F x next → AreRising (λ e. e.0) may.source.rows → AreRising (λ e. e.0) may.target.rows → find_row m may.target.rows ≡ Some w
    → (r : Path) → numbers (in_files F) (moved_in x p n q m may) r ≢ Some w.number

-- what comes, in the place of whatever stood there, has none below it, and a number that was given and isn't shown
abbrev pub ComeKeeps : Type 0
ComeKeeps = (R : Repository) (F : Stored) (x y z : Row) (next : ℕ) (p : Path) (n : Name) (d : Directory) → KeepsNumbers R F x next → row_at p x ≡ Some y
    → child_of y ≡ Some d → AreRising (λ r. r.0) d.rows → IsBare (in_files F) z → ((id : Id) → saved_at F z.number id ≡ None)
    → number_least ≤ z.number → z.number < next → ((q : Path) → numbers (in_files F) x q ≢ Some z.number)
    → KeepsNumbers R F (with_listing p (changed d n (Some z)) x) next

-- the directories along a path become the mount's own
abbrev pub OwnedKeeps : Type 0
OwnedKeeps = (R : Repository) (F : Stored) (x y : Row) (next : ℕ) (p : Path) (d : Directory) → KeepsNumbers R F x next → row_at p x ≡ Some y
    → child_of y ≡ Some d → SameNumbers R F x F (owned (owned_along p x)) next

-- a directory with none inside is held by an entry for which it is stored
abbrev pub HoldKeeps : Type 0
HoldKeeps = (R : Repository) (F : Stored) (x y : Row) (next : ℕ) (p : Path) (d : Directory) → KeepsNumbers R F x next → row_at p x ≡ Some y
    → child_of y ≡ None → HasNoneInside d → HasStored (in_files F) y d → SameNumbers R F x F (with_listing p d x) next
