-- An entry that moves in the table of a mount.
use Rattle.std.specs.Prelude.{◌≡◌, ◌≢◌, ◌⊎◌, ℕ, Bool, true, false, if◌then◌else◌, Option, Some, None, Result, OnOk, OnErr, IfErr}
use Rattle.eden_model.specs.declared.fault.Fault.{Fault}
use Rattle.eden_model.specs.declared.kind.Kind.{Kind}
use Rattle.eden_model.specs.declared.kind.Kind.TheVariants as kind
use Rattle.eden_model.specs.declared.kind.Origin.{Origin}
use Rattle.eden_model.specs.declared.kind.Origin.TheVariants as origin
use Rattle.eden_model.specs.Failures.{Rose}
use Rattle.eden_model.specs.Trees.{Name, Path}
use Rattle.eden_overlay.specs.Files.{Stored}
use Rattle.eden_overlay.specs.Held.{without}
use Rattle.eden_tree.specs.Directory.{Row}
use Rattle.eden_tree.specs.Rows.{find_row}
use Rattle.eden_coupling.specs.Changing.{MayMove, moved_in, marked_source, files_left, files_moved}
use Rattle.eden_coupling.specs.Kept.{IsTable}
use Rattle.eden_coupling.specs.Moving.{CanMove}
use Rattle.eden_coupling.specs.Ties.{Tied}
use Rattle.eden_materialise.specs.Faults.{IsStoreFault}

-- a file may be stored under an entry's number: its own, or the numbers of a directory on a tree object
abbrev pub may_have_file : Kind → Origin → Bool
may_have_file k origin.Own = true
may_have_file k origin.Empty = false
may_have_file kind.Dir (origin.Object id) = true
may_have_file kind.File (origin.Object id) = false
may_have_file kind.Exec (origin.Object id) = false
may_have_file kind.Link (origin.Object id) = false

-- the number of an entry, if a file may be stored under it
abbrev pub own_number : Option Row → Option ℕ
own_number None = None
own_number (Some w) = if may_have_file w.kind w.origin then Some w.number else None

-- F became G: the file of that number was removed, or is left where the device failed at that. The counts of failures of
-- the device are those before and then.
pub data Clears (honest : Type 0) (F : Stored) (old : ℕ) (G : Stored) (new : ℕ) : Option ℕ → Type 0 where
  nothing : (honest → G ≡ F) → new ≡ old → Clears honest F old G new None
  removed : (k : ℕ) → (honest → G ≡ without F k) → new ≡ old → Clears honest F old G new (Some k)
  failed : (k : ℕ) → (honest → G ≡ F) → Rose old new → Clears honest F old G new (Some k)

-- an entry can move in a table, tied to the files where the outside is honest
pub record MovesIn (honest : Type 0) (F : Stored) (x : Row) (p : Path) (n : Name) (q : Path) (m : Name) : Type 0 where
  pub next : ℕ
  pub table : IsTable x next
  pub tied : honest → Tied F x next
  pub can : CanMove x p n q m

-- it moved, both stores done: but for the file of what it replaced, which goes where it may have one
pub record IsMoved (honest : Type 0) (p : Path) (n : Name) (q : Path) (m : Name) (F : Stored) (x : Row) (old : ℕ) (G : Stored) (z : Row)
    (new : ℕ) : Type 0 where
  pub may : MayMove x p n q m
  pub root : z ≡ moved_in x p n q m may
  pub files : Clears honest (files_moved x p n q m may F) old G new (own_number (find_row m may.target.rows))

-- it didn't, for a store was refused: all is as before, or the first directory is stored without the entry, and marked unsaved
abbrev pub StaysOrLeaves : (honest : Type 0) {x : Row} {p : Path} {n : Name} {q : Path} {m : Name} → MayMove x p n q m → Stored → Stored → Row → Type 0
StaysOrLeaves honest {x} {p} {n} {q} {m} may F G z = ((z ≡ x) × (honest → G ≡ F))
    ⊎ ((z ≡ marked_source x p n q m may) × (honest → G ≡ files_left x p n q m may F))

-- it didn't: all is as before; or of two directories the first is stored without the entry, and marked unsaved
abbrev pub IsUnmoved : Type 0 → Path → Name → Path → Name → Stored → Row → Stored → Row → Type 0
IsUnmoved honest p n q m F x G z = ((z ≡ x) × (honest → G ≡ F))
    ⊎ ((p ≢ q) × ((may : MayMove x p n q m) × ((z ≡ marked_source x p n q m may) × (honest → G ≡ files_left x p n q m may F))))

pub record MovesEntry (honest : Type 0) (p : Path) (n : Name) (q : Path) (m : Name) (F : Stored) (x : Row) (old : ℕ)
    (G : Stored) (z : Row) (new : ℕ) (answer : Result (Unit {0}) Fault) : Type 0 where
  pub ok : OnOk answer (IsMoved honest p n q m F x old G z new)
  pub err : OnErr answer (IsUnmoved honest p n q m F x G z)
  pub fault : IfErr answer (IsStoreFault old new)
