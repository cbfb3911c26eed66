-- An entry that comes to have its own file: the file is stored first, and then the entry stands there.
use Rattle.std.specs.Prelude.{◌≡◌, ◌≤◌, ◌<◌, ◌+◌, ◌^◌, ◌-◌, ◌⊎◌, ℕ, min, true, [], if◌then◌else◌, length, Some, None, Result, Err}
use Rattle.eden_model.specs.declared.fault.Fault.{Fault}
use Rattle.eden_model.specs.declared.fault.Fault.TheVariants as fault
use Rattle.eden_model.specs.declared.kind.Kind.{Kind}
use Rattle.eden_model.specs.declared.kind.Kind.TheVariants as kind
use Rattle.eden_model.specs.declared.kind.Origin.TheVariants as origin
use Rattle.eden_model.specs.declared.node.Node.{Node}
use Rattle.eden_model.specs.declared.node.Node.TheVariants as node
use Rattle.eden_model.specs.Limits.{number_end}
use Rattle.eden_model.specs.Names.{name_refusal}
use Rattle.eden_model.specs.Repository.{Repository}
use Rattle.eden_model.specs.Trees.{Name, Path}
use Rattle.eden_overlay_format.specs.Content.{content_most}
use Rattle.eden_overlay.specs.declared.files.Files.{Ghosts as Files}
use Rattle.eden_overlay.specs.Files.{Stored}
use Rattle.eden_overlay.specs.Held.{with_content, with_entries}
use Rattle.eden_tree.specs.Directory.{Row, Directory, unloaded, child_of}
use Rattle.eden_tree.specs.Rows.{find_row}
use Rattle.eden_tree.specs.Paths.{row_at}
use Rattle.eden_coupling.specs.Chains.{Refused}
use Rattle.eden_coupling.specs.Changing.{HasRoom}
use Rattle.eden_coupling.specs.Kept.{IsTable, IsKept}
use Rattle.eden_coupling.specs.NumberKept.{KeepsNumbers}
use Rattle.eden_inode.specs.Tables.{Table}
use Rattle.eden_materialise.specs.declared.new_entry.NewEntry.{NewEntry}
use Rattle.eden_materialise.specs.declared.new_entry.NewEntry.TheVariants as new
use Rattle.eden_materialise.specs.Faults.{IsStoreFault}
use Rattle.eden_materialise.specs.Listings.{StoresEntry, ChangesEntry}

-- ---- a new entry

abbrev pub kind_as : NewEntry → Kind
kind_as (new.File executable content) = if executable then kind.Exec else kind.File
kind_as (new.Link target) = kind.Link
kind_as new.Dir = kind.Dir

-- what it shows
abbrev pub node_as : NewEntry → Node
node_as (new.File executable content) = node.File executable (Some content.now)
node_as (new.Link target) = node.Link (Some target.now)
node_as new.Dir = node.Dir true

-- the files with its own one
abbrev pub with_own : Stored → ℕ → NewEntry → Stored
with_own F k (new.File executable content) = with_content F k content.now
with_own F k (new.Link target) = with_content F k target.now
with_own F k new.Dir = with_entries F k []

-- its content can be stored
abbrev pub IsShort : NewEntry → Type 0
IsShort (new.File executable content) = length content.now ≤ content_most
IsShort (new.Link target) = length target.now ≤ content_most
IsShort new.Dir = Unit {0}

-- as it stands in memory
abbrev pub own_row : ℕ → NewEntry → Row
own_row k e = record { number = k; kind = kind_as e; origin = origin.Own; child = unloaded }

-- in the loaded directory at a path there is no entry of that name
pub record LacksEntry (x : Row) (p : Path) (n : Name) : Type 0 where
  pub row : Row
  pub directory : Directory
  pub at : row_at p x ≡ Some row
  pub holds : child_of row ≡ Some directory
  pub absent : find_row n directory.rows ≡ None

-- one of that number, which wasn't given before, may come to stand there
pub record MayAdd (honest : Type 0) (R : Repository) (F : Stored) (x : Row) (p : Path) (n : Name) (k : ℕ) (e : NewEntry) : Type 0 where
  pub lacks : LacksEntry x p n
  pub table : IsTable x k
  pub kept : honest → IsKept R F x k
  pub numbers : honest → KeepsNumbers R F x k
  pub room : HasRoom lacks.directory n
  pub name : name_refusal n ≡ None
  pub short : IsShort e
  pub most : k < number_end

-- ---- the file first

-- The files F became M by the file's store, and then the entry w came to stand under that name; or the file's store was
-- refused, and all is as before.
pub data FilesEntry (honest : Type 0) (p : Path) (n : Name) (w : Row) (F M : Stored) (x : Row) (old : ℕ) (G : Stored) (z : Row) (now : ℕ) :
    Result (Unit {0}) Fault → Type 0 where
  not_filed : (e : Fault) → z ≡ x → (honest → G ≡ F) → IsStoreFault old now e → FilesEntry honest p n w F M x old G z now (Err e)
  filed : (between : Stored) (answer : Result (Unit {0}) Fault) → (honest → between ≡ M) → ChangesEntry honest p n (Some w) between x old G z now answer
      → FilesEntry honest p n w F M x old G z now answer

-- the files where one of these stores was refused
abbrev pub RefusedBy : Stored → Stored → Row → Path → Stored → Type 0
RefusedBy F M x p G = (G ≡ F) ⊎ Refused M x p G

-- ---- a new entry of a table, of the next number

module _ {W F : Type 0} (f : Files F W) (p : Path) where
  -- its own file was stored, and then the directory at the path with it, and those above that have to be
  abbrev pub StoresNew : Name → NewEntry → Table F → Table F → Type 0
  StoresNew n e s t = StoresEntry p n (Some (own_row s.next e)) (with_own (f.stored s.files) s.next e) s.root (f.stored t.files)

  -- one of these stores was refused
  abbrev pub RefusesNew : NewEntry → Table F → Table F → Type 0
  RefusesNew e s t = RefusedBy (f.stored s.files) (with_own (f.stored s.files) s.next e) s.root p (f.stored t.files)

-- the number was given, or none was
abbrev pub MayGiveNumber : {F : Type 0} → Table F → Table F → Type 0
MayGiveNumber s t = ((t.next ≡ s.next) × (t.changes ≡ s.changes))
    ⊎ ((t.next ≡ s.next + 1) × (t.changes ≡ min (s.changes + 1) (2 ^ 64 - 1)))

-- why no entry was added
abbrev pub IsAddFault : ℕ → ℕ → ℕ → Fault → Type 0
IsAddFault next old now (fault.Fetch id cause) = ⊥
IsAddFault next old now fault.Memory = IsStoreFault old now fault.Memory
IsAddFault next old now fault.Overlay = IsStoreFault old now fault.Overlay
IsAddFault next old now fault.Numbers = (next ≡ number_end) × (now ≡ old)
