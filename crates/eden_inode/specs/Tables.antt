-- What contracts see of an inode table.
use Rattle.std.specs.Prelude.{◌≡◌, ◌≢◌, ◌<◌, ◌≤◌, ◌+◌, ◌⊎◌, ℕ, List, length, take, suc, Option, Some, None}
use Rattle.std.specs.Option.{is_some}
use Rattle.eden_model.specs.declared.fault.Fault.{Fault}
use Rattle.eden_model.specs.declared.fault.Fault.TheVariants as fault
use Rattle.eden_model.specs.declared.kind.Kind.TheVariants as kind
use Rattle.eden_model.specs.declared.kind.Origin.{Origin}
use Rattle.eden_model.specs.declared.kind.Origin.TheVariants as origin
use Rattle.eden_model.specs.declared.id.Id.{Id}
use Rattle.eden_model.specs.declared.tree_entry.TreeEntry.{TreeEntry}
use Rattle.eden_model.specs.declared.world.World.{Ghosts}
use Rattle.eden_model.specs.Limits.{number_end}
use Rattle.eden_model.specs.Numbers.{Numbering}
use Rattle.eden_model.specs.Failures.{Rose}
use Rattle.eden_model.specs.Repository.{Repository}
use Rattle.eden_model.specs.Trees.{Path, Tree}
use Rattle.eden_object.specs.Trees.{NamesDiffer}
use Rattle.eden_overlay_format.specs.declared.stored_entry.StoredEntry.{StoredEntry}
use Rattle.eden_overlay.specs.declared.files.Files.{Ghosts as Files}
use Rattle.eden_overlay.specs.Files.{Stored}
use Rattle.eden_overlay.specs.Held.{HoldsContent, entries_at, content_at, root_file, saved_at}
use Rattle.eden_overlay.specs.Soundness.{IsLive, Names, HoldsKind, AreSound}
use Rattle.eden_tree.specs.Directory.{Row, child_of, unloaded}
use Rattle.eden_tree.specs.Paths.{row_at}
use Rattle.eden_coupling.specs.Listings.{listing_of}
use Rattle.eden_coupling.specs.Loading.{IsAt, LoadsOwn}
use Rattle.eden_coupling.specs.NumberKept.{KeepsNumbers}
use Rattle.eden_coupling.specs.Numberings.{in_files, numbers}
use Rattle.eden_coupling.specs.Shown.{shown_in}
use Rattle.eden_inode.specs.declared.seen.Seen.{Seen}
use Rattle.eden_inode.specs.Faults.{IsNumbersFault}
use Rattle.eden_inode.specs.Saved.{HasNumbers}

pub record Table (F : Type 0) : Type 0 where
  -- the root's entry, with all that is loaded
  pub root : Row
  -- the stored files
  pub files : F
  -- the number that is given next
  pub next : ℕ
  -- the turns so far
  pub clock : ℕ
  -- how often a name came, went or was unloaded
  pub changes : ℕ

-- the tree that a table shows
abbrev pub shows : {W F : Type 0} → Ghosts W → Files F W → Table F → Tree
shows w f t = shown_in w.repository (f.stored t.files) t.root

-- .. and the inode numbers
abbrev pub shows_numbers : {W F : Type 0} → Files F W → Table F → Numbering
shows_numbers f t = numbers (in_files (f.stored t.files)) t.root

-- t shows the numbers that s does
abbrev pub ShowsSameNumbers : {W F : Type 0} → Files F W → Table F → Table F → Type 0
ShowsSameNumbers f s t = (p : Path) → shows_numbers f t p ≡ shows_numbers f s p

-- the root's entry before anything is loaded
abbrev pub fresh_root : Origin → Row
fresh_root o = record { number = 1; kind = kind.Dir; origin = o; child = unloaded }

-- a table may start over these files: its root is the mount's own exactly where it has a file, no name dangles, and every number
-- that is named is below the next; no number is shown twice, and what is saved of numbers lists its tree object
pub record CanStart (R : Repository) (F : Stored) (root : Origin) (next : ℕ) : Type 0 where
  pub rootless : root ≢ origin.Own → root_file F ≡ None
  pub rooted : root ≡ origin.Own → HoldsKind F 1 kind.Dir
  pub sound : AreSound F
  pub below : (c : ℕ) (e : StoredEntry) → IsLive F c → Names F c e → e.number < next
  pub numbers : KeepsNumbers R F (fresh_root root) next

-- the last entry in memory on a path stands behind so many of its names
pub record IsLast (p : Path) (x : Row) (seen : Seen) : Type 0 where
  pub row : Row
  pub names : seen.names ≤ length p
  pub there : row_at (take seen.names p) x ≡ Some row
  pub number : seen.number ≡ row.number
  pub kind : seen.kind ≡ row.kind
  pub origin : seen.origin ≡ row.origin
  pub loaded : seen.loaded ≡ is_some (child_of row)
  pub last : seen.names < length p → row_at (take (suc seen.names) p) x ≡ None

-- the entry is a directory that isn't loaded, of that origin
pub record IsUnlisted (x : Row) (o : Origin) : Type 0 where
  pub kind : x.kind ≡ kind.Dir
  pub unloaded : child_of x ≡ None
  pub origin : x.origin ≡ o

-- a directory may be loaded: from the entries of its tree object, for which no numbers are saved
pub record HasTree (R : Repository) (honest : Type 0) (F : Stored) (p : Path) (x : Row) (es : List TreeEntry) : Type 0 where
  pub id : Id
  pub at : IsAt p x (origin.Object id)
  pub differ : NamesDiffer es
  pub tree : honest → R.tree id ≡ Some es
  pub unsaved : honest → saved_at F at.row.number id ≡ None

-- .. or without it: where it has none, or numbers are saved for it
abbrev pub HasNoTree : Type 0 → Stored → Path → Row → Type 0
HasNoTree honest F p x = IsAt p x origin.Own ⊎ IsAt p x origin.Empty ⊎ HasNumbers honest F p x

-- the entry at the path is a file or a link of the mount's own
abbrev pub HasOwnContent : Path → Row → Type 0
HasOwnContent p x = (y : Row) × ((row_at p x ≡ Some y) × ((y.origin ≡ origin.Own) × (y.kind ≢ kind.Dir)))

-- then it has what is stored for it, with the numbers stored, or nothing
pub record LoadsStored (honest : Type 0) (clock : ℕ) (F : Stored) (x : Row) (p : Path) (z : Row) : Type 0 where
  pub loads : LoadsOwn honest clock F x p z
  pub saved : honest → (y : Row) (id : Id) → row_at p x ≡ Some y → y.origin ≡ origin.Object id → saved_at F y.number id ≡ Some (listing_of loads.directory)

-- why it isn't told whether the directory at a path has numbers saved, which isn't loaded and stands on a tree object
abbrev pub IsNumberedFault : Type 0 → ℕ → ℕ → Stored → Path → Row → Fault → Type 0
IsNumberedFault honest old new F p x e = (y : Row) (id : Id) → row_at p x ≡ Some y → y.origin ≡ origin.Object id
    → IsNumbersFault honest old new id (F y.number) e

-- why a directory isn't loaded: no memory; too few numbers are left for the entries of a tree object; the device failed, or
-- the file is no directory, where it is the mount's own; numbers that are saved are had, unless the device fails
abbrev pub IsLoadFault : Type 0 → ℕ → ℕ → ℕ → Stored → Path → Row → Option (List TreeEntry) → Fault → Type 0
IsLoadFault honest next old new F p x es (fault.Fetch id cause) = ⊥
IsLoadFault honest next old new F p x es fault.Memory = Unit {0}
IsLoadFault honest next old new F p x None fault.Numbers = ⊥
IsLoadFault honest next old new F p x (Some es) fault.Numbers = number_end < next + length es
IsLoadFault honest next old new F p x (Some es) fault.Overlay = ⊥
IsLoadFault honest next old new F p x None fault.Overlay =
    (IsAt p x origin.Own × (Rose old new ⊎ ((y : Row) → row_at p x ≡ Some y → honest → entries_at F y.number ≡ None)))
    ⊎ (HasNumbers honest F p x × (Rose old new ⊎ (¬ honest)))

-- .. and why a content isn't had
abbrev pub IsContentFault : Type 0 → ℕ → ℕ → Stored → Path → Row → Fault → Type 0
IsContentFault honest old new F p x (fault.Fetch id cause) = ⊥
IsContentFault honest old new F p x fault.Memory = Unit {0}
IsContentFault honest old new F p x fault.Numbers = ⊥
IsContentFault honest old new F p x fault.Overlay = Rose old new ⊎ ((y : Row) → row_at p x ≡ Some y → honest → content_at F y.number ≡ None)

-- file k holds a content of that length
abbrev pub HoldsLength : Stored → ℕ → ℕ → Type 0
HoldsLength F k len = (content : List ℕ) × (HoldsContent F k content × (len ≡ length content))
