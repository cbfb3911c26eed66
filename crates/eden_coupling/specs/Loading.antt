-- What a directory is loaded as.
use Rattle.std.specs.Prelude.{◌≡◌, ◌+◌, ℕ, suc, false, List, [], ◌∷◌, length, Some, None}
use Rattle.eden_model.specs.declared.kind.Kind.TheVariants as kind
use Rattle.eden_model.specs.declared.kind.Origin.{Origin}
use Rattle.eden_model.specs.declared.kind.Origin.TheVariants as origin
use Rattle.eden_model.specs.declared.tree_entry.TreeEntry.{TreeEntry}
use Rattle.eden_model.specs.Trees.{Name, Path}
use Rattle.eden_model.specs.Repository.{items_of}
use Rattle.eden_overlay.specs.Files.{Stored}
use Rattle.eden_overlay.specs.Held.{HoldsEntries}
use Rattle.eden_tree.specs.Directory.{Row, Directory, child_of, with_child, unloaded}
use Rattle.eden_tree.specs.Paths.{row_at, edit_row, stamped_along}
use Rattle.eden_coupling.specs.Listings.{listing_of}
use Rattle.eden_coupling.specs.Shown.{items_away}

-- numbers from k on, in the order of the rows
abbrev pub AreNumbered : ℕ → List (Name × Row) → Type 0
AreNumbered k [] = Unit {0}
AreNumbered k (e ∷ es) = (e.1.number ≡ k) × AreNumbered (suc k) es

-- no entry holds a directory
abbrev pub AreUnloaded : List (Name × Row) → Type 0
AreUnloaded [] = Unit {0}
AreUnloaded (e ∷ es) = (e.1.child ≡ unloaded) × AreUnloaded es

-- the entry at the path is a directory that isn't loaded, of that origin
pub record IsAt (p : Path) (x : Row) (o : Origin) : Type 0 where
  pub row : Row
  pub there : row_at p x ≡ Some row
  pub kind : row.kind ≡ kind.Dir
  pub unloaded : child_of row ≡ None
  pub origin : row.origin ≡ o

-- a directory as it was loaded
pub record IsNew (clock : ℕ) (d : Directory) : Type 0 where
  pub stamp : d.stamp ≡ clock
  pub saved : d.unsaved ≡ false
  pub unloaded : AreUnloaded d.rows

-- a tree object's entries, numbered from k on in byte order of their names
pub record HasObject (k : ℕ) (es : List TreeEntry) (d : Directory) : Type 0 where
  pub count : length d.rows ≡ length es
  pub numbered : AreNumbered k d.rows
  pub items : (n : Name) → items_away d n ≡ items_of es n

-- the table with the directory at a path loaded, and the directories of the path stamped
abbrev pub with_loaded : Path → ℕ → Directory → Row → Row
with_loaded p clock d x = stamped_along p clock (edit_row p (with_child (Some d)) x)

-- Entries of a tree object, where these are given: they come with the numbers from `next` on.
pub record LoadsObject (clock next : ℕ) (x : Row) (p : Path) (es : List TreeEntry) (z : Row) (after : ℕ) : Type 0 where
  pub directory : Directory
  pub new : IsNew clock directory
  pub has : HasObject next es directory
  pub gives : after ≡ next + length es
  pub is : z ≡ with_loaded p clock directory x

-- Otherwise what is stored for an own directory, with the numbers stored, or nothing.
pub record LoadsOwn (honest : Type 0) (clock : ℕ) (F : Stored) (x : Row) (p : Path) (z : Row) : Type 0 where
  pub directory : Directory
  pub new : IsNew clock directory
  pub own : honest → (y : Row) → row_at p x ≡ Some y → y.origin ≡ origin.Own → HoldsEntries F y.number (listing_of directory)
  pub empty : (y : Row) → row_at p x ≡ Some y → y.origin ≡ origin.Empty → directory.rows ≡ []
  pub is : z ≡ with_loaded p clock directory x
