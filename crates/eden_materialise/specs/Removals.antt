-- An entry that is removed from the table of a mount.
use Rattle.std.specs.Prelude.{◌≡◌, ℕ, Some, None, Result, OnOk, OnErr}
use Rattle.eden_model.specs.declared.fault.Fault.{Fault}
use Rattle.eden_model.specs.Trees.{Name, Path}
use Rattle.eden_overlay.specs.declared.files.Files.{Ghosts as Files}
use Rattle.eden_overlay.specs.Files.{Stored}
use Rattle.eden_overlay.specs.Held.{with_entries}
use Rattle.eden_tree.specs.Directory.{Row, Directory, child_of}
use Rattle.eden_tree.specs.Rows.{find_row}
use Rattle.eden_tree.specs.Paths.{row_at}
use Rattle.eden_coupling.specs.Chains.{Above}
use Rattle.eden_coupling.specs.Changing.{changed}
use Rattle.eden_coupling.specs.Listings.{listing_of}
use Rattle.eden_inode.specs.Tables.{Table}
use Rattle.eden_materialise.specs.EntryMoves.{own_number, Clears}
use Rattle.eden_materialise.specs.Listings.{ChangesEntry}
use Rattle.eden_materialise.specs.Puts.{AtDirectory}

-- in the loaded directory at a path there is an entry of that name, which isn't loaded
pub record HasEntry (x : Row) (p : Path) (n : Name) : Type 0 where
  pub row : Row
  pub directory : Directory
  pub entry : Row
  pub at : row_at p x ≡ Some row
  pub holds : child_of row ≡ Some directory
  pub there : find_row n directory.rows ≡ Some entry
  pub unloaded : child_of entry ≡ None

-- F became G: the chain of the directory y was stored without the entry, and then the file of what went, where it may have
-- one, was removed, or is left where the device failed at that
pub record RemovesFrom (honest : Type 0) (p : Path) (n : Name) (F : Stored) (x y : Row) (d : Directory) (old : ℕ) (G : Stored) (new : ℕ) : Type 0 where
  pub between : Stored
  pub stored : honest → Above (with_entries F y.number (listing_of (changed d n None))) x p between
  pub clears : Clears honest between old G new (own_number (find_row n d.rows))

-- .. of the files of a table, for the entry under that name at a path
abbrev pub RemovesStored : {W F : Type 0} → Files F W → Type 0 → Path → Name → Table F → Table F → Type 0
RemovesStored f honest p n s t = AtDirectory p s.root (λ y d. RemovesFrom honest p n (f.stored s.files) s.root y d
    (f.failures s.files) (f.stored t.files) (f.failures t.files))

-- the entry is left out, and then its file is cleared; after an error nothing is
pub record RemovesEntry (honest : Type 0) (p : Path) (n : Name) (F : Stored) (x : Row) (old : ℕ) (G : Stored) (z : Row) (new : ℕ)
    (answer : Result (Unit {0}) Fault) : Type 0 where
  pub between : Stored
  pub count : ℕ
  pub changes : ChangesEntry honest p n None F x old between z count answer
  pub clears : AtDirectory p x (λ y d. OnOk answer (Clears honest between count G new (own_number (find_row n d.rows))))
  pub refused : OnErr answer ((honest → G ≡ between) × (new ≡ count))
