-- What may come to stand under a name of a loaded directory, told by the table alone.
use Rattle.std.specs.Prelude.{◌≡◌, ◌≢◌, ◌≤◌, ◌<◌, ◌⊎◌, ℕ, [], Option, Some, None, IfSome}
use Rattle.eden_model.specs.declared.kind.Kind.TheVariants as kind
use Rattle.eden_model.specs.declared.kind.Origin.TheVariants as origin
use Rattle.eden_model.specs.Limits.{number_least}
use Rattle.eden_model.specs.Repository.{Repository}
use Rattle.eden_model.specs.Trees.{Name, Path}
use Rattle.eden_overlay_format.specs.Directory.{IsStorable, AreStorable}
use Rattle.eden_overlay.specs.Files.{Stored}
use Rattle.eden_overlay.specs.Held.{HoldsEntries}
use Rattle.eden_overlay.specs.Soundness.{HoldsKind}
use Rattle.eden_tree.specs.Directory.{Row, Directory, child_of}
use Rattle.eden_tree.specs.Rows.{find_row}
use Rattle.eden_tree.specs.Paths.{row_at}
use Rattle.eden_coupling.specs.Changing.{HasRoom, MayGo, changed}
use Rattle.eden_coupling.specs.Kept.{IsKept}
use Rattle.eden_coupling.specs.NumberKept.{KeepsNumbers}
use Rattle.eden_coupling.specs.Listings.{stored_entry, listing_of}

-- the number of what comes
pub data IsNumbered (honest : Type 0) (R : Repository) (F : Stored) (x : Row) (next : ℕ) (d : Directory) (n : Name) (z : Row) : Type 0 where
  -- that of the file or link in whose place it comes: of the same origin, or its own now, once that is stored
  kept_number : (w : Row) → find_row n d.rows ≡ Some w → z.number ≡ w.number → w.kind ≢ kind.Dir → z.kind ≢ kind.Dir
      → (z.origin ≡ w.origin) ⊎ ((z.origin ≡ origin.Own) × (honest → HoldsKind F z.number z.kind)) → IsNumbered honest R F x next d n z
  -- one that was given since the table and its numbers were kept, its file stored: a directory's is empty
  new_number : number_least ≤ z.number → z.number < next → (honest → IsKept R F x z.number) → (honest → KeepsNumbers R F x z.number)
      → (honest → HoldsKind F z.number z.kind)
      → (honest → z.kind ≡ kind.Dir → HoldsEntries F z.number []) → IsNumbered honest R F x next d n z

-- this may stand under a name of the directory at a path: what goes and what comes aren't loaded
pub record MayStand (honest : Type 0) (R : Repository) (F : Stored) (x : Row) (next : ℕ) (p : Path) (n : Name) (o : Option Row) : Type 0 where
  pub row : Row
  pub directory : Directory
  pub at : row_at p x ≡ Some row
  pub holds : child_of row ≡ Some directory
  pub may_go : MayGo directory n
  pub storable : AreStorable (listing_of (changed directory n o))
  pub unloaded : IfSome o (λ z. child_of z ≡ None)
  pub numbered : IfSome o (IsNumbered honest R F x next directory n)

-- a directory that can be stored can be so without an entry, and with one in the place of another, or where there is room
abbrev pub DropStorable : Type 0
DropStorable = (d : Directory) (n : Name) → AreStorable (listing_of d) → AreStorable (listing_of (changed d n None))

abbrev pub EntryStorable : Type 0
EntryStorable = (d : Directory) (n : Name) (z : Row) → AreStorable (listing_of d) → IsStorable (stored_entry (n, z))
    → HasRoom d n → AreStorable (listing_of (changed d n (Some z)))
