-- Numbers that are saved for the directory of a tree object.
use Rattle.std.specs.Prelude.{◌≡◌, ◌⊎◌, ℕ, List, Some, None, IsSome}
use Rattle.eden_model.specs.declared.id.Id.{Id}
use Rattle.eden_model.specs.declared.kind.Origin.TheVariants as origin
use Rattle.eden_model.specs.Trees.{Path}
use Rattle.eden_overlay_format.specs.declared.stored_entry.StoredEntry.{StoredEntry}
use Rattle.eden_overlay.specs.Files.{Stored}
use Rattle.eden_overlay.specs.Held.{saved_at, with_numbers}
use Rattle.eden_tree.specs.Directory.{Row, Directory, child_of}
use Rattle.eden_tree.specs.Paths.{row_at}
use Rattle.eden_coupling.specs.Listings.{listing_of}
use Rattle.eden_coupling.specs.Loading.{IsAt}

-- F became G: these are the numbers that were saved, or they were stored now
abbrev pub HasSaved : Stored → ℕ → Id → List StoredEntry → Stored → Type 0
HasSaved F k tree entries G = ((saved_at F k tree ≡ Some entries) × (G ≡ F)) ⊎ (G ≡ with_numbers F k tree entries)

-- the directory at the path isn't loaded, and stands on a tree object, for which its file has numbers
pub record HasNumbers (honest : Type 0) (F : Stored) (p : Path) (x : Row) : Type 0 where
  pub id : Id
  pub at : IsAt p x (origin.Object id)
  pub saved : honest → IsSome (saved_at F at.row.number id)

-- .. or has none
abbrev pub LacksNumbers : Type 0 → Stored → Path → Row → Type 0
LacksNumbers honest F p x = honest → (y : Row) (id : Id) → row_at p x ≡ Some y → y.origin ≡ origin.Object id → saved_at F y.number id ≡ None

-- of the loaded directory that the entry holds, if it stands on a tree object, the file has the numbers
abbrev pub AreNumbersSaved : Stored → Row → Type 0
AreNumbersSaved F y = (d : Directory) (id : Id) → child_of y ≡ Some d → y.origin ≡ origin.Object id → saved_at F y.number id ≡ Some (listing_of d)

-- .. of the entry at the path, if any
abbrev pub AreSavedAt : Stored → Path → Row → Type 0
AreSavedAt F p x = (y : Row) → row_at p x ≡ Some y → AreNumbersSaved F y

-- F became G: the numbers were stored of the loaded directory that the entry holds, which stands on a tree object
pub record StoresNumbers (F : Stored) (y : Row) (G : Stored) : Type 0 where
  pub directory : Directory
  pub id : Id
  pub holds : child_of y ≡ Some directory
  pub object : y.origin ≡ origin.Object id
  pub is : G ≡ with_numbers F y.number id (listing_of directory)
