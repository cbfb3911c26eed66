-- Which files materialising a directory stores.
use Rattle.std.specs.Prelude.{◌≡◌, ◌⊎◌, ℕ, Bool, true, false, if◌then◌else◌, List, [], ◌∷◌, map, Option, Some, None}
use Rattle.std.specs.Str.{bytes_eq}
use Rattle.eden_model.specs.declared.kind.Origin.TheVariants as origin
use Rattle.eden_model.specs.Trees.{Name, Path}
use Rattle.eden_model.specs.Named.{AreRising}
use Rattle.eden_overlay_format.specs.Directory.{AreStorable, is_own}
use Rattle.eden_overlay_format.specs.declared.stored_entry.StoredEntry.{StoredEntry}
use Rattle.eden_overlay.specs.Files.{Stored}
use Rattle.eden_overlay.specs.Held.{with_entries}
use Rattle.eden_overlay.specs.Soundness.{AreSound}
use Rattle.eden_tree.specs.Directory.{Row, Directory, child_of, change_child}
use Rattle.eden_tree.specs.Rows.{find_row, change_row}
use Rattle.eden_coupling.specs.Listings.{listing_of}
use Rattle.eden_coupling.specs.Laws.{owned, with_owned}
use Rattle.eden_coupling.specs.Ties.{Ties}

-- an entry as it is stored, its own where it has that name
abbrev pub marked_entry : Name → Name × Row → StoredEntry
marked_entry n e = record { name = e.0; kind = e.1.kind; origin = if bytes_eq n e.0 then origin.Own else e.1.origin; number = e.1.number }

-- the listing of a loaded directory, its entry of that name its own
abbrev pub marked_listing : Directory → Name → List StoredEntry
marked_listing d n = map (marked_entry n) d.rows

-- The files after the chain from x along a path was stored, the lowest directory first: each directory that isn't its
-- own, and each above one that isn't. A path that isn't loaded stores nothing.
pub data Chain (F : Stored) : Row → Path → Stored → Type 0 where
  lowest_own : (x : Row) → is_own x.origin ≡ true → Chain F x [] F
  lowest : (x : Row) (d : Directory) → child_of x ≡ Some d → is_own x.origin ≡ false → Chain F x [] (with_entries F x.number (listing_of d))
  both_own : (x : Row) (d : Directory) (n : Name) (z : Row) (p : Path) (G : Stored) → child_of x ≡ Some d → find_row n d.rows ≡ Some z → Chain F z p G
      → is_own x.origin ≡ true → is_own z.origin ≡ true → Chain F x (n ∷ p) G
  above : (x : Row) (d : Directory) (n : Name) (z : Row) (p : Path) (G : Stored) → child_of x ≡ Some d → find_row n d.rows ≡ Some z → Chain F z p G
      → (is_own x.origin ≡ false) ⊎ (is_own z.origin ≡ false) → Chain F x (n ∷ p) (with_entries G x.number (marked_listing d n))

-- the files after the first of these stores, up to some directory of the path
pub data OnTheWay (F : Stored) : Row → Path → Stored → Type 0 where
  stored : (x : Row) (p : Path) (G : Stored) → Chain F x p G → OnTheWay F x p G
  further : (x : Row) (d : Directory) (n : Name) (z : Row) (p : Path) (G : Stored) → child_of x ≡ Some d → find_row n d.rows ≡ Some z → OnTheWay F z p G
      → OnTheWay F x (n ∷ p) G

-- every directory of the chain is loaded, and can be stored
abbrev pub IsChain : Row → Path → Type 0
IsChain x [] = (d : Directory) × ((child_of x ≡ Some d) × AreStorable (listing_of d))
IsChain x (n ∷ p) = (d : Directory) × ((child_of x ≡ Some d)
    × (AreStorable (marked_listing d n) × ((z : Row) × ((find_row n d.rows ≡ Some z) × IsChain z p))))

-- a mark stays where the entry on the way was its own: then nothing was stored
abbrev pub kept_mark : Option Row → Bool → Bool
kept_mark None mark = mark
kept_mark (Some z) mark = if is_own z.origin then mark else false

-- the chain's entries below x its own
abbrev pub owned_along : Path → Row → Row
owned_along [] x = x
owned_along (n ∷ p) x = change_child (λ d. record d {
  rows = change_row n (λ z. owned (owned_along p z)) d.rows;
  unsaved = kept_mark (find_row n d.rows) d.unsaved;
}) x

-- what is stored of a directory with an entry marked is the listing of the directory with that entry its own
abbrev pub MarkedIs : Type 0
MarkedIs = (d : Directory) (n : Name) (z : Row) → AreRising (λ r. r.0) d.rows → find_row n d.rows ≡ Some z → marked_listing d n ≡ listing_of (with_owned d n z)

-- while a chain from the root on is stored, the files stay sound
abbrev pub ChainSound : Type 0
ChainSound = (F full : Stored) (x : Row) (next : ℕ) → Ties F full x next → (p : Path) (G : Stored) → IsChain x p → OnTheWay F x p G → AreSound G

-- once it is stored, its directories may become their own, the root among them
abbrev pub ChainTied : Type 0
ChainTied = (F full : Stored) (x : Row) (next : ℕ) → Ties F full x next → (p : Path) (G : Stored) → IsChain x p → Chain F x p G
    → Ties G full (owned (owned_along p x)) next
