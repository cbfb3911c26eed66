-- What ties the loaded directories to the stored files.
use Rattle.std.specs.Prelude.{◌≡◌, ◌≢◌, ◌<◌, ◌⊎◌, ℕ, true, false, List, Some, None, Contains}
use Rattle.eden_model.specs.declared.kind.Kind.TheVariants as kind
use Rattle.eden_model.specs.declared.kind.Origin.TheVariants as origin
use Rattle.eden_overlay_format.specs.declared.stored_entry.StoredEntry.{StoredEntry}
use Rattle.eden_overlay.specs.Files.{Stored}
use Rattle.eden_overlay.specs.Held.{HoldsEntries, root_file}
use Rattle.eden_overlay.specs.Soundness.{Names, IsLive, HoldsKind, AreSound}
use Rattle.eden_tree.specs.Directory.{Row, Directory, child_of}
use Rattle.eden_coupling.specs.Listings.{listing_of, full_listing, Place}

-- no loaded directory has the number
abbrev pub IsAway : Row → ℕ → Type 0
IsAway x k = (y : Row) (d : Directory) → Place x y → child_of y ≡ Some d → y.number ≢ k

-- file k is the same in both, or in both a directory of the same entries
abbrev pub SameFile : Stored → Stored → ℕ → Type 0
SameFile F G k = (F k ≡ G k) ⊎ ((es : List StoredEntry) × (HoldsEntries F k es × HoldsEntries G k es))

-- file k lists what the loaded directory has, or where that is marked unsaved, some of it
pub record IsStoredAs (F : Stored) (k : ℕ) (d : Directory) : Type 0 where
  pub entries : List StoredEntry
  pub held : HoldsEntries F k entries
  pub some : (e : StoredEntry) → Contains entries e → Contains (listing_of d) e
  pub all : d.unsaved ≡ false → entries ≡ listing_of d

-- The table of the root's entry x, whose numbers are below `next`, stands in the files `full`, as the files would be
-- were all that is loaded materialised and saved. That these are sound says of memory and files together that no number
-- is named twice.
pub record Fits (full : Stored) (x : Row) (next : ℕ) : Type 0 where
  pub root : x.number ≡ 1
  pub sound : AreSound full
  pub below : (c : ℕ) (e : StoredEntry) → IsLive full c → Names full c e → e.number < next
  pub is_dir : (y : Row) (d : Directory) → Place x y → child_of y ≡ Some d → y.kind ≡ kind.Dir
  pub held : (y : Row) (d : Directory) → Place x y → child_of y ≡ Some d → HoldsEntries full y.number (full_listing d)

-- such a table over the stored files F
pub record Ties (F full : Stored) (x : Row) (next : ℕ) : Type 0 where
  pub fits : Fits full x next
  -- the loaded directories of their own are stored; of the others' files nothing is known
  pub stored : (y : Row) (d : Directory) → Place x y → child_of y ≡ Some d → y.origin ≡ origin.Own → IsStoredAs F y.number d
  -- and those alone are marked unsaved
  pub marked : (y : Row) (d : Directory) → Place x y → child_of y ≡ Some d → d.unsaved ≡ true → y.origin ≡ origin.Own
  -- whatever is its own and isn't loaded is stored alike
  pub same : (c : ℕ) (e : StoredEntry) → IsLive full c → Names full c e → e.origin ≡ origin.Own → IsAway x e.number → SameFile F full e.number
  -- the root's file stands exactly where the root is its own
  pub same_root : child_of x ≡ None → SameFile F full 1
  pub rootless : x.origin ≢ origin.Own → root_file F ≡ None
  pub rooted : x.origin ≡ origin.Own → HoldsKind F 1 kind.Dir

-- the table is tied to the files
abbrev pub Tied : Stored → Row → ℕ → Type 0
Tied F x next = (full : Stored) × Ties F full x next
