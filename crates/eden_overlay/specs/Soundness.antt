-- Overlays in which no name dangles.
use Rattle.std.specs.Prelude.{◌≡◌, ◌⊎◌, ℕ, List, None, Contains}
use Rattle.eden_model.specs.declared.kind.Kind.{Kind}
use Rattle.eden_model.specs.declared.kind.Kind.TheVariants as kind
use Rattle.eden_model.specs.declared.kind.Origin.TheVariants as origin
use Rattle.eden_overlay_format.specs.declared.stored_entry.StoredEntry.{StoredEntry}
use Rattle.eden_overlay.specs.Files.{Stored}
use Rattle.eden_overlay.specs.Held.{HoldsContent, HoldsEntries, root_file}

-- the stored directory d has the entry e, whose number is 2 or more by the directory's grammar
pub record Names (F : Stored) (d : ℕ) (e : StoredEntry) : Type 0 where
  pub entries : List StoredEntry
  pub held : HoldsEntries F d entries
  pub there : Contains entries e

-- The directory of the entry's number is looked into as well. This alone says which entries lead on.
abbrev pub LeadsOn : StoredEntry → Type 0
LeadsOn e = (e.kind ≡ kind.Dir) × (e.origin ≡ origin.Own)

-- d is k, or is reached from it through entries that lead on
pub data Reached (F : Stored) (k : ℕ) : ℕ → Type 0 where
  here : Reached F k k
  below : (d : ℕ) (e : StoredEntry) → Reached F k d → Names F d e → LeadsOn e → Reached F k e.number

-- the live directories are those reached from file 1, the root's
abbrev pub IsLive : Stored → ℕ → Type 0
IsLive F d = Reached F 1 d

-- file k is stored, as that kind of inode is
abbrev pub HoldsKind : Stored → ℕ → Kind → Type 0
HoldsKind F k kind.Dir = (entries : List StoredEntry) × HoldsEntries F k entries
HoldsKind F k _ = (content : List ℕ) × HoldsContent F k content

-- an entry whose contents are its own has its file
abbrev pub HasOwn : Stored → StoredEntry → Type 0
HasOwn F e = e.origin ≡ origin.Own → HoldsKind F e.number e.kind

-- no name dangles; strays, files that no live directory names as its own, may hold anything
pub record AreSound (F : Stored) : Type 0 where
  -- the root's file, where it stands, is a directory
  pub top : (root_file F ≡ None) ⊎ HoldsKind F 1 kind.Dir
  -- what a live directory names as its own is stored
  pub owned : (d : ℕ) (e : StoredEntry) → IsLive F d → Names F d e → HasOwn F e
  -- no number is named twice
  pub once : (c d : ℕ) (e f : StoredEntry) → IsLive F c → IsLive F d → Names F c e → Names F d f → e.number ≡ f.number → (c ≡ d) × (e ≡ f)
