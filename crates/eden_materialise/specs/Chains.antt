-- A chain of directories that is stored, its lowest one first.
use Rattle.std.specs.Prelude.{◌≡◌, ◌⊎◌, ℕ, true, false, if◌then◌else◌, List, Option, Some, None, Result, OnOk, OnErr, IfErr}
use Rattle.eden_model.specs.declared.fault.Fault.{Fault}
use Rattle.eden_model.specs.Repository.{Repository}
use Rattle.eden_model.specs.Trees.{Name, Path}
use Rattle.eden_overlay_format.specs.declared.stored_entry.StoredEntry.{StoredEntry}
use Rattle.eden_overlay_format.specs.Directory.{is_own}
use Rattle.eden_overlay.specs.Files.{Stored}
use Rattle.eden_overlay.specs.Held.{HoldsEntries, with_entries}
use Rattle.eden_overlay.specs.Soundness.{AreSound}
use Rattle.eden_tree.specs.Directory.{Row, Directory}
use Rattle.eden_coupling.specs.Chains.{IsAboveOther, Above, Unfinished, Refused}
use Rattle.eden_coupling.specs.Kept.{IsTable, IsKept}
use Rattle.eden_coupling.specs.Laws.{owned}
use Rattle.eden_coupling.specs.Listings.{listing_of}
use Rattle.eden_coupling.specs.Materialising.{marked_listing, Chain, owned_along}
use Rattle.eden_inode.specs.declared.listing.Listed.{Listed}
use Rattle.eden_materialise.specs.Faults.{IsStoreFault}
use Rattle.eden_inode.specs.Listed.{listed_as}
use Rattle.eden_materialise.specs.Puts.{AtDirectory}

-- what is stored of the lowest directory: those entries, or where none are told, all of a directory that isn't its own
abbrev pub lowest_of : Option Listed → Row → Directory → Option (List StoredEntry)
lowest_of None y d = if is_own y.origin then None else Some (listing_of d)
lowest_of (Some l) y d = Some (listed_as l d)

-- a directory of the mount's own that isn't marked unsaved
abbrev pub IsOwnAndSaved : Row → Directory → Type 0
IsOwnAndSaved y d = (is_own y.origin ≡ true) × (d.unsaved ≡ false)

-- if the directory is such a one, its file lists it
abbrev pub IsListedIfSaved : Stored → Row → Directory → Type 0
IsListedIfSaved F y d = IsOwnAndSaved y d → HoldsEntries F y.number (listing_of d)

-- file k with those entries, where there are any
abbrev pub with_lowest : Stored → ℕ → Option (List StoredEntry) → Stored
with_lowest F k None = F
with_lowest F k (Some entries) = with_entries F k entries

-- F became G: the directory at a path was stored so, and then those above it that have to be
abbrev pub StoresChain : Path → Option Listed → Stored → Row → Stored → Type 0
StoresChain p lowest F x G = AtDirectory p x (λ y d. Above (with_lowest F y.number (lowest_of lowest y d)) x p G)

-- one of these stores was refused
abbrev pub StopsChain : Path → Option Listed → Stored → Row → Stored → Type 0
StopsChain p lowest F x G = AtDirectory p x (λ y d. (G ≡ F) ⊎ Unfinished (with_lowest F y.number (lowest_of lowest y d)) x p G)

-- F became G: the directory x was stored with its entry n, the directory z, its own, unless both were their own already
pub data StoresAgain (F : Stored) (x : Row) (d : Directory) (n : Name) (z : Row) (G : Stored) : Type 0 where
  were_own : is_own x.origin ≡ true → is_own z.origin ≡ true → G ≡ F → StoresAgain F x d n z G
  stored_again : IsAboveOther x z → G ≡ with_entries F x.number (marked_listing d n) → StoresAgain F x d n z G

-- while the directories above the one at a path are stored, the files are sound
abbrev pub StaySound : Stored → Row → Path → Type 0
StaySound F x p = (G : Stored) → Above F x p G ⊎ Unfinished F x p G → AreSound G

-- the entry is the root of a table, which is kept where the outside is honest
abbrev pub IsHeld : Type 0 → Repository → Stored → Row → Type 0
IsHeld honest R F x = (next : ℕ) × (IsTable x next × (honest → IsKept R F x next))

-- the chain along a path is stored, and then its own in memory; after an error memory is as it was, and what was stored is strays
pub record Owns (honest : Type 0) (p : Path) (F : Stored) (x : Row) (old : ℕ) (G : Stored) (z : Row) (new : ℕ) (answer : Result (Unit {0}) Fault) : Type 0 where
  pub ok : OnOk answer (z ≡ owned (owned_along p x))
  pub stored : honest → OnOk answer (Chain F x p G)
  pub err : OnErr answer (z ≡ x)
  pub strays : honest → OnErr answer (Refused F x p G)
  -- the counts of failures of the device, before and then
  pub fault : IfErr answer (IsStoreFault old new)
  pub counted : OnOk answer (new ≡ old)
