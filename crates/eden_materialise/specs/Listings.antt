-- One entry of a listing changed, in the table of a mount.
use Rattle.std.specs.Prelude.{◌≡◌, ℕ, Option, Result, OnOk, OnErr, IfErr}
use Rattle.eden_model.specs.declared.fault.Fault.{Fault}
use Rattle.eden_model.specs.Repository.{Repository}
use Rattle.eden_model.specs.Trees.{Name, Path}
use Rattle.eden_overlay.specs.Files.{Stored}
use Rattle.eden_overlay.specs.Held.{with_entries}
use Rattle.eden_tree.specs.Directory.{Row}
use Rattle.eden_coupling.specs.Chains.{chained, Above, Refused}
use Rattle.eden_coupling.specs.Changing.{changed}
use Rattle.eden_coupling.specs.Kept.{IsTable, IsKept}
use Rattle.eden_coupling.specs.Listings.{listing_of}
use Rattle.eden_coupling.specs.Standing.{MayStand}
use Rattle.eden_materialise.specs.Faults.{IsStoreFault}
use Rattle.eden_materialise.specs.Puts.{AtDirectory}

-- the entry is the root of a table, kept where the outside is honest, in which this may stand under that name
pub record IsHeldFor (honest : Type 0) (R : Repository) (F : Stored) (x : Row) (p : Path) (n : Name) (o : Option Row) : Type 0 where
  pub next : ℕ
  pub table : IsTable x next
  pub kept : honest → IsKept R F x next
  pub may : MayStand honest R F x next p n o

-- x became z in memory: the directory at a path has this under that name and is saved, and it and all above it are the mount's own
abbrev pub PutsEntry : Path → Name → Option Row → Row → Row → Type 0
PutsEntry p n o x z = AtDirectory p x (λ y d. z ≡ chained p (changed d n o) x)

-- F became G: the directory at a path was stored with this under that name, and then those above it that have to be
abbrev pub StoresEntry : Path → Name → Option Row → Stored → Row → Stored → Type 0
StoresEntry p n o F x G = AtDirectory p x (λ y d. Above (with_entries F y.number (listing_of (changed d n o))) x p G)

-- the chain of the directory at a path is stored with this under that name, and then so in memory; after an error memory is
-- as it was, and what was stored is strays
pub record ChangesEntry (honest : Type 0) (p : Path) (n : Name) (o : Option Row) (F : Stored) (x : Row) (old : ℕ)
    (G : Stored) (z : Row) (new : ℕ) (answer : Result (Unit {0}) Fault) : Type 0 where
  pub ok : AtDirectory p x (λ y d. OnOk answer (z ≡ chained p (changed d n o) x))
  pub stored : honest → AtDirectory p x (λ y d. OnOk answer (Above (with_entries F y.number (listing_of (changed d n o))) x p G))
  pub err : OnErr answer (z ≡ x)
  pub strays : honest → OnErr answer (Refused F x p G)
  -- the counts of failures of the device, before and then
  pub fault : IfErr answer (IsStoreFault old new)
  pub counted : OnOk answer (new ≡ old)
