-- A directory that is stored again, where it is unsaved.
use Rattle.std.specs.Prelude.{◌≡◌, ◌⊎◌, ℕ, true, Result, OnOk, OnErr, IfErr}
use Rattle.eden_model.specs.declared.fault.Fault.{Fault}
use Rattle.eden_model.specs.Trees.{Path}
use Rattle.eden_overlay_format.specs.Directory.{AreStorable}
use Rattle.eden_overlay.specs.Files.{Stored}
use Rattle.eden_overlay.specs.Held.{with_entries}
use Rattle.eden_overlay.specs.Soundness.{AreSound}
use Rattle.eden_tree.specs.Directory.{Row}
use Rattle.eden_coupling.specs.Chains.{IsUnsavedAt}
use Rattle.eden_coupling.specs.Listings.{listing_of}
use Rattle.eden_coupling.specs.Saving.{Saves}
use Rattle.eden_materialise.specs.Faults.{IsStoreFault}
use Rattle.eden_materialise.specs.Puts.{AtDirectory}

-- the directory at a path may be stored, where it is unsaved
abbrev pub CanSave : Type 0 → Path → Stored → Row → Type 0
CanSave honest p F x = AtDirectory p x (λ y d. d.unsaved ≡ true → AreStorable (listing_of d) × (honest → AreSound (with_entries F y.number (listing_of d))))

-- none there was unsaved, and nothing changed
pub record IsIdle (honest : Type 0) (p : Path) (F : Stored) (x : Row) (G : Stored) (z : Row) : Type 0 where
  pub was : ¬ IsUnsavedAt p x
  pub root : z ≡ x
  pub files : honest → G ≡ F

-- one that was unsaved was stored; after an error nothing changed
pub record SavesAt (honest : Type 0) (p : Path) (F : Stored) (x : Row) (old : ℕ) (G : Stored) (z : Row) (new : ℕ)
    (answer : Result (Unit {0}) Fault) : Type 0 where
  pub ok : OnOk answer (IsIdle honest p F x G z ⊎ Saves honest p F x G z)
  pub err : OnErr answer (z ≡ x)
  pub unchanged : honest → OnErr answer (G ≡ F)
  -- the counts of failures of the device, before and then
  pub fault : IfErr answer (IsStoreFault old new)
  pub counted : OnOk answer (new ≡ old)
