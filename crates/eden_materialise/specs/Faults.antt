-- Why a listing isn't stored, as a mount tells it.
use Rattle.std.specs.Prelude.{◌≡◌, ℕ}
use Rattle.eden_model.specs.declared.fault.Fault.{Fault}
use Rattle.eden_model.specs.declared.fault.Fault.TheVariants as fault
use Rattle.eden_model.specs.Failures.{Rose}
use Rattle.eden_overlay.specs.declared.files.FilesFault.{FilesFault}
use Rattle.eden_overlay.specs.declared.files.FilesFault.TheVariants as files

-- a failed device is a fault of the overlay
abbrev pub told_files_fault : FilesFault → Fault
told_files_fault files.Device = fault.Overlay
told_files_fault files.Memory = fault.Memory

-- the device failed, or there was no memory and the device did not fail
abbrev pub IsStoreFault : ℕ → ℕ → Fault → Type 0
IsStoreFault old new (fault.Fetch id cause) = ⊥
IsStoreFault old new fault.Memory = new ≡ old
IsStoreFault old new fault.Overlay = Rose old new
IsStoreFault old new fault.Numbers = ⊥
