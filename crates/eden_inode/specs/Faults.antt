-- Why what is stored isn't had, as a mount tells it.
use Rattle.std.specs.Prelude.{◌≡◌, ◌⊎◌, ℕ, Bool, false, List, Option, None, Result, Ok, Err}
use Rattle.eden_model.specs.declared.fault.Fault.{Fault}
use Rattle.eden_model.specs.declared.fault.Fault.TheVariants as fault
use Rattle.eden_model.specs.declared.id.Id.{Id}
use Rattle.eden_model.specs.Failures.{Rose}
use Rattle.eden_overlay_format.specs.declared.refusal.Refusal.{Refusal}
use Rattle.eden_overlay.specs.Getting.{ExplainsNumbers}
use Rattle.eden_overlay.specs.declared.fault.GetFault.{GetFault}
use Rattle.eden_overlay.specs.declared.fault.GetFault.TheVariants as get

-- all but want of memory is a fault of the overlay
abbrev pub told_get_fault : GetFault → Fault
told_get_fault get.Absent = fault.Overlay
told_get_fault (get.Damaged refusal) = fault.Overlay
told_get_fault get.Device = fault.Overlay
told_get_fault get.Memory = fault.Memory

-- no memory; or the device failed, or what was asked for isn't stored
abbrev pub IsGetFault : {X : Type 0} → Type 0 → ℕ → ℕ → Option X → Fault → Type 0
IsGetFault honest old new o (fault.Fetch id cause) = ⊥
IsGetFault honest old new o fault.Memory = Unit {0}
IsGetFault honest old new o fault.Overlay = Rose old new ⊎ (honest → o ≡ None)
IsGetFault honest old new o fault.Numbers = ⊥

-- the file has numbers, and they can't be read
abbrev pub AreBadNumbers : Id → Option (List ℕ) → Type 0
AreBadNumbers tree file = (refusal : Refusal) × ExplainsNumbers tree file (get.Damaged refusal)

-- a file without numbers is no fault
abbrev pub without_numbers : GetFault → Result Bool Fault
without_numbers get.Absent = Ok false
without_numbers (get.Damaged refusal) = Err fault.Overlay
without_numbers get.Device = Err fault.Overlay
without_numbers get.Memory = Err fault.Memory

-- why it isn't told whether a file has numbers for that tree object: no memory; the device failed, or they can't be read
abbrev pub IsNumbersFault : Type 0 → ℕ → ℕ → Id → Option (List ℕ) → Fault → Type 0
IsNumbersFault honest old new tree file (fault.Fetch id cause) = ⊥
IsNumbersFault honest old new tree file fault.Memory = Unit {0}
IsNumbersFault honest old new tree file fault.Overlay = Rose old new ⊎ (honest → AreBadNumbers tree file)
IsNumbersFault honest old new tree file fault.Numbers = ⊥
