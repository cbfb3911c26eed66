-- Files that a checkout is closed to.
use Rattle.std.specs.Prelude.{◌≡◌, ℕ, Err, Result, OnOk, OnErr}
use Rattle.eden_model.specs.declared.fault.Fault.{Fault}
use Rattle.eden_model.specs.declared.fault.Fault.TheVariants as fault
use Rattle.eden_model.specs.Failures.{Counted}
use Rattle.eden_overlay_format.specs.declared.state.State.{State}
use Rattle.eden_overlay.specs.declared.files.FilesFault.{FilesFault}
use Rattle.eden_overlay.specs.declared.files.FilesFault.TheVariants as files
use Rattle.eden_overlay.specs.Files.{Stored}
use Rattle.eden_overlay.specs.Held.{with_state}
use Rattle.eden_tree.specs.Directory.{Row}

-- the state is stored, or nothing is, and the entry is as it was
pub record Leaves (honest : Type 0) (state : State) (F : Stored) (x : Row) (old : ℕ) (G : Stored) (z : Row) (new : ℕ)
    (answer : Result (Unit {0}) FilesFault) : Type 0 where
  pub root : z ≡ x
  pub ok : honest → OnOk answer (G ≡ with_state F state)
  pub err : honest → OnErr answer (G ≡ F)
  pub counted : Counted (answer ≡ Err files.Device) old new

-- a fault of the overlay is the device's
abbrev pub as_files : Fault → FilesFault
as_files (fault.Fetch id cause) = files.Memory
as_files fault.Overlay = files.Device
as_files fault.Memory = files.Memory
as_files fault.Numbers = files.Memory
