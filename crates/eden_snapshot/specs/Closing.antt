-- Files that a close left, and why files aren't.
use Rattle.std.specs.Prelude.{◌≡◌, ◌≢◌, ◌⊎◌, ℕ, None, IsSome}
use Rattle.eden_model.specs.declared.id.Id.{Id}
use Rattle.eden_model.specs.Failures.{Rose}
use Rattle.eden_overlay_format.specs.declared.header.Identifier.TheVariants as identifier
use Rattle.eden_overlay_format.specs.declared.state.State.{State}
use Rattle.eden_overlay_format.specs.Values.{state_in}
use Rattle.eden_overlay.specs.declared.fault.GetFault.TheVariants as get
use Rattle.eden_overlay.specs.declared.files.FilesFault.{FilesFault}
use Rattle.eden_overlay.specs.declared.files.FilesFault.TheVariants as files
use Rattle.eden_overlay.specs.Files.{Stored}
use Rattle.eden_overlay.specs.Getting.{Explains}
use Rattle.eden_overlay.specs.Held.{HoldsState}
use Rattle.eden_snapshot.specs.declared.closed.ClosedFault.{ClosedFault}
use Rattle.eden_snapshot.specs.declared.closed.ClosedFault.TheVariants as closed

abbrev pub AreNone : Stored → Type 0
AreNone F = (k : ℕ) → F k ≡ None

-- they have a state, and it stands on that tree
abbrev pub HaveStateOf : Id → Stored → Type 0
HaveStateOf root F = (s : State) × (HoldsState F s × (s.root ≡ root))

-- there are no files, or such a state among them, which a close stores last and an opening removes
abbrev pub AreClosedOn : Id → Stored → Type 0
AreClosedOn root F = AreNone F ⊎ HaveStateOf root F

-- a fault of the files
abbrev pub of_files : FilesFault → ClosedFault
of_files files.Device = closed.Device
of_files files.Memory = closed.Memory

-- F are the files, and the counts are those of the device's failures before and then
abbrev pub IsClosedFault : Type 0 → Id → Stored → ℕ → ℕ → ClosedFault → Type 0
IsClosedFault honest root F old new closed.NotClean = honest → (F 0 ≡ None) × ((k : ℕ) × IsSome (F k))
IsClosedFault honest root F old new (closed.OtherRoot stored) = (stored ≢ root) × (honest → HaveStateOf stored F)
IsClosedFault honest root F old new (closed.Damaged refusal) = honest → Explains identifier.File state_in (F 0) (get.Damaged refusal)
IsClosedFault honest root F old new closed.Device = Rose old new
IsClosedFault honest root F old new closed.Memory = Unit {0}
