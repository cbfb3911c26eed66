-- A closed overlay that is to stand on another commit's tree: what becomes of its files, and how the run ends.
use Rattle.std.specs.Prelude.{◌≡◌, ◌⊎◌, ℕ, Result, ⊤, OnErr, OnOk}
use Rattle.eden_model.specs.declared.id.Id.{Id}
use Rattle.eden_model.specs.declared.world.World.{Ghosts}
use Rattle.eden_overlay.specs.declared.files.Files.{Ghosts as Files}
use Rattle.eden_overlay.specs.declared.files.FilesFault.{FilesFault}
use Rattle.eden_snapshot.specs.declared.closed.ClosedFault.{ClosedFault}
use Rattle.eden_snapshot.specs.Closing.{AreClosedOn, IsClosedFault}
use Rattle.eden_dematerialise.specs.declared.fault.DematerialiseFault.{DematerialiseFault}
use Rattle.eden_dematerialise.specs.Dematerialising.{AreDematerialised, AreSoFar, ShowTheSame}
use Rattle.mountd.specs.Endings.{dematerialised_status}

module _ {W F : Type 0} (w : Ghosts W) (f : Files F W) where
  -- Files were dematerialised and stand on that tree, or before an error that was done so far. The status says how that ended, and
  -- what a wait for the disk answered; no clause says what the disk has then.
  pub record IsDematerialiseRun (to : Id) (files : F) (status : ℕ) : Type 0 where
    pub left : F
    pub outcome : Result ⊤ DematerialiseFault
    pub same : w.honest → ShowTheSame w.repository (f.stored files) (f.stored left)
    pub done : w.honest → OnOk outcome (AreDematerialised w.repository to (f.stored files) (f.stored left))
    pub so_far : w.honest → OnErr outcome (AreSoFar w.repository to (f.stored files) (f.stored left))
    pub stored : Result ⊤ FilesFault
    pub told : status ≡ dematerialised_status outcome stored

  -- they aren't files that were closed on that commit's tree, for that cause; they stay what they were, and the status is 3
  pub record IsRefused (root : Id) (files : F) (status : ℕ) : Type 0 where
    pub left : F
    pub fault : ClosedFault
    pub refused : IsClosedFault w.honest root (f.stored files) (f.failures files) (f.failures left) fault
    pub unchanged : w.honest → f.stored left ≡ f.stored files
    pub told : status ≡ 3

  -- .. or they are, and were to stand on the other
  abbrev pub IsClosedRun : Id → Id → F → ℕ → Type 0
  IsClosedRun root to files status =
      IsRefused root files status ⊎ ((w.honest → AreClosedOn root (f.stored files)) × IsDematerialiseRun to files status)
