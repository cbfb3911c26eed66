-- What is asked of an overlay: its snapshot, once it is closed, and its changes, and how either run ends.
use Rattle.std.specs.Prelude.{◌≡◌, ℕ, Bool, true, false, Result, ⊤, IfOk, IfErr, OnErr, OnOk}
use Rattle.std.specs.declared.io.Error.{Error}
use Rattle.eden_model.specs.declared.id.Id.{Id}
use Rattle.eden_model.specs.declared.world.World.{Ghosts}
use Rattle.eden_model.specs.Repository.{Repository, Whole}
use Rattle.eden_overlay.specs.declared.files.Files.{Ghosts as Files}
use Rattle.eden_overlay.specs.Files.{Stored}
use Rattle.eden_snapshot.specs.declared.comparing.ChangeSink.{Ghosts as ChangeSink}
use Rattle.eden_snapshot.specs.declared.sink.Sink.{Ghosts as Sink}
use Rattle.eden_snapshot.specs.Changes.{TellsAll, TellsAllSoFar}
use Rattle.eden_snapshot.specs.Closing.{AreClosedOn, IsClosedFault}
use Rattle.eden_snapshot.specs.Commits.{submodule_at}
use Rattle.eden_snapshot.specs.Exact.{TellsExactly, TellsTruly}
use Rattle.eden_snapshot.specs.Ordering.{GrowsInOrder}
use Rattle.eden_snapshot.specs.Pruning.{IsPruned}
use Rattle.eden_snapshot.specs.Showing.{FilesShow}
use Rattle.eden_snapshot.specs.Sinks.{HasAll}
use Rattle.eden_snapshot.specs.Written.{WritesTop}
use Rattle.mountd.specs.declared.lines.HoldsBack.{Ghosts as HoldsBack}
use Rattle.mountd.specs.declared.snapshot.TakeFault.{TakeFault}
use Rattle.mountd.specs.declared.snapshot.TakeFault.TheVariants as take
use Rattle.mountd.specs.Snapshots.{taken_status}

-- F are the files, which aren't closed ones of that commit's tree for that cause; or they are, and the fault came later. The
-- counts are those of the device's failures before and then.
abbrev pub IsTakeFault : Type 0 → Id → Stored → ℕ → ℕ → TakeFault → Type 0
IsTakeFault honest root F old new (take.Closed fault) = IsClosedFault honest root F old new fault
IsTakeFault honest root F old new (take.Snapshot fault) = honest → AreClosedOn root F

-- a file, an object or what is told to failed
abbrev pub IsSnapshotFault : TakeFault → Type 0
IsSnapshotFault (take.Closed fault) = ⊥
IsSnapshotFault (take.Snapshot fault) = ⊤

module _ {W F : Type 0} (w : Ghosts W) (f : Files F W) where
  -- An overlay was asked what only one is asked that was closed on that commit's tree, and stays what it was.
  pub record AsksClosed {T : Type 0} (root : Id) (files left : F) (outcome : Result T TakeFault) : Type 0 where
    pub closed : w.honest → IfOk outcome (λ _. AreClosedOn root (f.stored files))
    pub refused : IfErr outcome (IsTakeFault w.honest root (f.stored files) (f.failures files) (f.failures left))
    pub unchanged : w.honest → f.stored left ≡ f.stored files

  -- What its files show is in the sink as Git's objects, each after those that it names, and the tree of that id is it,
  -- without empty directories, with the commit's submodules.
  pub record Takes {K : Type 0} (k : Sink K W) (root : Id) (files left : F) (sink filled : K) (outcome : Result Id TakeFault) : Type 0 where
    pub asks : AsksClosed root files left outcome
    pub shown : w.honest → IfOk outcome (λ id. (R : Repository) → HasAll R (k.filled filled).kept
        → IsPruned (FilesShow R root (f.stored files)) (Whole R id))
    pub written : w.honest → IfOk outcome (λ id. WritesTop (f.stored files) (submodule_at w.repository root) root id (k.filled sink) (k.filled filled))
    pub ordered : w.honest → IfOk outcome (λ _. GrowsInOrder (f.stored files) (k.filled sink).kept (k.filled filled).kept)

  -- A sink was told how what the files show differs from the commit's tree, or before an error some of that, and they stay what
  -- they were.
  pub record TellsShown {C : Type 0} (c : ChangeSink C W) (root : Id) (files left : F) (sink filled : C) (outcome : Result ⊤ TakeFault) : Type 0 where
    pub unchanged : w.honest → f.stored left ≡ f.stored files
    pub told : w.honest → OnOk outcome (TellsAll (f.stored files) w.repository root (c.told sink) (c.told filled))
    pub exact : w.honest → OnOk outcome (TellsExactly w.repository root (f.stored files) (c.told sink) (c.told filled))
    pub told_so_far : w.honest → OnErr outcome (TellsAllSoFar (f.stored files) w.repository root (c.told sink) (c.told filled))
    pub truly : w.honest → OnErr outcome (TellsTruly w.repository root (f.stored files) (c.told sink) (c.told filled))

  -- .. of files that were closed on that tree; or of any, if a mount runs over them
  abbrev pub Tells : {C : Type 0} → ChangeSink C W → Bool → Id → F → F → C → C → Result ⊤ TakeFault → Type 0
  Tells c false root files left sink filled outcome = AsksClosed root files left outcome × TellsShown c root files left sink filled outcome
  Tells c true root files left sink filled outcome = IfErr outcome IsSnapshotFault × TellsShown c root files left sink filled outcome

  -- What was changed was told to a sink, which then wrote out what it held back, and the status says how that ended.
  pub record IsChangesRun {C : Type 0} (c : ChangeSink C W) (h : HoldsBack C) (running : Bool) (root : Id) (files : F) (sink : C) (status : ℕ) : Type 0 where
    pub left : F
    pub filled : C
    pub outcome : Result ⊤ TakeFault
    pub tells : Tells c running root files left sink filled outcome
    pub written : Result ⊤ Error
    pub done : C
    pub wrote : h.writes_out filled written done
    pub told : status ≡ taken_status outcome written

  -- A snapshot was taken, and the status says how that ended, and whether its id could be written.
  pub record IsSnapshotRun {K : Type 0} (k : Sink K W) (root : Id) (files : F) (sink : K) (status : ℕ) : Type 0 where
    pub left : F
    pub filled : K
    pub outcome : Result Id TakeFault
    pub taken : Takes k root files left sink filled outcome
    pub written : Result ⊤ Error
    pub told : status ≡ taken_status outcome written
