use Rattle.std.proofs.Common.{◌≡◌, ℕ, Option, Some, None, sym, subst, ◌∙◌}
use Rattle.eden_model.specs.Failures.{Counted}
use Rattle.eden_overlay.specs.declared.files.FilesFault.{FilesFault}
use Rattle.eden_overlay.specs.declared.files.FilesFault.TheVariants as files
use Rattle.eden_inode.proofs.CallerLemmas.{places_unload}
use Rattle.eden_materialise.specs.Faults.{IsStoreFault, told_files_fault}
use Rattle.eden_ops.proofs.Going.{lets_go, goes_marks, none_left}
use Rattle.eden_ops.proofs.letting_go.let_go.Goals as goal

-- what was refused, as it is told: a failed device alone has the count rise
fault_told : (refused : Option FilesFault) (f : FilesFault) (old new : ℕ) → refused ≡ Some f → Counted (refused ≡ Some files.Device) old new → IsStoreFault old new (told_files_fault f)
fault_told refused files.Device old new is counted = counted.rose is
fault_told refused files.Memory old new is counted = counted.same (λ device. let both : Some files.Memory ≡ Some files.Device = sym is ∙ device in cc)

pub returns-in-None-clause-away : goal.returns-in-None-clause-away
returns-in-None-clause-away g c =
    λ y at. none_left c.args.inodes.now.clock c.unload.result.refused y c.in-None.is (c.unload.ensures.settled y at)

pub returns-in-None-clause-unfailed : goal.returns-in-None-clause-unfailed
returns-in-None-clause-unfailed g c =
    c.unload.ensures.refused.same (λ device. let both : None ≡ Some files.Device = sym c.in-None.is ∙ device in cc)

pub returns-in-Some-clause-fault : goal.returns-in-Some-clause-fault
returns-in-Some-clause-fault g c =
    let old = g.F.Files.failures c.args.inodes.now.files in
    let new = g.F.Files.failures c.unload.new.self.files in
    subst (IsStoreFault old new) (sym c.told.ensures)
    (fault_told c.unload.result.refused c.in-Some.fault old new c.in-Some.is c.unload.ensures.refused)

pub returns-in-None-clause-goes : goal.returns-in-None-clause-goes
returns-in-None-clause-goes g c =
    let e = c.unload.ensures in
    lets_go g.W.World.honest _ _ _ _ _ _ e.unloads.0 e.unloads.1.1 c.args.path.now e.elsewhere

pub returns-in-None-clause-marks : goal.returns-in-None-clause-marks
returns-in-None-clause-marks g c =
    goes_marks c.args.path.now c.args.inodes.now.root c.unload.new.self.root (returns-in-None-clause-goes g c)

pub returns-in-None-clause-places : goal.returns-in-None-clause-places
returns-in-None-clause-places g c =
    let e = c.unload.ensures in
    places_unload g.W.World.honest c.args.inodes.now c.unload.new.self _ _ _ _ c.unload.result.count e.unloads.0 e.unloads.1.0 e.unloads.1.1 e.changes

pub returns-in-Some-clause-goes : goal.returns-in-Some-clause-goes
returns-in-Some-clause-goes g c =
    let e = c.unload.ensures in
    lets_go g.W.World.honest _ _ _ _ _ _ e.unloads.0 e.unloads.1.1 c.args.path.now e.elsewhere

pub returns-in-Some-clause-marks : goal.returns-in-Some-clause-marks
returns-in-Some-clause-marks g c =
    goes_marks c.args.path.now c.args.inodes.now.root c.unload.new.self.root (returns-in-Some-clause-goes g c)

pub returns-in-Some-clause-places : goal.returns-in-Some-clause-places
returns-in-Some-clause-places g c =
    let e = c.unload.ensures in
    places_unload g.W.World.honest c.args.inodes.now c.unload.new.self _ _ _ _ c.unload.result.count e.unloads.0 e.unloads.1.0 e.unloads.1.1 e.changes
