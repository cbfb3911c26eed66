use Rattle.std.proofs.Common.{◌≡◌, ◌<◌, ◌⊎◌, ℕ, List, length, sym, subst}
use Rattle.eden_model.specs.declared.request.Request.{Request}
use Rattle.eden_model.specs.Limits.{most_data, most_file, most_target}
use Rattle.eden_model.specs.Requests.{paths_of}
use Rattle.eden_ops.specs.Already.{IsSoAlready}
use Rattle.eden_ops.specs.Keeping.{Keeps}
use Rattle.eden_ops.specs.Looks.{IsBeyondLimits}
use Rattle.eden_inode.specs.Trails.{Leads}
use Rattle.eden_ops.specs.Trails.{Counts, LeadsToNeed, first_of}
use Rattle.eden_ops.proofs.attempting.change.Goals as goal

pub returns-in-SetExec-clause-already : goal.returns-in-SetExec-clause-already
returns-in-SetExec-clause-already g c =
    subst (λ (q : Request). IsSoAlready g.W.World g.F.Files q c.args.inodes.now → Keeps g.W.World g.F.Files (paths_of q) c.args.inodes.now c.set_exec.new.inodes) (sym c.in-SetExec.is)
    c.set_exec.ensures.already

pub returns-in-Write-clause-refused : goal.returns-in-Write-clause-refused
returns-in-Write-clause-refused g c = subst (λ (q : Request). IsBeyondLimits q → c.write.new.inodes ≡ c.args.inodes.now) (sym c.in-Write.is)
    (subst (λ (bytes : List ℕ). most_data < length bytes → c.write.new.inodes ≡ c.args.inodes.now) c.as_slice.ensures c.write.ensures.refused)

pub returns-in-Symlink-clause-refused : goal.returns-in-Symlink-clause-refused
returns-in-Symlink-clause-refused g c = subst (λ (q : Request). IsBeyondLimits q → c.symlink.new.inodes ≡ c.args.inodes.now) (sym c.in-Symlink.is)
    (subst (λ (target : List ℕ). (length target ≡ 0) ⊎ (most_target < length target) → c.symlink.new.inodes ≡ c.args.inodes.now) c.as_slice-in-Symlink.ensures c.symlink.ensures.refused)

pub returns-in-Write-clause-counts : goal.returns-in-Write-clause-counts
returns-in-Write-clause-counts g c = subst (λ (q : Request). Counts (first_of (paths_of q)) c.args.trail.now c.write.new.trail) (sym c.in-Write.is) c.write.ensures.counts

pub returns-in-Write-clause-leads : goal.returns-in-Write-clause-leads
returns-in-Write-clause-leads g c =
    subst (λ (q : Request). LeadsToNeed (first_of (paths_of q)) c.write.new.trail.positions c.write.new.inodes.root c.write.result) (sym c.in-Write.is) c.write.ensures.leads

pub write-requires : goal.write-requires
write-requires g c = record { leads = subst (λ (q : Request). Leads (first_of (paths_of q)) c.args.trail.now.positions c.args.inodes.now.root) c.in-Write.is c.requires.leads }

pub returns-in-Patch-clause-refused : goal.returns-in-Patch-clause-refused
returns-in-Patch-clause-refused g c = subst (λ (q : Request). IsBeyondLimits q → c.patch.new.inodes ≡ c.args.inodes.now) (sym c.in-Patch.is)
    (subst (λ (bytes : List ℕ). most_file < length bytes → c.patch.new.inodes ≡ c.args.inodes.now) c.as_slice-in-Patch.ensures c.patch.ensures.refused)

pub returns-in-Patch-clause-counts : goal.returns-in-Patch-clause-counts
returns-in-Patch-clause-counts g c = subst (λ (q : Request). Counts (first_of (paths_of q)) c.args.trail.now c.patch.new.trail) (sym c.in-Patch.is) c.patch.ensures.counts

pub returns-in-Patch-clause-leads : goal.returns-in-Patch-clause-leads
returns-in-Patch-clause-leads g c =
    subst (λ (q : Request). LeadsToNeed (first_of (paths_of q)) c.patch.new.trail.positions c.patch.new.inodes.root c.patch.result) (sym c.in-Patch.is) c.patch.ensures.leads

pub patch-requires : goal.patch-requires
patch-requires g c = record { leads = subst (λ (q : Request). Leads (first_of (paths_of q)) c.args.trail.now.positions c.args.inodes.now.root) c.in-Patch.is c.requires.leads }

pub returns-in-Truncate-clause-counts : goal.returns-in-Truncate-clause-counts
returns-in-Truncate-clause-counts g c = subst (λ (q : Request). Counts (first_of (paths_of q)) c.args.trail.now c.truncate.new.trail) (sym c.in-Truncate.is) c.truncate.ensures.counts

pub returns-in-Truncate-clause-leads : goal.returns-in-Truncate-clause-leads
returns-in-Truncate-clause-leads g c =
    subst (λ (q : Request). LeadsToNeed (first_of (paths_of q)) c.truncate.new.trail.positions c.truncate.new.inodes.root c.truncate.result) (sym c.in-Truncate.is) c.truncate.ensures.leads

pub truncate-requires : goal.truncate-requires
truncate-requires g c = record { leads = subst (λ (q : Request). Leads (first_of (paths_of q)) c.args.trail.now.positions c.args.inodes.now.root) c.in-Truncate.is c.requires.leads }

pub returns-in-Create-clause-counts : goal.returns-in-Create-clause-counts
returns-in-Create-clause-counts g c = subst (λ (q : Request). Counts (first_of (paths_of q)) c.args.trail.now c.create.new.trail) (sym c.in-Create.is) c.create.ensures.counts

pub returns-in-Create-clause-leads : goal.returns-in-Create-clause-leads
returns-in-Create-clause-leads g c =
    subst (λ (q : Request). LeadsToNeed (first_of (paths_of q)) c.create.new.trail.positions c.create.new.inodes.root c.create.result) (sym c.in-Create.is) c.create.ensures.leads

pub create-requires : goal.create-requires
create-requires g c = record { leads = subst (λ (q : Request). Leads (first_of (paths_of q)) c.args.trail.now.positions c.args.inodes.now.root) c.in-Create.is c.requires.leads }

pub returns-in-SetExec-clause-counts : goal.returns-in-SetExec-clause-counts
returns-in-SetExec-clause-counts g c = subst (λ (q : Request). Counts (first_of (paths_of q)) c.args.trail.now c.set_exec.new.trail) (sym c.in-SetExec.is) c.set_exec.ensures.counts

pub returns-in-SetExec-clause-leads : goal.returns-in-SetExec-clause-leads
returns-in-SetExec-clause-leads g c =
    subst (λ (q : Request). LeadsToNeed (first_of (paths_of q)) c.set_exec.new.trail.positions c.set_exec.new.inodes.root c.set_exec.result) (sym c.in-SetExec.is) c.set_exec.ensures.leads

pub set_exec-requires : goal.set_exec-requires
set_exec-requires g c = record { leads = subst (λ (q : Request). Leads (first_of (paths_of q)) c.args.trail.now.positions c.args.inodes.now.root) c.in-SetExec.is c.requires.leads }

pub returns-in-Mkdir-clause-counts : goal.returns-in-Mkdir-clause-counts
returns-in-Mkdir-clause-counts g c = subst (λ (q : Request). Counts (first_of (paths_of q)) c.args.trail.now c.mkdir.new.trail) (sym c.in-Mkdir.is) c.mkdir.ensures.counts

pub returns-in-Mkdir-clause-leads : goal.returns-in-Mkdir-clause-leads
returns-in-Mkdir-clause-leads g c =
    subst (λ (q : Request). LeadsToNeed (first_of (paths_of q)) c.mkdir.new.trail.positions c.mkdir.new.inodes.root c.mkdir.result) (sym c.in-Mkdir.is) c.mkdir.ensures.leads

pub mkdir-requires : goal.mkdir-requires
mkdir-requires g c = record { leads = subst (λ (q : Request). Leads (first_of (paths_of q)) c.args.trail.now.positions c.args.inodes.now.root) c.in-Mkdir.is c.requires.leads }

pub returns-in-Symlink-clause-counts : goal.returns-in-Symlink-clause-counts
returns-in-Symlink-clause-counts g c = subst (λ (q : Request). Counts (first_of (paths_of q)) c.args.trail.now c.symlink.new.trail) (sym c.in-Symlink.is) c.symlink.ensures.counts

pub returns-in-Symlink-clause-leads : goal.returns-in-Symlink-clause-leads
returns-in-Symlink-clause-leads g c =
    subst (λ (q : Request). LeadsToNeed (first_of (paths_of q)) c.symlink.new.trail.positions c.symlink.new.inodes.root c.symlink.result) (sym c.in-Symlink.is) c.symlink.ensures.leads

pub symlink-requires : goal.symlink-requires
symlink-requires g c = record { leads = subst (λ (q : Request). Leads (first_of (paths_of q)) c.args.trail.now.positions c.args.inodes.now.root) c.in-Symlink.is c.requires.leads }

pub returns-in-Unlink-clause-counts : goal.returns-in-Unlink-clause-counts
returns-in-Unlink-clause-counts g c = subst (λ (q : Request). Counts (first_of (paths_of q)) c.args.trail.now c.unlink.new.trail) (sym c.in-Unlink.is) c.unlink.ensures.counts

pub returns-in-Unlink-clause-leads : goal.returns-in-Unlink-clause-leads
returns-in-Unlink-clause-leads g c =
    subst (λ (q : Request). LeadsToNeed (first_of (paths_of q)) c.unlink.new.trail.positions c.unlink.new.inodes.root c.unlink.result) (sym c.in-Unlink.is) c.unlink.ensures.leads

pub unlink-requires : goal.unlink-requires
unlink-requires g c = record { leads = subst (λ (q : Request). Leads (first_of (paths_of q)) c.args.trail.now.positions c.args.inodes.now.root) c.in-Unlink.is c.requires.leads }

pub returns-in-Rmdir-clause-counts : goal.returns-in-Rmdir-clause-counts
returns-in-Rmdir-clause-counts g c = subst (λ (q : Request). Counts (first_of (paths_of q)) c.args.trail.now c.rmdir.new.trail) (sym c.in-Rmdir.is) c.rmdir.ensures.counts

pub returns-in-Rmdir-clause-leads : goal.returns-in-Rmdir-clause-leads
returns-in-Rmdir-clause-leads g c =
    subst (λ (q : Request). LeadsToNeed (first_of (paths_of q)) c.rmdir.new.trail.positions c.rmdir.new.inodes.root c.rmdir.result) (sym c.in-Rmdir.is) c.rmdir.ensures.leads

pub rmdir-requires : goal.rmdir-requires
rmdir-requires g c = record { leads = subst (λ (q : Request). Leads (first_of (paths_of q)) c.args.trail.now.positions c.args.inodes.now.root) c.in-Rmdir.is c.requires.leads }
