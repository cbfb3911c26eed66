use Rattle.std.proofs.Common.{◌≡◌, sym, subst}
use Rattle.eden_model.specs.declared.request.Request.{Request}
use Rattle.eden_model.specs.Requests.{paths_of}
use Rattle.eden_ops.specs.Attempts.{Attempts}
use Rattle.eden_ops.specs.Keeping.{Keeps}
use Rattle.eden_ops.specs.Looks.{IsBeyondLimits}
use Rattle.eden_ops.specs.Stamps.{AreWalked}
use Rattle.eden_inode.specs.Trails.{Leads}
use Rattle.eden_ops.specs.Trails.{Counts, LeadsToNeed, first_of}
use Rattle.eden_ops.proofs.looks.look.Goals as goal

pub returns-in-Read-clause-attempts : goal.returns-in-Read-clause-attempts
returns-in-Read-clause-attempts g c =
    subst (λ (q : Request). Attempts g.W.World g.F.Files q c.args.inodes.now c.read.new.inodes c.args.cache.now c.read.new.cache c.read.result) (sym c.in-Read.is) c.read.ensures.attempts

pub returns-in-Kind-clause-keeps : goal.returns-in-Kind-clause-keeps
returns-in-Kind-clause-keeps g c = subst (λ (q : Request). Keeps g.W.World g.F.Files (paths_of q) c.args.inodes.now c.kind.new.inodes) (sym c.in-Kind.is) c.kind.ensures.keeps

pub returns-in-Stat-clause-keeps : goal.returns-in-Stat-clause-keeps
returns-in-Stat-clause-keeps g c = subst (λ (q : Request). Keeps g.W.World g.F.Files (paths_of q) c.args.inodes.now c.stat.new.inodes) (sym c.in-Stat.is) c.stat.ensures.keeps

pub returns-in-Read-clause-keeps : goal.returns-in-Read-clause-keeps
returns-in-Read-clause-keeps g c = subst (λ (q : Request). Keeps g.W.World g.F.Files (paths_of q) c.args.inodes.now c.read.new.inodes) (sym c.in-Read.is) c.read.ensures.keeps

pub returns-in-ReadLink-clause-keeps : goal.returns-in-ReadLink-clause-keeps
returns-in-ReadLink-clause-keeps g c = subst (λ (q : Request). Keeps g.W.World g.F.Files (paths_of q) c.args.inodes.now c.readlink.new.inodes) (sym c.in-ReadLink.is) c.readlink.ensures.keeps

pub returns-in-List-clause-keeps : goal.returns-in-List-clause-keeps
returns-in-List-clause-keeps g c = subst (λ (q : Request). Keeps g.W.World g.F.Files (paths_of q) c.args.inodes.now c.list.new.inodes) (sym c.in-List.is) c.list.ensures.keeps

pub returns-in-Read-clause-refused : goal.returns-in-Read-clause-refused
returns-in-Read-clause-refused g c = subst (λ (q : Request). IsBeyondLimits q → c.read.new.inodes ≡ c.args.inodes.now) (sym c.in-Read.is) c.read.ensures.refused

pub returns-in-List-clause-refused : goal.returns-in-List-clause-refused
returns-in-List-clause-refused g c = subst (λ (q : Request). IsBeyondLimits q → c.list.new.inodes ≡ c.args.inodes.now) (sym c.in-List.is) c.list.ensures.refused

pub returns-in-Kind-clause-walked : goal.returns-in-Kind-clause-walked
returns-in-Kind-clause-walked g c within = subst (λ (q : Request). AreWalked (paths_of q) c.kind.new.inodes.clock c.kind.new.inodes.root) (sym c.in-Kind.is) (c.kind.ensures.walked, tt)

pub returns-in-Stat-clause-walked : goal.returns-in-Stat-clause-walked
returns-in-Stat-clause-walked g c within = subst (λ (q : Request). AreWalked (paths_of q) c.stat.new.inodes.clock c.stat.new.inodes.root) (sym c.in-Stat.is) (c.stat.ensures.walked, tt)

pub returns-in-ReadLink-clause-walked : goal.returns-in-ReadLink-clause-walked
returns-in-ReadLink-clause-walked g c within = subst (λ (q : Request). AreWalked (paths_of q) c.readlink.new.inodes.clock c.readlink.new.inodes.root) (sym c.in-ReadLink.is)
    (c.readlink.ensures.walked, tt)

pub returns-in-Read-clause-walked : goal.returns-in-Read-clause-walked
returns-in-Read-clause-walked g c =
    subst (λ (q : Request). ¬ IsBeyondLimits q → AreWalked (paths_of q) c.read.new.inodes.clock c.read.new.inodes.root) (sym c.in-Read.is) (λ within. (c.read.ensures.walked within, tt))

pub returns-in-List-clause-walked : goal.returns-in-List-clause-walked
returns-in-List-clause-walked g c =
    subst (λ (q : Request). ¬ IsBeyondLimits q → AreWalked (paths_of q) c.list.new.inodes.clock c.list.new.inodes.root) (sym c.in-List.is) (λ within. (c.list.ensures.walked within, tt))

pub returns-in-Kind-clause-counts : goal.returns-in-Kind-clause-counts
returns-in-Kind-clause-counts g c = subst (λ (q : Request). Counts (first_of (paths_of q)) c.args.trail.now c.kind.new.trail) (sym c.in-Kind.is) c.kind.ensures.counts

pub returns-in-Kind-clause-leads : goal.returns-in-Kind-clause-leads
returns-in-Kind-clause-leads g c = subst (λ (q : Request). LeadsToNeed (first_of (paths_of q)) c.kind.new.trail.positions c.kind.new.inodes.root c.kind.result) (sym c.in-Kind.is) c.kind.ensures.leads

pub kind-requires : goal.kind-requires
kind-requires g c = record { leads = subst (λ (q : Request). Leads (first_of (paths_of q)) c.args.trail.now.positions c.args.inodes.now.root) c.in-Kind.is c.requires.leads }

pub returns-in-Stat-clause-counts : goal.returns-in-Stat-clause-counts
returns-in-Stat-clause-counts g c = subst (λ (q : Request). Counts (first_of (paths_of q)) c.args.trail.now c.stat.new.trail) (sym c.in-Stat.is) c.stat.ensures.counts

pub returns-in-Stat-clause-leads : goal.returns-in-Stat-clause-leads
returns-in-Stat-clause-leads g c = subst (λ (q : Request). LeadsToNeed (first_of (paths_of q)) c.stat.new.trail.positions c.stat.new.inodes.root c.stat.result) (sym c.in-Stat.is) c.stat.ensures.leads

pub stat-requires : goal.stat-requires
stat-requires g c = record { leads = subst (λ (q : Request). Leads (first_of (paths_of q)) c.args.trail.now.positions c.args.inodes.now.root) c.in-Stat.is c.requires.leads }

pub returns-in-Read-clause-counts : goal.returns-in-Read-clause-counts
returns-in-Read-clause-counts g c = subst (λ (q : Request). Counts (first_of (paths_of q)) c.args.trail.now c.read.new.trail) (sym c.in-Read.is) c.read.ensures.counts

pub returns-in-Read-clause-leads : goal.returns-in-Read-clause-leads
returns-in-Read-clause-leads g c = subst (λ (q : Request). LeadsToNeed (first_of (paths_of q)) c.read.new.trail.positions c.read.new.inodes.root c.read.result) (sym c.in-Read.is) c.read.ensures.leads

pub read-requires : goal.read-requires
read-requires g c = record { leads = subst (λ (q : Request). Leads (first_of (paths_of q)) c.args.trail.now.positions c.args.inodes.now.root) c.in-Read.is c.requires.leads }

pub returns-in-ReadLink-clause-counts : goal.returns-in-ReadLink-clause-counts
returns-in-ReadLink-clause-counts g c = subst (λ (q : Request). Counts (first_of (paths_of q)) c.args.trail.now c.readlink.new.trail) (sym c.in-ReadLink.is) c.readlink.ensures.counts

pub returns-in-ReadLink-clause-leads : goal.returns-in-ReadLink-clause-leads
returns-in-ReadLink-clause-leads g c =
    subst (λ (q : Request). LeadsToNeed (first_of (paths_of q)) c.readlink.new.trail.positions c.readlink.new.inodes.root c.readlink.result) (sym c.in-ReadLink.is) c.readlink.ensures.leads

pub readlink-requires : goal.readlink-requires
readlink-requires g c = record { leads = subst (λ (q : Request). Leads (first_of (paths_of q)) c.args.trail.now.positions c.args.inodes.now.root) c.in-ReadLink.is c.requires.leads }

pub returns-in-List-clause-counts : goal.returns-in-List-clause-counts
returns-in-List-clause-counts g c = subst (λ (q : Request). Counts (first_of (paths_of q)) c.args.trail.now c.list.new.trail) (sym c.in-List.is) c.list.ensures.counts

pub returns-in-List-clause-leads : goal.returns-in-List-clause-leads
returns-in-List-clause-leads g c = subst (λ (q : Request). LeadsToNeed (first_of (paths_of q)) c.list.new.trail.positions c.list.new.inodes.root c.list.result) (sym c.in-List.is) c.list.ensures.leads

pub list-requires : goal.list-requires
list-requires g c = record { leads = subst (λ (q : Request). Leads (first_of (paths_of q)) c.args.trail.now.positions c.args.inodes.now.root) c.in-List.is c.requires.leads }
