use Rattle.std.proofs.Common.{[], ◌∷◌, sym, subst}
use Rattle.eden_model.specs.Trees.{Path}
use Rattle.eden_ops.specs.Attempts.{Meets}
use Rattle.eden_ops.specs.Keeping.{Keeps}
use Rattle.eden_ops.specs.Stamps.{IsWalked}
use Rattle.eden_ops.specs.Trails.{Counts}
use Rattle.eden_inode.specs.Trails.{Leads}
use Rattle.eden_ops.proofs.Reached.{met_shown}
use Rattle.eden_ops.proofs.Seeing.{kept_dirs}
use Rattle.eden_ops.proofs.meet.meet.Goals as goal

pub returns-clause-meets : goal.returns-clause-meets
returns-clause-meets g c = subst (λ (p : Path). Meets g.W.World g.F.Files p c.args.inodes.now c.pass-met.new.inodes c.pass-met.new.cache c.pass-met.result) c.as_slice.ensures c.pass-met.ensures.meets

pub returns-clause-keeps : goal.returns-clause-keeps
returns-clause-keeps g c = subst (λ (p : Path). Keeps g.W.World g.F.Files (p ∷ []) c.args.inodes.now c.pass-met.new.inodes) c.as_slice.ensures c.pass-met.ensures.keeps

pub returns-clause-walked : goal.returns-clause-walked
returns-clause-walked g c = subst (λ (p : Path). IsWalked p c.pass-met.new.inodes.clock c.pass-met.new.inodes.root) c.as_slice.ensures c.pass-met.ensures.walked

pub returns-clause-same : goal.returns-clause-same
returns-clause-same g c h = c.keeps_laws.ensures.shown _ c.args.inodes.now c.pass-met.new.inodes c.pass-met.ensures.keeps h

pub returns-clause-shown : goal.returns-clause-shown
returns-clause-shown g c h =
    let s = c.args.inodes.now in
    let t = c.pass-met.new.inodes in
    met_shown g.W.World g.F.Files c.args.path.now s t c.pass-met.new.cache c.shown_laws.ensures.below c.shown_laws.ensures.absent
    (kept_dirs g.W.World.repository (g.F.Files.stored t.files) t.root t.next (c.holds.ensures.kept h))
    (c.keeps_laws.ensures.shown _ s t c.pass-met.ensures.keeps h) c.pass-met.result
    (subst (λ (p : Path). Meets g.W.World g.F.Files p s t c.pass-met.new.cache c.pass-met.result) c.as_slice.ensures c.pass-met.ensures.meets)

pub returns-clause-leads : goal.returns-clause-leads
returns-clause-leads g c = subst (λ (p : Path). Leads p c.pass-met.new.trail.positions c.pass-met.new.inodes.root) c.as_slice.ensures c.pass-met.ensures.leads

pub returns-clause-counts : goal.returns-clause-counts
returns-clause-counts g c = subst (λ (p : Path). Counts p c.args.trail.now c.pass-met.new.trail) c.as_slice.ensures c.pass-met.ensures.counts

pub pass-met-requires : goal.pass-met-requires
pass-met-requires g c = record { leads = subst (λ (p : Path). Leads p c.args.trail.now.positions c.args.inodes.now.root) (sym c.as_slice.ensures) c.requires.leads }
