use Rattle.std.proofs.Common.{length, sym, refl, ◌∙◌}
use Rattle.std.proofs.lemmas.Bool.{eqb-false}
use Rattle.eden_model.specs.declared.errno.Errno.TheVariants.{ENAMETOOLONG, ENOENT}
use Rattle.eden_model.specs.declared.reply.Reply.TheVariants as say
use Rattle.eden_model.specs.declared.request.Request.TheVariants as ask
use Rattle.eden_ops.specs.Changes.{link}
use Rattle.eden_ops.specs.Keeping.{same}
use Rattle.eden_ops.proofs.Answering.{answered}
use Rattle.eden_ops.proofs.Finding.{finds_same}
use Rattle.eden_ops.proofs.Leaving.{leaves_kept}
use Rattle.eden_ops.proofs.Looking.{some_at_most}
use Rattle.eden_ops.proofs.Stamped.{stamps_refused}
use Rattle.eden_ops.proofs.Renumbering.{edits_kept}
use Rattle.eden_ops.proofs.requests.symlink.symlink.Goals as goal

pub add-requires : goal.add-requires
add-requires g c =
    record {
      asked = (ask.Symlink c.args.path.now c.args.target.now, link c.args.target (eqb-false (length c.args.target.now) 0 (sym c.if-is_empty.ensures)) c.if-target-gt-MAX_TARGET.false);
      leads = c.requires.leads;
    }

pub returns-clause-attempts : goal.returns-clause-attempts
returns-clause-attempts g c = c.add.ensures.attempts (ask.Symlink c.args.path.now c.args.target.now)
    (link c.args.target (eqb-false (length c.args.target.now) 0 (sym c.if-is_empty.ensures)) c.if-target-gt-MAX_TARGET.false)

pub returns-clause-leaves : goal.returns-clause-leaves
returns-clause-leaves g c = c.add.ensures.leaves (ask.Symlink c.args.path.now c.args.target.now)
    (link c.args.target (eqb-false (length c.args.target.now) 0 (sym c.if-is_empty.ensures)) c.if-target-gt-MAX_TARGET.false)

pub returns-then-is_empty-clause-leaves : goal.returns-then-is_empty-clause-leaves
returns-then-is_empty-clause-leaves g c = leaves_kept g.W.World g.F.Files (ask.Symlink c.args.path.now c.args.target.now) c.args.inodes.now c.args.inodes.now same _

pub returns-then-target-gt-MAX_TARGET-clause-leaves : goal.returns-then-target-gt-MAX_TARGET-clause-leaves
returns-then-target-gt-MAX_TARGET-clause-leaves g c = leaves_kept g.W.World g.F.Files (ask.Symlink c.args.path.now c.args.target.now) c.args.inodes.now c.args.inodes.now same _

pub returns-then-is_empty-clause-attempts : goal.returns-then-is_empty-clause-attempts
returns-then-is_empty-clause-attempts g c =
    let q = ask.Symlink c.args.path.now c.args.target.now in
    let s = c.args.inodes.now in
    answered g.W.World g.F.Files q s s c.args.cache.now c.args.cache.now (λ h. refl) (finds_same c.args.cache.now) (say.Err ENOENT) refl (λ G. refl)
    (λ h. rw (sym c.is_empty.ensures ∙ c.if-is_empty.true) refl)

pub returns-clause-refused : goal.returns-clause-refused
returns-clause-refused g c beyond = absurd (some_at_most (length c.args.target.now) 4095 (eqb-false (length c.args.target.now) 0 (sym c.if-is_empty.ensures)) c.if-target-gt-MAX_TARGET.false beyond)

pub returns-clause-stamps : goal.returns-clause-stamps
returns-clause-stamps g c = c.add.ensures.stamps (ask.Symlink c.args.path.now c.args.target.now)
    (link c.args.target (eqb-false (length c.args.target.now) 0 (sym c.if-is_empty.ensures)) c.if-target-gt-MAX_TARGET.false)

pub returns-then-is_empty-clause-stamps : goal.returns-then-is_empty-clause-stamps
returns-then-is_empty-clause-stamps g c = stamps_refused g.W.World g.F.Files (ask.Symlink c.args.path.now c.args.target.now) c.args.inodes.now c.args.inodes.now same _ ENOENT refl

pub returns-then-target-gt-MAX_TARGET-clause-stamps : goal.returns-then-target-gt-MAX_TARGET-clause-stamps
returns-then-target-gt-MAX_TARGET-clause-stamps g c = stamps_refused g.W.World g.F.Files (ask.Symlink c.args.path.now c.args.target.now) c.args.inodes.now c.args.inodes.now same _ ENAMETOOLONG refl

pub returns-clause-edits : goal.returns-clause-edits
returns-clause-edits g c = c.add.ensures.edits (ask.Symlink c.args.path.now c.args.target.now)
    (link c.args.target (eqb-false (length c.args.target.now) 0 (sym c.if-is_empty.ensures)) c.if-target-gt-MAX_TARGET.false)

pub returns-then-is_empty-clause-edits : goal.returns-then-is_empty-clause-edits
returns-then-is_empty-clause-edits g c = edits_kept g.W.World g.F.Files (ask.Symlink c.args.path.now c.args.target.now) c.args.inodes.now c.args.inodes.now same _ (λ M. refl)

pub returns-then-target-gt-MAX_TARGET-clause-edits : goal.returns-then-target-gt-MAX_TARGET-clause-edits
returns-then-target-gt-MAX_TARGET-clause-edits g c = edits_kept g.W.World g.F.Files (ask.Symlink c.args.path.now c.args.target.now) c.args.inodes.now c.args.inodes.now same _ (λ M. refl)
