use Rattle.std.proofs.Common.{length, refl}
use Rattle.eden_model.specs.declared.errno.Errno.TheVariants.{EINVAL}
use Rattle.eden_model.specs.declared.request.Request.TheVariants as ask
use Rattle.eden_ops.specs.Keeping.{same}
use Rattle.eden_ops.proofs.Leaving.{leaves_kept}
use Rattle.eden_ops.proofs.Looking.{not_more}
use Rattle.eden_ops.proofs.Patches.{attempts_patched, leaves_patched, stamps_patched, edits_patched}
use Rattle.eden_ops.proofs.Renumbering.{edits_kept}
use Rattle.eden_ops.proofs.Stamped.{stamps_refused}
use Rattle.eden_ops.proofs.requests.write.write.Goals as goal

pub returns-then-count-gt-MAX_DATA-clause-leaves : goal.returns-then-count-gt-MAX_DATA-clause-leaves
returns-then-count-gt-MAX_DATA-clause-leaves g c = leaves_kept g.W.World g.F.Files (ask.Write c.args.path.now c.args.offset c.args.bytes.now) c.args.inodes.now c.args.inodes.now same _

pub returns-then-count-gt-MAX_DATA-clause-stamps : goal.returns-then-count-gt-MAX_DATA-clause-stamps
returns-then-count-gt-MAX_DATA-clause-stamps g c = stamps_refused g.W.World g.F.Files (ask.Write c.args.path.now c.args.offset c.args.bytes.now) c.args.inodes.now c.args.inodes.now same _ EINVAL refl

pub returns-then-count-gt-MAX_DATA-clause-edits : goal.returns-then-count-gt-MAX_DATA-clause-edits
returns-then-count-gt-MAX_DATA-clause-edits g c =
    edits_kept g.W.World g.F.Files (ask.Write c.args.path.now c.args.offset c.args.bytes.now) c.args.inodes.now c.args.inodes.now same _ (λ M. refl)

pub returns-clause-attempts : goal.returns-clause-attempts
returns-clause-attempts g c =
    attempts_patched c.args.path.now c.args.offset c.args.bytes.now g.W.World g.F.Files c.args.inodes.now c.patch.new.inodes c.if-count-gt-MAX_DATA.false
    c.args.cache.now c.patch.new.cache c.patch.result c.patch.ensures.attempts

pub returns-clause-leaves : goal.returns-clause-leaves
returns-clause-leaves g c =
    leaves_patched c.args.path.now c.args.offset c.args.bytes.now g.W.World g.F.Files c.args.inodes.now c.patch.new.inodes c.patch.result c.patch.ensures.leaves

pub returns-clause-stamps : goal.returns-clause-stamps
returns-clause-stamps g c =
    stamps_patched c.args.path.now c.args.offset c.args.bytes.now c.args.inodes.now.clock c.args.inodes.now.root c.patch.new.inodes.root c.patch.result c.patch.ensures.stamps

pub returns-clause-refused : goal.returns-clause-refused
returns-clause-refused g c beyond = absurd (not_more (length c.args.bytes.now) 65536 c.if-count-gt-MAX_DATA.false beyond)

pub returns-clause-edits : goal.returns-clause-edits
returns-clause-edits g c =
    edits_patched c.args.path.now c.args.offset c.args.bytes.now g.W.World g.F.Files c.args.inodes.now c.patch.new.inodes c.patch.result c.patch.ensures.edits
