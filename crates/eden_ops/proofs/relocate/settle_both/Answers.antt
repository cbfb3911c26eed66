use Rattle.std.proofs.Common.{subst}
use Rattle.std.proofs.lemmas.Result.{on_ok_weaker}
use Rattle.eden_model.specs.Trees.{Path}
use Rattle.eden_coupling.specs.Saving.{IsSavedAbove}
use Rattle.eden_ops.proofs.Settled.{settles_on, saved_on}
use Rattle.eden_ops.proofs.relocate.settle_both.Goals as goal

pub returns-clause-settles : goal.returns-clause-settles
returns-clause-settles g c =
    settles_on g.W.World g.F.Files c.args.inodes.now c.settle.new.inodes c.settle-2.new.inodes c.settle-2.result c.in_default.ensures.settles c.settle-2.ensures.settles

pub returns-clause-saved : goal.returns-clause-saved
returns-clause-saved g c =
    let v = c.settle.new.inodes in
    let u = c.settle-2.new.inodes in
    let one = subst (λ (q : Path). IsSavedAbove q v.root) c.as_slice.ensures c.in_default.ensures.saved in
    on_ok_weaker c.settle-2.result
    (λ two. (saved_on c.args.from.now v.root u.root one c.settle-2.ensures.settles.readies.marks, subst (λ (q : Path). IsSavedAbove q u.root) c.as_slice-2.ensures two))
    c.settle-2.ensures.saved
