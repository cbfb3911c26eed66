use Rattle.std.proofs.Common.{sym, subst}
use Rattle.std.proofs.lemmas.Result.{on_ok_weaker}
use Rattle.eden_model.specs.Trees.{Path}
use Rattle.eden_ops.specs.Relocating.{CanRelocate, Relocates}
use Rattle.eden_ops.proofs.Relocation.{relocates_after, relocates_never}
use Rattle.eden_ops.proofs.Settled.{alike_stays, can_still, saved_on}
use Rattle.eden_ops.proofs.relocate.relocate.Goals as goal

-- ---- what was unsaved wasn't stored

pub returns-in-Err-clause-relocates : goal.returns-in-Err-clause-relocates
returns-in-Err-clause-relocates g c =
    let s = c.args.inodes.now in
    let t = c.settle_both.new.inodes in
    let stays = alike_stays s.root t.root c.in-Err.ensures.settles.alike in
    relocates_never g.W.World g.F.Files c.args.from.now c.args.to.now s t (λ q off other is. stays q is) (stays c.args.from.now) c.in-Err.fault c.in-Err.ensures.settles.readies

-- ---- it was

pub carry-requires : goal.carry-requires
carry-requires g c =
    let y = c.settle_both.new.inodes.root in
    let may = can_still c.args.inodes.now.root y c.settle_both.ensures.settles.alike c.args.from.now c.args.to.now c.requires.may in
    record {
      may = subst (λ (p : Path). CanRelocate y p c.as_slice-2.result.now) (sym c.as_slice.ensures) (subst (λ (q : Path). CanRelocate y c.args.from.now q) (sym c.as_slice-2.ensures) may);
    }

pub returns-clause-relocates : goal.returns-clause-relocates
returns-clause-relocates g c =
    let s = c.args.inodes.now in
    let t = c.settle_both.new.inodes in
    let u = c.carry.new.inodes in
    let from = c.args.from.now in
    let to = c.args.to.now in
    let stays = alike_stays s.root t.root c.settle_both.ensures.settles.alike in
    let P : Path → Type 0 = λ p. Relocates g.W.World g.F.Files p c.as_slice-2.result.now t u c.carry.result in
    let Q : Path → Type 0 = λ q. Relocates g.W.World g.F.Files from q t u c.carry.result in
    relocates_after g.W.World g.F.Files from to s t (λ q off other is. stays q is) (stays from) u c.carry.result c.in_default.ensures.settles.readies
    (subst Q c.as_slice-2.ensures (subst P c.as_slice.ensures c.carry.ensures))

pub returns-clause-saved : goal.returns-clause-saved
returns-clause-saved g c =
    let y = c.settle_both.new.inodes.root in
    let z = c.carry.new.inodes.root in
    let saved = c.in_default.ensures.saved in
    on_ok_weaker c.carry.result (λ marks. (saved_on c.args.from.now y z saved.0 marks, saved_on c.args.to.now y z saved.1 marks)) c.carry.ensures.marks
