use Rattle.std.proofs.Common.{arith, ◌≡◌, ◌+◌, ◌*◌, ◌∙◌, ap, sym, take}
use Rattle.eden_overlay_journal.proofs.Alike.{alike, front_grows}
use Rattle.eden_overlay_journal.proofs.part.equal_blocks.Goals as goal

pub loop-block-preserved : goal.loop-block-preserved
loop-block-preserved c =
    let xs = c.args.a.now in
    let ys = c.args.b.now in
    let n = c.loop-block.block * 1024 in
    let e : (c.loop-block.block + 1) * 1024 ≡ n + 1024 = omega arith in
    let grown = front_grows n (n + 1024) xs ys (omega arith) c.loop-block.invariant (alike _ _ c.ne.result c.ne.ensures c.if-ne.false) in
    ap (λ k. take k xs) e ∙ grown ∙ ap (λ k. take k ys) (sym e)
