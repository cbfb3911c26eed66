use Rattle.std.proofs.Common.{arith, ◌≡◌, ◌+◌, ◌-◌, ◌*◌, ◌∙◌, ap, sym, drop, length}
use Rattle.eden_overlay_journal.proofs.Alike.{alike, end_grows}
use Rattle.eden_overlay_journal.proofs.part.equal_last_blocks.Goals as goal

pub loop-block-preserved : goal.loop-block-preserved
loop-block-preserved c =
    let xs = c.args.a.now in
    let ys = c.args.b.now in
    let n = c.loop-block.block * 1024 in
    let e : (c.loop-block.block + 1) * 1024 ≡ n + 1024 = omega arith in
    let grown = end_grows (length xs - (n + 1024)) (length xs - n) (length ys - (n + 1024)) (length ys - n) xs ys (omega arith) (omega arith)
    c.loop-block.invariant (alike _ _ c.ne.result c.ne.ensures c.if-ne.false) in
    ap (λ k. drop (length xs - k) xs) e ∙ grown ∙ ap (λ k. drop (length ys - k) ys) (sym e)
