use Rattle.std.proofs.Common.{◌≡◌, length, sym, ◌∙◌, arith}
use Rattle.std.proofs.lemmas.Bool.Decides.{Decides-eqb}
use Rattle.eden_pack_format.proofs.DeltaLemmas.{made_more, made_end, left_more, left_end, fits}
use Rattle.eden_pack_format.proofs.delta.follow.Goals as goal

pub loop-rest-preserved : goal.loop-rest-preserved
loop-rest-preserved c =
    let i = c.loop-rest.invariant in
    let base = c.args.base.now in
    let done = c.loop-rest.target.items in
    let rest = c.loop-rest.rest.now in
    let piece = c.in-Some.piece.now in
    let next = c.in-Some.next.now in
    let new = c.extend_from_slice.new.self.items in
    let grown = c.in_ok-extend_from_slice.ensures.items in
    record {
      size = fits done piece new c.args.size grown i.size (omega (arith, c.if-piece-size.false, c.len.ensures));
      made = made_more base c.args.instructions.now done rest piece next new i.made c.in-Some.ensures.read grown;
      left = λ t makes. left_more base rest done piece next new t c.in-Some.ensures.read grown (i.left t makes);
    }

pub returns-then-len-size-clause-made : goal.returns-then-len-size-clause-made
returns-then-len-size-clause-made c =
    let rest = c.loop-rest.rest.now in
    let over : length rest ≡ 0 = (Decides-eqb (length rest) 0).0 (sym c.is_empty.ensures ∙ c.loop-rest-test.false) in
    made_end c.args.base.now c.args.instructions.now c.loop-rest.target.items rest c.loop-rest.invariant.made over

pub returns-else-len-size-clause-bad : goal.returns-else-len-size-clause-bad
returns-else-len-size-clause-bad c = λ same t makes e.
    let rest = c.loop-rest.rest.now in
    let over : length rest ≡ 0 = (Decides-eqb (length rest) 0).0 (sym c.is_empty.ensures ∙ c.loop-rest-test.false) in
    let all = left_end c.args.base.now rest c.loop-rest.target.items t over (c.loop-rest.invariant.left t makes) in
    c.if-len-size.false (omega (arith, c.len-2.ensures, all, e))
