use Rattle.std.proofs.Common.{◌≡◌, ◌<◌, take, get_or, length, length-take-le, sym, ap, ◌∙◌, decimal, arith}
use Rattle.std.proofs.lemmas.List.{get_or-take}
use Rattle.std.proofs.lemmas.Fmt.{decimal-digits_value}
use Rattle.eden_wire.proofs.NumberLemmas.{own, one_more, digits_on}
use Rattle.eden_wire.proofs.plain.leading_number.Goals as goal
use Rattle.eden_wire.proofs.plain.leading_number.Goals.{else-len-gt1-via-then-len-gt1+else-text-eq48, else-len-gt1-via-else-len-gt1}

pub digits-preserved : goal.digits-preserved
digits-preserved c =
    let more = one_more c.args.text.now c.digits.len c.digits-test.true c.if-is_ascii_digit.ensures.cases in
    let value = c.digits.invariant.value in
    let range = c.if-is_ascii_digit.ensures.cases in
    let low = range.0 in
    record {
      within = omega (arith, c.digits-test.true);
      value = omega (arith, c.in_ok-checked_mul.ensures, c.from.ensures, c.in_ok-n.ensures);
      small = omega (arith, c.in_ok-n.ensures);
      digits = digits_on c.args.text.now c.digits.len c.digits-test.true c.digits.invariant.digits c.if-is_ascii_digit.ensures.cases;
    }

pub returns-clause-spelled : goal.returns-clause-spelled
returns-clause-spelled c =
    let size = length-take-le c.digits.len c.args.text.now c.digits.invariant.within in
    let some : 0 < c.digits.len = omega (arith, c.if-len-eq0.false) in
    let first : get_or (take c.digits.len c.args.text.now) 0 0 ≡ 48 → length (take c.digits.len c.args.text.now) ≡ 1 = λ zero. elim c.else-len-gt1.branch [
      | else-len-gt1-via-then-len-gt1+else-text-eq48 w ↦ omega (arith, sym (get_or-take c.digits.len c.args.text.now 0 0 some) ∙ zero, w.if-text-eq48.false)
      | else-len-gt1-via-else-len-gt1 w ↦ omega (arith, size, w.if-len-gt1.false)
    ] in
    sym (ap decimal c.digits.invariant.value
    ∙ decimal-digits_value own (take c.digits.len c.args.text.now) c.digits.invariant.digits (omega (arith, size)) first (omega (arith, c.digits.invariant.value, c.digits.invariant.small)))
