use Rattle.std.proofs.Common.{◌+◌, ◌*◌, min, ap, ◌∙◌, arith}
use Rattle.std.proofs.lemmas.Str.Parse.{digit_at}
use Rattle.eden_remote.proofs.NumberLemmas.{capped_more, digits_on}
use Rattle.eden_remote.proofs.number.read_length.Goals as goal

pub returns-then-not-is_ascii_digit : goal.returns-then-not-is_ascii_digit
returns-then-not-is_ascii_digit c = λ number.
    let range = digit_at c.args.digits.now c.digits.digit-index number.digits c.digits-test.true in
    let cases = c.if-not-is_ascii_digit.ensures.cases in
    omega arith

pub digits-preserved : goal.digits-preserved
digits-preserved c =
    let i = c.digits.digit-index in
    let range = c.if-not-is_ascii_digit.ensures.cases in
    record {
      some = c.digits.invariant.some;
      first = c.digits.invariant.first;
      value = c.min-length.ensures ∙ ap
          (λ d. min (c.digits.length * 10 + d) 1073741841) c.from.ensures ∙ capped_more c.args.digits.now i c.digits.length 1073741841 c.digits-test.true range c.digits.invariant.value;
      digits = digits_on c.args.digits.now i c.digits-test.true range c.digits.invariant.digits;
    }
