use Rattle.std.proofs.Common.{◌≡◌, ◌^◌, refl, arith}
use Rattle.eden_pack_format.proofs.NumberLemmas.{back-begin, back-end, back-found, back-next, back-done, worth-next, worth-most}
use Rattle.eden_pack_format.proofs.number.read_back.Goals as goal

pub loop-done-init : goal.loop-done-init
loop-done-init c =
    let one : 128 ^ 0 ≡ 1 = refl in
    record { same = back-begin c.args.bytes.now; number = omega (arith, one); within = omega arith; shorter = omega arith }

pub returns-in_err-byte-clause-read : goal.returns-in_err-byte-clause-read
returns-in_err-byte-clause-read c =
    let i = c.loop-done.invariant in
    rw c.from_residual.ensures (back-end c.loop-done.done c.loop-done.number c.loop-done.rest.now c.args.bytes.now i.same c.loop-done-test.true c.in_err-byte.ensures.cases)

pub overflow_mul-result : goal.overflow_mul-result
overflow_mul-result c = omega (arith, c.loop-done.invariant.number, worth-most c.loop-done.done c.loop-done-test.true)

pub overflow_add-result : goal.overflow_add-result
overflow_add-result c = omega (arith, c.loop-done.invariant.number, worth-most c.loop-done.done c.loop-done-test.true)

pub returns-then-byte-lt128-clause-read : goal.returns-then-byte-lt128-clause-read
returns-then-byte-lt128-clause-read c =
    let i = c.loop-done.invariant in
    let l = c.loop-done in
    back-found l.done l.number c.in_ok-byte.byte.now l.rest.now c.in_ok-byte.after.now c.args.bytes.now i.same c.loop-done-test.true c.in_ok-byte.ensures.cases.0 c.if-byte-lt128.true

pub returns-then-byte-lt128-clause-shorter : goal.returns-then-byte-lt128-clause-shorter
returns-then-byte-lt128-clause-shorter c = omega (arith, c.loop-done.invariant.shorter, c.in_ok-byte.ensures.cases.1)

pub overflow_mul-number : goal.overflow_mul-number
overflow_mul-number c = omega (arith, c.loop-done.invariant.number, worth-most c.loop-done.done c.loop-done-test.true)

pub overflow_add-number : goal.overflow_add-number
overflow_add-number c = omega (arith, c.loop-done.invariant.number, worth-most c.loop-done.done c.loop-done-test.true)

pub overflow_add-number-in-loop-done : goal.overflow_add-number-in-loop-done
overflow_add-number-in-loop-done c = omega (arith, c.loop-done.invariant.number, worth-most c.loop-done.done c.loop-done-test.true)

pub loop-done-preserved : goal.loop-done-preserved
loop-done-preserved c =
    let i = c.loop-done.invariant in
    let b = c.in_ok-byte.byte.now in
    record {
      same = back-next c.loop-done.done c.loop-done.number b c.loop-done.rest.now c.in_ok-byte.after.now c.args.bytes.now i.same c.in_ok-byte.ensures.cases.0 (omega (arith, c.if-byte-lt128.false));
      number = omega (arith, i.number, worth-next c.loop-done.done);
      within = omega (arith, c.loop-done-test.true);
      shorter = omega (arith, i.shorter, c.in_ok-byte.ensures.cases.1);
    }

pub returns-clause-read : goal.returns-clause-read
returns-clause-read c =
    let i = c.loop-done.invariant in
    back-done c.loop-done.done c.loop-done.number c.loop-done.rest.now c.args.bytes.now i.same (omega (arith, i.within, c.loop-done-test.false))
