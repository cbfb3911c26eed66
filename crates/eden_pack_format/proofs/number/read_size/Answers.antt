use Rattle.std.proofs.Common.{◌%◌, refl, arith}
use Rattle.eden_pack_format.proofs.NumberLemmas.{reads-begin, reads-end, reads-last, reads-more, reads-over, worth-next, worth-most, product-most}
use Rattle.eden_pack_format.proofs.number.read_size.Goals as goal

pub loop-done-init : goal.loop-done-init
loop-done-init c = record { same = reads-begin c.args.bytes.now; worth = refl; number = omega arith; within = omega arith; shorter = omega arith }

pub returns-in_err-byte-clause-read : goal.returns-in_err-byte-clause-read
returns-in_err-byte-clause-read c =
    let i = c.loop-done.invariant in
    rw c.from_residual.ensures (reads-end c.loop-done.done c.loop-done.number c.loop-done.worth c.loop-done.rest.now c.args.bytes.now i.same c.loop-done-test.true c.in_err-byte.ensures.cases)

pub overflow_mul-result : goal.overflow_mul-result
overflow_mul-result c =
    let i = c.loop-done.invariant in
    omega (arith, i.worth, worth-most c.loop-done.done c.loop-done-test.true, product-most c.loop-done.worth (c.in_ok-byte.byte.now) 128 (omega arith))

pub overflow_add-result : goal.overflow_add-result
overflow_add-result c =
    let i = c.loop-done.invariant in
    omega (arith, i.worth, i.number, worth-most c.loop-done.done c.loop-done-test.true, product-most c.loop-done.worth (c.in_ok-byte.byte.now) 128 (omega arith))

pub returns-then-byte-lt128-clause-read : goal.returns-then-byte-lt128-clause-read
returns-then-byte-lt128-clause-read c =
    let i = c.loop-done.invariant in
    let l = c.loop-done in
    reads-last l.done l.number l.worth c.in_ok-byte.byte.now l.rest.now c.in_ok-byte.after.now c.args.bytes.now i.same c.loop-done-test.true c.in_ok-byte.ensures.cases.0 c.if-byte-lt128.true

pub returns-then-byte-lt128-clause-bounded : goal.returns-then-byte-lt128-clause-bounded
returns-then-byte-lt128-clause-bounded c =
    let i = c.loop-done.invariant in
    omega (arith, i.worth, i.number, worth-most c.loop-done.done c.loop-done-test.true, product-most c.loop-done.worth (c.in_ok-byte.byte.now) 127 (omega arith))

pub returns-then-byte-lt128-clause-shorter : goal.returns-then-byte-lt128-clause-shorter
returns-then-byte-lt128-clause-shorter c = omega (arith, c.loop-done.invariant.shorter, c.in_ok-byte.ensures.cases.1)

pub overflow_mul-number : goal.overflow_mul-number
overflow_mul-number c =
    let i = c.loop-done.invariant in
    omega (arith, i.worth, worth-most c.loop-done.done c.loop-done-test.true, product-most c.loop-done.worth (c.in_ok-byte.byte.now % 128) 127 (omega arith))

pub overflow_add-number : goal.overflow_add-number
overflow_add-number c =
    let i = c.loop-done.invariant in
    omega (arith, i.worth, i.number, worth-most c.loop-done.done c.loop-done-test.true, product-most c.loop-done.worth (c.in_ok-byte.byte.now % 128) 127 (omega arith))

pub overflow_mul-worth : goal.overflow_mul-worth
overflow_mul-worth c = omega (arith, c.loop-done.invariant.worth, worth-most c.loop-done.done c.loop-done-test.true)

pub loop-done-preserved : goal.loop-done-preserved
loop-done-preserved c =
    let i = c.loop-done.invariant in
    let l = c.loop-done in
    let b = c.in_ok-byte.byte.now in
    record {
      same = reads-more l.done l.number l.worth b l.rest.now c.in_ok-byte.after.now c.args.bytes.now i.same c.in_ok-byte.ensures.cases.0 (omega (arith, c.if-byte-lt128.false));
      worth = omega (arith, i.worth, worth-next c.loop-done.done);
      number = omega (arith, i.number, product-most c.loop-done.worth (b % 128) 127 (omega arith));
      within = omega (arith, c.loop-done-test.true);
      shorter = omega (arith, i.shorter, c.in_ok-byte.ensures.cases.1);
    }

pub returns-clause-read : goal.returns-clause-read
returns-clause-read c =
    let i = c.loop-done.invariant in
    reads-over c.loop-done.done c.loop-done.number c.loop-done.worth c.loop-done.rest.now c.args.bytes.now i.same (omega (arith, i.within, c.loop-done-test.false))
