use Rattle.std.proofs.Common.{arith}
use Rattle.eden_wire.proofs.Slices.{slice-end}
use Rattle.eden_wire.proofs.Splitting.{found_part, found_near, none_near, far_part, far_none}
use Rattle.eden_wire.proofs.split.part_len.Goals as goal

pub returns-then-bytes-i : goal.returns-then-bytes-i
returns-then-bytes-i c = found_near c.args.mark c.args.bytes.now c.near.i (omega arith) c.near.invariant c.if-bytes-i.true

pub returns-then-bytes-le-NEAR : goal.returns-then-bytes-le-NEAR
returns-then-bytes-le-NEAR c = none_near c.args.mark c.args.bytes.now c.near.i (omega arith) c.near.invariant

pub returns-in-Some : goal.returns-in-Some
returns-in-Some c =
    far_part c.args.mark c.args.bytes.now _ 16 c.in-Some.at (omega arith) (slice-end c.args.bytes.now 16) (λ k low. c.near.invariant k (omega arith))
    (found_part c.args.mark _ c.in-Some.at c.in-Some.ensures.0 c.in-Some.ensures.1)

pub returns-in-None : goal.returns-in-None
returns-in-None c =
    far_none c.args.mark c.args.bytes.now _ 16 (omega arith) (slice-end c.args.bytes.now 16) (λ k low. c.near.invariant k (omega arith)) c.in-None.ensures
