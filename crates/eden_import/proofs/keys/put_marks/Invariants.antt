use Rattle.std.proofs.Common.{◌≡◌, take, drop, ◌++◌, length}
use Rattle.eden_import.specs.Queue as queue
use Rattle.eden_import.proofs.keys.put_marks.Given as goal

abbrev pub invariant-loop-seat : goal.invariant-loop-seat
invariant-loop-seat l = record {
  marked : l.marks ≡ queue.put_marks l.key l.cause (take l.seat l.wants) (take l.seat l.fn.marks) ++ drop l.seat l.fn.marks;
  long : length l.marks ≡ length l.wants;
}
