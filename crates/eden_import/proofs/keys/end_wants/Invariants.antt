use Rattle.std.proofs.Common.{◌≡◌, take, drop, ◌++◌}
use Rattle.eden_import.specs.Queue as queue
use Rattle.eden_import.proofs.keys.end_wants.Given as goal

abbrev pub invariant-loop-want : goal.invariant-loop-want
invariant-loop-want g l = l.want-items ≡ queue.end_wants l.key (take l.want-index l.fn.wants.items) ++ drop l.want-index l.fn.wants.items
