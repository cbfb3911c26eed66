use Rattle.std.proofs.Common.{◌≡◌, take}
use Rattle.eden_ops.proofs.ready.inside.Given as goal

abbrev pub invariant-loop-above : goal.invariant-loop-above
invariant-loop-above l = l.names.items ≡ take l.above-index l.path
