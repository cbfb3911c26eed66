use Rattle.std.proofs.Common.{◌≡◌}
use Rattle.eden_oracle.proofs.tree.placed.Given as goal

abbrev pub invariant-loop-path : goal.invariant-loop-path
invariant-loop-path g l = l.all.items ≡ l.yielded
