use Rattle.std.proofs.Common.{◌≡◌, ◌≤◌, length, drop}
use Rattle.eden_model.specs.Paths.{behind_of}
use Rattle.eden_oracle.proofs.front.behind.Given as goal

abbrev pub invariant-loop-k : goal.invariant-loop-k
invariant-loop-k l = (behind_of (drop l.k l.front) (drop l.k l.path) ≡ behind_of l.front l.path) × (l.k ≤ length l.path)
