use Rattle.std.proofs.Common.{ℕ, ◌≤◌}
use Rattle.eden_shared.specs.Passes.{HasNumber}
use Rattle.eden_shared.proofs.gathered.have_each.Given as goal

-- there is one of each number so far
abbrev pub invariant-loop-below : goal.invariant-loop-below
invariant-loop-below g l = (c : ℕ) → 1 ≤ c → c ≤ l.below → HasNumber l.passes c
