use Rattle.std.proofs.Common.{◌≡◌, ◌<◌, ◌≤◌, ℕ, true}
use Rattle.eden_oracle.specs.Numbers.{is_spent}
use Rattle.eden_oracle.proofs.numbers.Numbers.least.Given as goal

-- every number before this one is spent
abbrev pub invariant-loop-number : goal.invariant-loop-number
invariant-loop-number l = (m : ℕ) → 2 ≤ m → m < l.number → is_spent l.fn.self m ≡ true
