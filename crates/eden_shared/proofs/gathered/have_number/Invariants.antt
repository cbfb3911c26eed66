use Rattle.std.proofs.Common.{◌≡◌, ◌≢◌, ℕ, ◌<◌, slice_get, Some}
use Rattle.eden_shared.specs.Passes.{Carried}
use Rattle.eden_shared.proofs.gathered.have_number.Given as goal

-- no pass so far has it
abbrev pub invariant-loop-pass : goal.invariant-loop-pass
invariant-loop-pass g l = (k : ℕ) → k < l.pass-index → (p : Carried) → slice_get l.passes k ≡ Some p → p.number ≢ l.number
