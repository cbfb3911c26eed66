use Rattle.std.proofs.Common.{◌≡◌, ℕ, ◌<◌, slice_get, Some}
use Rattle.eden_shared.specs.Passes.{Carried, IsKnown}
use Rattle.eden_shared.proofs.locked.Locked.check_all.Given as goal

-- the passes so far are known
abbrev pub invariant-loop-i : goal.invariant-loop-i
invariant-loop-i g l =
    (l.self ≡ l.initial.self) × (l.passes.items ≡ l.initial.passes.items)
    × ((k : ℕ) → k < l.i → (p : Carried) → slice_get l.initial.passes.items k ≡ Some p → IsKnown g.T.Attempts.table l.initial.self.mount p)
