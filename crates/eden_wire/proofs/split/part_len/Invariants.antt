use Rattle.std.proofs.Common.{◌≢◌, ◌<◌, ℕ, get_or}
use Rattle.eden_wire.proofs.split.part_len.Given as goal

-- the mark isn't among the bytes so far
abbrev pub invariant-near : goal.invariant-near
invariant-near l = (k : ℕ) → k < l.i → get_or l.bytes k 0 ≢ l.mark
