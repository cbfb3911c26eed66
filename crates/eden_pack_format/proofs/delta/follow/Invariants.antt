use Rattle.std.proofs.Common.{◌≤◌, List, ℕ, ◌++◌, length}
use Rattle.eden_pack_format.specs.Deltas.{Makes}
use Rattle.eden_pack_format.proofs.DeltaLemmas.{Left}
use Rattle.eden_pack_format.proofs.delta.follow.Given as goal

abbrev pub invariant-loop-rest : goal.invariant-loop-rest
invariant-loop-rest l = record {
  size : length l.target.items ≤ l.size;
  made : (t : List ℕ) → Makes l.base l.rest t → Makes l.base l.instructions (l.target.items ++ t);
  left : (t : List ℕ) → Makes l.base l.instructions t → Left l.base l.rest l.target.items t;
}

abbrev pub decreases-loop-rest : goal.decreases-loop-rest
decreases-loop-rest l = length l.rest
