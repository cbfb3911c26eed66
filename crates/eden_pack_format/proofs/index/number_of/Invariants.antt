use Rattle.std.proofs.Common.{◌≤◌, ℕ}
use Rattle.eden_pack_format.specs.Indexes.{HasId}
use Rattle.eden_pack_format.proofs.index.number_of.Given as goal

abbrev pub invariant-loop-number : goal.invariant-loop-number
invariant-loop-number l = (n : ℕ) → HasId l.ids l.id.bytes n → l.number ≤ n
