use Rattle.std.proofs.Common.{◌≤◌, ◌+◌, ℕ}
use Rattle.eden_pack_format.specs.MultiPack.{IsChunk}
use Rattle.eden_pack_format.proofs.multi.find_chunk.Given as goal

abbrev pub invariant-loop-next : goal.invariant-loop-next
invariant-loop-next l = (begin end : ℕ) → (chunk : IsChunk l.table l.name begin end) → l.next ≤ chunk.row + 1
