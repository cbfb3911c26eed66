-- In which rows of the table of chunks a chunk is still looked for.
use Rattle.std.proofs.Common.{◌≡◌, ◌≤◌, ◌<◌, ◌+◌, ◌-◌, ◌/◌, ℕ, List, length, sym, subst, arith}
use Rattle.eden_pack_format.specs.MultiPack.{IsChunk, IsChunkOf}

-- it is in a later row than the one that has no such chunk
pub later : {table name : List ℕ} {begin end : ℕ} (chunk : IsChunk table name begin end) (next : ℕ) → next ≤ chunk.row + 1
    → ((b e : ℕ) → IsChunkOf table name (next - 1) b e → ⊥) → 1 ≤ next → next + 1 ≤ chunk.row + 1
later {table} {name} {begin} {end} chunk next before absent some =
    omega (arith, before, some, λ (same : chunk.row ≡ next - 1). absent begin end (subst (λ row. IsChunkOf table name row begin end) same chunk.of_row))

-- no row is left
pub none_left : {table name : List ℕ} {begin end : ℕ} (chunk : IsChunk table name begin end) (next : ℕ) → next ≤ chunk.row + 1 → length table / 12 ≤ next → ⊥
none_left {table} {name} {begin} {end} chunk next before over = omega (arith, before, over, chunk.of_row.within)
