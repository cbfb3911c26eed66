use Rattle.std.proofs.Common.{◌≡◌, ◌<◌, ◌+◌, ℕ, false, slice_index_or}
use Rattle.std.specs.Str.{bytes_eq}
use Rattle.eden_object.proofs.names.differ_sorted.Given as goal

abbrev pub invariant-pairs : goal.invariant-pairs
invariant-pairs l = (k : ℕ) → k + 1 < l.i → (d : _) → bytes_eq (slice_index_or l.sorted.items k d).now (slice_index_or l.sorted.items (k + 1) d).now ≡ false
