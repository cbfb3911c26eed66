use Rattle.std.proofs.Common.{◌≡◌, ◌≤◌, ◌<◌, ◌-◌, ℕ, length, slice_index}
use Rattle.eden_object.proofs.order.shared_len.Given as goal

abbrev pub invariant-bytes : goal.invariant-bytes
invariant-bytes l = record {
  first : l.shared ≤ length l.a;
  second : l.shared ≤ length l.b;
  same : (i : ℕ) → i < l.shared → slice_index l.a i ≡ slice_index l.b i;
}

abbrev pub decreases-bytes : goal.decreases-bytes
decreases-bytes l = length l.a - l.shared
