use Rattle.std.proofs.Common.{◌≡◌, ◌≤◌, ◌<◌, ℕ, false, slice_index_or}
use Rattle.eden_object.proofs.order.mark_fronts.Given as goal

abbrev pub invariant-above : goal.invariant-above
invariant-above l = record {
  kept : (n : ℕ) → n ≤ l.shared → slice_index_or l.fronts n false ≡ slice_index_or l.initial.fronts n false;
  cleared : (n : ℕ) → l.shared < n → n < l.n → slice_index_or l.fronts n false ≡ false;
  above : (n : ℕ) → l.n ≤ n → slice_index_or l.fronts n false ≡ slice_index_or l.initial.fronts n false;
}
