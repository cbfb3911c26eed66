use Rattle.std.proofs.Common.{◌-◌, ◌*◌, ◌^◌, ◌≡◌, ℕ, ◌<◌, ◌≤◌, length, get_or}
use Rattle.std.specs.declared.cmp.Ordering.TheVariants.{Less, Greater}
use Rattle.eden_tree.proofs.NameOrder.{order}
use Rattle.eden_tree.proofs.search.search.Given as goal

abbrev pub invariant-loop-low : goal.invariant-loop-low
invariant-loop-low g l = record {
  within : (l.low ≤ l.high) × (l.high ≤ length l.items);
  less : (j : ℕ) (d : _) → j < l.low → order (get_or l.items j d).0 l.name ≡ Less;
  greater : (j : ℕ) (d : _) → l.high ≤ j → j < length l.items → order (get_or l.items j d).0 l.name ≡ Greater;
  halved : (l.high - l.low) * 2 ^ l.compared ≤ length l.items;
  before : (k : ℕ) → length l.items < 2 ^ k → l.compared ≤ k;
}

abbrev pub decreases-loop-low : goal.decreases-loop-low
decreases-loop-low g l = l.high - l.low
