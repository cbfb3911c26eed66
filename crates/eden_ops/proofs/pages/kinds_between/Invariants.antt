use Rattle.std.proofs.Common.{◌≡◌, ◌≤◌, ◌-◌, take, drop}
use Rattle.eden_ops.specs.Listings.{kinds_in}
use Rattle.eden_ops.proofs.pages.kinds_between.Given as goal

abbrev pub invariant-loop-i : goal.invariant-loop-i
invariant-loop-i g l = record {
  behind : l.first ≤ l.i;
  kinds : l.kinds.items ≡ take (l.i - l.first) (drop l.first (kinds_in l.dir));
}
