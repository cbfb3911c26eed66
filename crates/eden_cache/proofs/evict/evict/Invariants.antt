use Rattle.std.proofs.Common.{◌≡◌, length}
use Rattle.eden_cache.proofs.Fronts.{IsLeft}
use Rattle.eden_cache.proofs.evict.evict.Given as goal

abbrev pub invariant-loop-left : goal.invariant-loop-left
invariant-loop-left g l = record {
  left : IsLeft l.fn.objects.entries l.bytes l.left l.objects.entries;
  cap : l.objects.cap ≡ l.fn.objects.cap;
}

abbrev pub decreases-loop-left : goal.decreases-loop-left
decreases-loop-left g l = length l.objects.entries
