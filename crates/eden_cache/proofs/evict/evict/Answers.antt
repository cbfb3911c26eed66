use Rattle.std.proofs.Common.{◌-◌, length, arith}
use Rattle.eden_cache.proofs.Weights.{weight_of-take}
use Rattle.eden_cache.proofs.Fronts.{IsLeft-fewer}
use Rattle.eden_cache.proofs.evict.evict.Goals as goal

pub overflow_sub-left : goal.overflow_sub-left
overflow_sub-left g c =
    let es = c.loop-left.objects.entries in
    rw c.let_oldest_go-left.ensures.weight (omega (arith, c.loop-left.invariant.left.sum, weight_of-take es (length es - 1) (omega arith)))

pub loop-left-preserved : goal.loop-left-preserved
loop-left-preserved g c =
    let fewer = IsLeft-fewer c.args.objects.now.entries c.args.bytes c.loop-left.left c.loop-left.objects.entries c.loop-left.invariant.left c.loop-left-test.true (omega arith) in
    rw (c.let_oldest_go-left.ensures.left, c.let_oldest_go-left.ensures.weight) (record { left = fewer; cap = c.loop-left.invariant.cap })
