use Rattle.std.proofs.Common.{length}
use Rattle.eden_bench.proofs.waits.+go_down.Given as goal

abbrev pub decreases-go_down : goal.decreases-go_down
decreases-go_down l = length l.trees.now
