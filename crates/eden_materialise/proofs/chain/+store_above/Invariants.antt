use Rattle.std.proofs.Common.{length}
use Rattle.eden_materialise.proofs.chain.+store_above.Given as goal

abbrev pub decreases-store_above : goal.decreases-store_above
decreases-store_above g l = length l.path.now
