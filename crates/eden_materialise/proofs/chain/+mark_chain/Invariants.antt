use Rattle.std.proofs.Common.{length}
use Rattle.eden_materialise.proofs.chain.+mark_chain.Given as goal

abbrev pub decreases-mark_chain : goal.decreases-mark_chain
decreases-mark_chain g l = length l.path.now
