use Rattle.std.proofs.Common.{length}
use Rattle.eden_tree.proofs.dir.Entry.+walk.Given as goal

abbrev pub decreases-walk : goal.decreases-walk
decreases-walk g l = length l.path.now
