use Rattle.std.proofs.Common.{length}
use Rattle.eden_tree.proofs.dir.Entry.+stamp_along.Given as goal

abbrev pub decreases-stamp_along : goal.decreases-stamp_along
decreases-stamp_along g l = length l.path.now
