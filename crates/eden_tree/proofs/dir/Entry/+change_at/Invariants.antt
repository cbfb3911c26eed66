use Rattle.std.proofs.Common.{length}
use Rattle.eden_tree.proofs.dir.Entry.+change_at.Given as goal

abbrev pub decreases-change_at : goal.decreases-change_at
decreases-change_at g l = length l.path.now
