use Rattle.std.proofs.Common.{length}
use Rattle.eden_inode.proofs.along.+seek.Given as goal

abbrev pub decreases-seek : goal.decreases-seek
decreases-seek g l = length l.path.now
