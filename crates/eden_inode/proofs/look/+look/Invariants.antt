use Rattle.std.proofs.Common.{length}
use Rattle.eden_inode.proofs.look.+look.Given as goal

abbrev pub decreases-look : goal.decreases-look
decreases-look g l = length l.path.now
