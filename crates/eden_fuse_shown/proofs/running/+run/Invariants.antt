use Rattle.eden_fuse_meaning.specs.Laws.{most_asked}
use Rattle.eden_fuse_shown.proofs.running.+run.Given as goal

-- each reply brings the end nearer
abbrev pub decreases-run : goal.decreases-run
decreases-run g l = most_asked l.step
