use Rattle.std.proofs.Common.{length}
use Rattle.eden_materialise.proofs.saving.+has_unsaved.Given as goal

abbrev pub decreases-has_unsaved : goal.decreases-has_unsaved
decreases-has_unsaved g l = length l.path.now
