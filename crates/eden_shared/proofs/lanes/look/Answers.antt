use Rattle.std.proofs.Common.{◌∙◌}
use Rattle.eden_shared.proofs.Listed.{set_same}
use Rattle.eden_shared.proofs.lanes.look.Goals as goal

pub returns-clause-values : goal.returns-clause-values
returns-clause-values c = c.change.ensures.values ∙ set_same _ _ _ c.change.ensures.lane
