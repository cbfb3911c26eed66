use Rattle.std.proofs.Common.{rules}
use Rattle.eden_shared.specs.Passes.{HasNumber}
use Rattle.eden_shared.proofs.Numbered.{each_more}
use Rattle.eden_shared.proofs.gathered.have_each.Goals as goal

pub loop-below-preserved : goal.loop-below-preserved
loop-below-preserved g c = each_more (HasNumber c.args.passes.now) c.loop-below.below c.loop-below.invariant (search rules)
