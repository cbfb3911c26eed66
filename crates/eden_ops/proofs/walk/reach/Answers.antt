use Rattle.std.proofs.Common.{subst}
use Rattle.eden_ops.specs.declared.walk_end.Stop.{Stop}
use Rattle.eden_ops.specs.Attempts.{Ends, walked_by}
use Rattle.eden_ops.proofs.Reached.{met_passes}
use Rattle.eden_ops.proofs.walk.reach.Goals as goal

pub returns-in-Ok-clause-reaches : goal.returns-in-Ok-clause-reaches
returns-in-Ok-clause-reaches g c = record {
  ends = met_passes g.W.World g.F.Files c.args.path.now c.args.inodes.now c.meet.new.inodes c.meet.new.cache c.in-Ok.field-0 c.in-Ok.ensures.meets;
  keeps = c.meet.ensures.keeps;
  cache = c.meet.ensures.cache;
}

pub returns-in-Err-Needs-clause-reaches : goal.returns-in-Err-Needs-clause-reaches
returns-in-Err-Needs-clause-reaches g c = record {
  ends = subst (λ (z : Stop). Ends g.W.World g.F.Files c.args.path.now c.args.inodes.now c.meet.new.inodes c.meet.new.cache (walked_by z)) c.in-Err-Needs.field-0-is c.in-Err-Needs.ensures.meets;
  keeps = c.meet.ensures.keeps;
  cache = c.meet.ensures.cache;
}

pub returns-in-Err-Needs-clause-shown : goal.returns-in-Err-Needs-clause-shown
returns-in-Err-Needs-clause-shown g c = λ h. tt
