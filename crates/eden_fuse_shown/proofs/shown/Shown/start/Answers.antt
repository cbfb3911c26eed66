use Rattle.std.proofs.Common.{inr}
use Rattle.eden_fuse_shown.proofs.shown.Shown.start.Goals as goal

pub returns-in-Ok-clause-starts : goal.returns-in-Ok-clause-starts
returns-in-Ok-clause-starts g c = inr (c.clear.new.self, c.in-Ok.ensures.ok, c.answer.ensures.runs)
