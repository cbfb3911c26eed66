use Rattle.std.proofs.Common.{◌∙◌}
use Rattle.eden_fuse_shown.proofs.Keeping.{clears}
use Rattle.eden_fuse_shown.proofs.shown.Shown.clear.Goals as goal

pub returns-clause-ok : goal.returns-clause-ok
returns-clause-ok g c =
    clears g.M.Mount.answers c.in_ok-step.step c.left-rows.ensures.0 c.as_slice.result.now c.args.self.now c.left-rows.new.self c.clear_rows.new.self
    c.in_ok-step.ensures (c.as_slice.ensures ∙ c.left-rows.ensures.2) c.left-rows.ensures.1 c.clear_rows.ensures
