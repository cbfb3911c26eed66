use Rattle.std.proofs.Common.{◌∙◌}
use Rattle.eden_repair.proofs.Steps.{taken_back}
use Rattle.eden_repair.proofs.saved.forget.Goals as goal

pub returns-in-Err-clause-untold : goal.returns-in-Err-clause-untold
returns-in-Err-clause-untold g c =
    c.truncate.ensures.items
    ∙ taken_back c.args.found.now.items _ c.push.new.self.items c.len-before.result (c.len-before.ensures ∙ c.args.found.now.ok.0) c.in_ok-push.ensures.items
