use Rattle.eden_overlay.proofs.CallerLemmas.{few_keys}
use Rattle.eden_repair.proofs.saved.meet.Goals as goal

pub returns-then-branch-clause-few : goal.returns-then-branch-clause-few
returns-then-branch-clause-few c =
    few_keys c.args.met.now c.insert.new.self c.args.number c.in_ok-insert.ensures.updates c.insert.ensures.ordered c.requires.range c.requires.met
