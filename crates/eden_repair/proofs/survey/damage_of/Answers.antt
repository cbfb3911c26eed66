use Rattle.eden_overlay.proofs.CallerLemmas.{few_keys}
use Rattle.eden_repair.proofs.survey.damage_of.Goals as goal

pub returns-then-branch-clause-few : goal.returns-then-branch-clause-few
returns-then-branch-clause-few g c =
    few_keys c.args.met.now c.insert.new.self c.args.entry.now.number c.in_ok-insert.ensures.updates c.insert.ensures.ordered c.requires.range c.requires.met
