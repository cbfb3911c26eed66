use Rattle.eden_dematerialise.proofs.Ends.{keeps_so}
use Rattle.eden_dematerialise.proofs.dematerialising.dematerialise.Goals as goal

pub returns-clause-same : goal.returns-clause-same
returns-clause-same g c = λ honest. keeps_so g.W.World.repository c.run.result _ _ c.args.to (c.run.ensures.done honest) (c.run.ensures.so_far honest)
