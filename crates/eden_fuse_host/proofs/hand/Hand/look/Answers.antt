use Rattle.std.proofs.Common.{◌≡◌, true, false, sym, ◌∙◌}
use Rattle.eden_fuse_host.proofs.LookedOn.{met_once}
use Rattle.eden_fuse_host.proofs.hand.Hand.look.Goals as goal
use Rattle.eden_fuse_host.proofs.hand.Hand.look.Goals.{in-Err, in-Ok+in-Fault, in-Ok+in_default}

pub returns-clause-met : goal.returns-clause-met
returns-clause-met g c = λ is. elim c.match-ask.branch [
  | in-Err w ↦ absurd (let no : false ≡ true = sym w.result-is ∙ is in cc no)
  | in-Ok+in-Fault w ↦
      rw (sym c.self.view_is) (met_once g.W.World.honest g.W.World.opening g.W.World.numbers _ _ _ _ _ _ w.in-Ok.ensures w.in-Fault.is)
  | in-Ok+in_default w ↦ absurd (let no : false ≡ true = sym w.result-is ∙ is in cc no)
]
