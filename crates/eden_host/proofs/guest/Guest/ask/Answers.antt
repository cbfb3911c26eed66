use Rattle.std.proofs.Common.{sym}
use Rattle.eden_host.proofs.Learning.{learnt_more, turned_away}
use Rattle.eden_host.proofs.guest.Guest.ask.Goals as goal

pub invariant_of-self-in-Ok : goal.invariant_of-self-in-Ok
invariant_of-self-in-Ok g c = learnt_more g.W.World.honest g.W.World.opening g.W.World.numbers _ _ _ c.in-Ok.ensures

pub returns-in-Ok-clause-grows : goal.returns-in-Ok-clause-grows
returns-in-Ok-clause-grows g c = rw (sym c.self.view_is) (c.in-Ok.answer.number, c.in-Ok.ensures)

pub returns-in-Err-clause-why : goal.returns-in-Err-clause-why
returns-in-Err-clause-why g c = rw (sym c.self.view_is) (turned_away g.W.World.honest g.W.World.opening g.W.World.numbers _ _ c.self.invariant c.in-Err.ensures.0)
