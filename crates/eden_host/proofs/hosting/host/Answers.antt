use Rattle.eden_host.proofs.Gathering.{each_stays}
use Rattle.eden_host.proofs.hosting.host.Goals as goal

pub returns-clause-whole : goal.returns-clause-whole
returns-clause-whole g c =
    c.finish.ensures.each (each_stays g.I.Read g.O.Write g.W.World.honest g.W.World.opening g.W.World.numbers _ _ _ _ c.serve_all-passes.ensures.passes c.begin.ensures.each)
