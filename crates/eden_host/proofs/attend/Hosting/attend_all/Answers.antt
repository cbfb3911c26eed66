use Rattle.std.proofs.Common.{None}
use Rattle.eden_host.proofs.Attending.{none_attended}
use Rattle.eden_host.proofs.attend.Hosting.attend_all.Goals as goal

pub returns-then-not-fetched : goal.returns-then-not-fetched
returns-then-not-fetched g c =
    (None, none_attended g.W.World.honest g.W.World.opening g.W.World.numbers g.I.Read g.O.Write _, c.outcome_of.ensures)
