use Rattle.eden_mount.proofs.Blaming.{waits_stand, marked_wait_no_more}
use Rattle.eden_mount.proofs.laws.wait_laws.Goals as goal

pub returns-clause-stand : goal.returns-clause-stand
returns-clause-stand g c = waits_stand g.T.Attempts.table g.W.World.honest g.W.World.opening g.W.World.numbers

pub returns-clause-marked : goal.returns-clause-marked
returns-clause-marked g c = marked_wait_no_more g.T.Attempts.table g.W.World.honest g.W.World.opening g.W.World.numbers
