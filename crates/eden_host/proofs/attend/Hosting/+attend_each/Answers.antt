use Rattle.std.proofs.Common.{arith}
use Rattle.std.proofs.lemmas.Bool.Decides.{nat_tests}
use Rattle.eden_host.proofs.Attending.{unattended}
use Rattle.eden_host.proofs.attend.Hosting.+attend_each.Goals as goal

pub returns-in_default-clause-passes : goal.returns-in_default-clause-passes
returns-in_default-clause-passes g t c = unattended g.W.World.honest g.W.World.opening g.W.World.numbers g.I.Read g.O.Write c.args.passes.items (grind (arith, nat_tests))
