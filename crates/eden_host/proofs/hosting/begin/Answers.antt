use Rattle.std.proofs.Common.{List, length, sym, subst}
use Rattle.eden_shared.specs.Passes.{AreEach, Carried}
use Rattle.eden_host.specs.Guests.{HaveLearntNothing}
use Rattle.eden_host.proofs.Beginning.{newcomers_each, newcomers_learnt}
use Rattle.eden_host.proofs.hosting.begin.Goals as goal

pub returns-clause-learnt : goal.returns-clause-learnt
returns-clause-learnt g c = subst HaveLearntNothing (sym c.requires.1) (record { each = newcomers_learnt c.requires.0 1 (length g.J.Naming.names) })

pub returns-clause-each : goal.returns-clause-each
returns-clause-each g c = subst (λ (ps : List Carried). AreEach ps (length g.J.Naming.names)) (sym c.requires.1) (newcomers_each c.requires.0 (length g.J.Naming.names))
