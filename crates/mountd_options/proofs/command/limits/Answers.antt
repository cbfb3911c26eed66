use Rattle.std.proofs.Common.{rules}
use Rattle.mountd_options.proofs.command.limits.Goals as goal

pub returns-clause-ok : goal.returns-clause-ok
returns-clause-ok c = search rules
