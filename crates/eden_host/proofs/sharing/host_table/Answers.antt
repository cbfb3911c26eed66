use Rattle.std.proofs.Common.{rules}
use Rattle.eden_host.proofs.Beginning.{are_newcomers}
use Rattle.eden_host.specs.Sharing.{terms_at}
use Rattle.eden_host.proofs.sharing.host_table.Goals as goal

pub returns-in-Ok-clause-hosted : goal.returns-in-Ok-clause-hosted
returns-in-Ok-clause-hosted g c =
    c.host_passes.ensures (terms_at g.T.Attempts.table c.args.room (g.H.History.limit c.args.history) c.args.table) c.in-Ok.ensures.passes

pub host_passes-requires-clause-passes : goal.host_passes-requires-clause-passes
host_passes-requires-clause-passes g c =
    let are = are_newcomers (terms_at g.T.Attempts.table c.args.room (g.H.History.limit c.args.history) c.args.table) _ _ c.in-Ok.ensures.passes c.in-Ok.ensures.count in
    search (rules, are)
