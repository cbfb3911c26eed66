use Rattle.std.proofs.Common.{Some, None}
use Rattle.eden_snapshot.specs.Commits.{mode_and_id}
use Rattle.eden_snapshot.proofs.Gathered.{row_put}
use Rattle.eden_snapshot.proofs.rows.put_old.Goals as goal

pub returns : goal.returns
returns c = λ n.
    row_put c.args.rows.now.entries c.insert.new.self.entries n c.args.entry.name (record { old = Some (mode_and_id c.args.entry); new = None })
    (c.in_ok-insert.ensures.updates.0 n)
