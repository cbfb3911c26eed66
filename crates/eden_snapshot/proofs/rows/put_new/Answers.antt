use Rattle.std.proofs.Common.{cond, Some, ap, ◌∙◌}
use Rattle.eden_model.specs.Trees.{Name}
use Rattle.eden_snapshot.specs.Rows.{is_name, row_in}
use Rattle.eden_snapshot.specs.declared.rows.Row.{Row}
use Rattle.eden_snapshot.proofs.Gathered.{row_put}
use Rattle.eden_snapshot.proofs.rows.put_new.Goals as goal

pub returns : goal.returns
returns c = λ n.
    let rows = c.args.rows.now.entries in
    let k = c.in_ok-name.name in
    let e = c.args.entry in
    row_put rows c.insert.new.self.entries n k (record { old = c.old_under-old.result; new = Some e }) (c.in_ok-insert.ensures.updates.0 n)
    ∙ ap (λ old. cond {A = Row} (is_name k n) (record { old = old; new = Some e }) (row_in rows n)) c.old_under-old.ensures
    ∙ ap (λ (m : Name). cond {A = Row} (is_name m n) (record { old = (row_in rows m).old; new = Some e }) (row_in rows n)) c.in_ok-name.ensures
