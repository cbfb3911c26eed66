use Rattle.eden_model.specs.Operations.{kind_named}
use Rattle.eden_oracle.proofs.Listings.{children_more}
use Rattle.eden_oracle.proofs.list.children.Goals as goal

pub loop-row-preserved : goal.loop-row-preserved
loop-row-preserved c = λ n. children_more c.args.rows.now c.args.dir.now n c.loop-row.row-index c.loop-row-item.result (kind_named c.loop-row.all n) _ c.loop-row-test.true c.loop-row-item.is
    (c.loop-row.invariant n) (c.in_ok-note_row.ensures n)
