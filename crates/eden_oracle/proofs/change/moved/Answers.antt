use Rattle.std.proofs.Common.{◌∙◌, ap, List, take}
use Rattle.eden_model.specs.Operations.{move}
use Rattle.eden_oracle.specs.Rows.{tree_of}
use Rattle.eden_model.specs.Trees.{Path}
use Rattle.eden_oracle.proofs.Moved.{one_more}
use Rattle.eden_oracle.proofs.change.moved.Goals as goal

pub loop-path-preserved : goal.loop-path-preserved
loop-path-preserved g c q =
    c.in_ok-move_row.ensures (take c.loop-path.path-index c.args.rows.now) c.loop-path.invariant q
    ∙ ap (λ (rows : List (Path × g.row.V.Denot)). move (tree_of rows) c.args.from.now c.args.to.now q)
    (one_more c.args.rows.now c.loop-path.path-index c.loop-path-item.result c.as_slice.result.now c.loop-path-test.true c.loop-path-item.is c.as_slice.ensures)
