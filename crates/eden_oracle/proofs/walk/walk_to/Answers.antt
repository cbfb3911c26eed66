use Rattle.std.proofs.Common.{◌∙◌, ap, Option}
use Rattle.eden_model.specs.declared.node.Node.{Node}
use Rattle.eden_oracle.specs.Rows.{tree_of}
use Rattle.eden_model.specs.Trees.{Passes, Stops, Unlisted, through}
use Rattle.eden_oracle.proofs.Walks.{walk_by}
use Rattle.eden_oracle.proofs.walk.walk_to.Goals as goal

pub returns-in-Errs : goal.returns-in-Errs
returns-in-Errs c = walk_by (tree_of c.args.rows.now) c.args.path.now c.loop-k.k (Stops c.in-Errs.e) c.loop-k-test.true c.loop-k.invariant
    (c.in-Errs.ensures ∙ ap (λ (n : Option Node). through n Passes) c.find.ensures)

pub returns-in-Unlisted : goal.returns-in-Unlisted
returns-in-Unlisted c = walk_by (tree_of c.args.rows.now) c.args.path.now c.loop-k.k Unlisted c.loop-k-test.true c.loop-k.invariant
    (c.in-Unlisted.ensures ∙ ap (λ (n : Option Node). through n Passes) c.find.ensures)

pub loop-k-preserved : goal.loop-k-preserved
loop-k-preserved c = walk_by (tree_of c.args.rows.now) c.args.path.now c.loop-k.k Passes c.loop-k-test.true c.loop-k.invariant
    (c.in-Through.ensures ∙ ap (λ (n : Option Node). through n Passes) c.find.ensures)
