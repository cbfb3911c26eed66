use Rattle.std.proofs.Common.{◌∙◌, ap, sym, List, Some, ℕ, false}
use Rattle.eden_model.specs.declared.node.Node.TheVariants.{File}
use Rattle.eden_model.specs.declared.request.Request.TheVariants as ask
use Rattle.eden_model.specs.Operations.{put}
use Rattle.eden_oracle.specs.Rows.{tree_of}
use Rattle.eden_oracle.proofs.add.create.Goals as goal

pub returns : goal.returns
returns c = c.add.ensures (ask.Create c.args.path.now)
    (ap (λ (bytes : List ℕ). put (tree_of c.args.rows.now) c.args.path.now (Some (File false (Some bytes)))) (sym (c.new-2.ensures ∙ c.new.ensures.items)))
