use Rattle.std.proofs.Common.{◌∙◌, ap, sym}
use Rattle.eden_model.specs.Operations.{Truncates}
use Rattle.eden_oracle.specs.Rows.{tree_of}
use Rattle.eden_model.specs.Trees.{reach}
use Rattle.eden_model.specs.declared.request.Request.TheVariants as ask
use Rattle.eden_oracle.proofs.Answering.{at_node}
use Rattle.eden_oracle.proofs.edit.truncate.Goals as goal

pub returns-in-Here : goal.returns-in-Here
returns-in-Here c =
    at_node c.truncate_node.result (tree_of c.args.rows.now) c.args.path.now c.in-Here.node.now (Truncates c.args.size) (ask.Truncate c.args.path.now c.args.size)
    (sym (c.in-Here.ensures ∙ ap (reach (tree_of c.args.rows.now)) c.as_slice.ensures)) c.truncate_node.ensures
