use Rattle.std.proofs.Common.{◌∙◌, ap, sym}
use Rattle.eden_model.specs.Operations.{SetsExec}
use Rattle.eden_oracle.specs.Rows.{tree_of}
use Rattle.eden_model.specs.Trees.{reach}
use Rattle.eden_model.specs.declared.request.Request.TheVariants as ask
use Rattle.eden_oracle.proofs.Answering.{at_node}
use Rattle.eden_oracle.proofs.edit.set_exec.Goals as goal

pub returns-in-Here : goal.returns-in-Here
returns-in-Here c =
    at_node c.set_exec_node.result (tree_of c.args.rows.now) c.args.path.now c.in-Here.node.now SetsExec (ask.SetExec c.args.path.now c.args.exec)
    (sym (c.in-Here.ensures ∙ ap (reach (tree_of c.args.rows.now)) c.as_slice.ensures)) c.set_exec_node.ensures
