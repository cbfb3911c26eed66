use Rattle.std.proofs.Common.{◌∙◌, ap, sym, length, nat_lt}
use Rattle.std.proofs.lemmas.Bool.{le-ltb}
use Rattle.eden_model.specs.declared.errno.Errno.TheVariants.{EINVAL}
use Rattle.eden_model.specs.Limits.{most_file}
use Rattle.eden_model.specs.Operations.{At, Writes, after}
use Rattle.eden_oracle.specs.Rows.{tree_of}
use Rattle.eden_model.specs.Trees.{reach}
use Rattle.eden_model.specs.declared.request.Request.TheVariants as ask
use Rattle.eden_oracle.proofs.Answering.{at_node, past_test_ok}
use Rattle.eden_oracle.proofs.edit.patch.Goals as goal

pub returns-in-Here : goal.returns-in-Here
returns-in-Here c =
    let q = ask.Patch c.args.path.now c.args.offset c.args.bytes.now in
    past_test_ok c.patch_node.result (At (tree_of c.args.rows.now) c.args.path.now (Writes c.args.offset c.args.bytes.now)) (tree_of c.args.rows.now) (after (tree_of c.args.rows.now) q)
    (nat_lt most_file (length c.args.bytes.now)) EINVAL (le-ltb most_file (length c.args.bytes.now) c.if-bytes-gt-MAX_FILE.false)
    (at_node c.patch_node.result (tree_of c.args.rows.now) c.args.path.now c.in-Here.node.now (Writes c.args.offset c.args.bytes.now) q
    (sym (c.in-Here.ensures ∙ ap (reach (tree_of c.args.rows.now)) c.as_slice.ensures)) c.patch_node.ensures)
