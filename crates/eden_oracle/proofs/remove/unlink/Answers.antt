use Rattle.std.proofs.Common.{◌∙◌, ap, sym, refl}
use Rattle.eden_model.specs.declared.errno.Errno.TheVariants.{EISDIR}
use Rattle.eden_model.specs.declared.request.Request.TheVariants as ask
use Rattle.eden_oracle.specs.Changes.{reply_of}
use Rattle.eden_model.specs.Operations.{At, Unlinks, after}
use Rattle.eden_model.specs.Paths.{is_root}
use Rattle.eden_oracle.specs.Rows.{tree_of}
use Rattle.eden_model.specs.Trees.{reach}
use Rattle.eden_oracle.proofs.Answering.{past_test, here_gives, gives_by}
use Rattle.eden_oracle.proofs.remove.unlink.Goals as goal

pub returns-in-Here : goal.returns-in-Here
returns-in-Here c =
    let F = tree_of c.args.rows.now in
    let p = c.args.path.now in
    let q = ask.Unlink p in
    let o = c.take_away.result in
    past_test (At F p Unlinks) F (after F q) o (is_root p) EISDIR (sym c.is_root.ensures ∙ c.if-is_root.false)
    (here_gives F p c.in-Here.node.now Unlinks (after F q) o (sym (c.in-Here.ensures ∙ ap (reach F) c.as_slice.ensures))
    (gives_by (Unlinks c.in-Here.node.now) F (after F q) o (reply_of c.leaf_going.result) c.take_away.ensures.reply (c.take_away.ensures.change F q refl) c.leaf_going.ensures))
