use Rattle.std.proofs.Common.{◌∙◌, ap, sym, refl, subst}
use Rattle.eden_model.specs.declared.errno.Errno.TheVariants.{EBUSY}
use Rattle.eden_model.specs.declared.request.Request.TheVariants as ask
use Rattle.eden_oracle.specs.Changes.{reply_of, Tells}
use Rattle.eden_model.specs.Operations.{At, Removes, after}
use Rattle.eden_model.specs.Paths.{is_root}
use Rattle.eden_oracle.specs.Rows.{tree_of}
use Rattle.eden_model.specs.Trees.{Path, reach}
use Rattle.eden_oracle.proofs.Answering.{past_test, here_gives, gives_by}
use Rattle.eden_oracle.proofs.remove.rmdir.Goals as goal

pub returns-in-Here : goal.returns-in-Here
returns-in-Here c =
    let F = tree_of c.args.rows.now in
    let p = c.args.path.now in
    let q = ask.Rmdir p in
    let o = c.take_away.result in
    let n = c.in-Here.node.now in
    past_test (At F p (Removes F p)) F (after F q) o (is_root p) EBUSY (sym c.is_root.ensures ∙ c.if-is_root.false)
    (here_gives F p n (Removes F p) (after F q) o (sym (c.in-Here.ensures ∙ ap (reach F) c.as_slice.ensures))
    (gives_by (Removes F p n) F (after F q) o (reply_of c.dir_going.result) c.take_away.ensures.reply (c.take_away.ensures.change F q refl)
    (subst (λ (x : Path). Tells (Removes F x n) (reply_of c.dir_going.result)) c.as_slice-in-Here.ensures c.dir_going.ensures)))
