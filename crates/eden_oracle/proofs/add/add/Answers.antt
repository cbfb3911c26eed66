use Rattle.std.proofs.Common.{◌∙◌, ap, sym, refl}
use Rattle.eden_model.specs.declared.errno.Errno.TheVariants.{EEXIST}
use Rattle.eden_model.specs.Operations.{Adds}
use Rattle.eden_oracle.specs.Rows.{tree_of}
use Rattle.eden_model.specs.Trees.{reach, Fails, Here}
use Rattle.eden_oracle.proofs.Answering.{refused_gives, adds_by, adds_silent}
use Rattle.eden_oracle.proofs.add.add.Goals as goal

pub returns-in-Fails : goal.returns-in-Fails
returns-in-Fails c q e =
    let F = tree_of c.args.rows.now in
    refused_gives (Adds F c.args.path.now) F q c.in-Fails.e c.refused-in-Fails.result c.refused-in-Fails.ensures
    (adds_by F c.args.path.now (Fails c.in-Fails.e) _ (sym c.is_root.ensures ∙ c.if-is_root.false) (sym (c.in-Fails.ensures ∙ ap (reach F) c.as_slice.ensures)) refl)

pub returns-in-Silent : goal.returns-in-Silent
returns-in-Silent c q e =
    let F = tree_of c.args.rows.now in
    adds_silent F c.args.path.now (sym c.is_root.ensures ∙ c.if-is_root.false) (sym (c.in-Silent.ensures ∙ ap (reach F) c.as_slice.ensures))

pub returns-in-Here : goal.returns-in-Here
returns-in-Here c q e =
    let F = tree_of c.args.rows.now in
    refused_gives (Adds F c.args.path.now) F q EEXIST c.refused-in-Here.result c.refused-in-Here.ensures
    (adds_by F c.args.path.now (Here _) _ (sym c.is_root.ensures ∙ c.if-is_root.false) (sym (c.in-Here.ensures ∙ ap (reach F) c.as_slice.ensures)) refl)
