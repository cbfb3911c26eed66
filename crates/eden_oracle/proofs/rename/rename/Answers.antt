use Rattle.std.proofs.Common.{◌≡◌, ◌∙◌, ap, sym, subst, false}
use Rattle.std.specs.Prelude.{◌||◌}
use Rattle.eden_model.specs.declared.errno.Errno.TheVariants.{EBUSY}
use Rattle.eden_model.specs.declared.request.Request.TheVariants as ask
use Rattle.eden_oracle.specs.Changes.{Gives}
use Rattle.eden_model.specs.Operations.{At, Moves, after}
use Rattle.eden_model.specs.Paths.{is_root}
use Rattle.eden_oracle.specs.Rows.{tree_of}
use Rattle.eden_model.specs.Trees.{Path, reach}
use Rattle.eden_oracle.proofs.Answering.{past_test, here_gives}
use Rattle.eden_oracle.proofs.rename.rename.Goals as goal

pub returns-in-Here : goal.returns-in-Here
returns-in-Here c =
    let F = tree_of c.args.rows.now in
    let from = c.args.from.now in
    let to = c.args.to.now in
    let q = ask.Rename from to in
    let n = c.in-Here.node.now in
    let o = c.rename_node.result in
    let roots : (is_root from || is_root to) ≡ false =
    ap (λ b. b || is_root to) (sym c.is_root.ensures ∙ c.if-is_root.false) ∙ (sym c.is_root-else-is_root.ensures ∙ c.if-is_root-2.false) in
    past_test (At F from (Moves F from to)) F (after F q) o (is_root from || is_root to) EBUSY roots
    (here_gives F from n (Moves F from to) (after F q) o (sym (c.in-Here.ensures ∙ ap (reach F) c.as_slice.ensures))
    (subst (λ (x : Path). Gives (Moves F from x n) F (after F (ask.Rename from x)) o) c.as_slice-in-Here-2.ensures
    (subst (λ (x : Path). Gives (Moves F x c.as_slice-in-Here-2.result.now n) F (after F (ask.Rename x c.as_slice-in-Here-2.result.now)) o) c.as_slice-in-Here.ensures c.rename_node.ensures)))
