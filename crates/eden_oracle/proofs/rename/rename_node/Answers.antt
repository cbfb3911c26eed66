use Rattle.std.proofs.Common.{◌∙◌, sym, subst, refl}
use Rattle.eden_model.specs.declared.errno.Errno.TheVariants.{ENOTEMPTY}
use Rattle.eden_model.specs.declared.reply.Reply.{Reply}
use Rattle.eden_model.specs.declared.reply.Reply.TheVariants as say
use Rattle.eden_model.specs.declared.request.Request.TheVariants as ask
use Rattle.eden_model.specs.Operations.{Moves, is_dir}
use Rattle.eden_oracle.specs.Rows.{tree_of}
use Rattle.eden_oracle.proofs.Answering.{refused_gives, moves_refused, moves_is}
use Rattle.eden_oracle.proofs.rename.rename_node.Goals as goal

pub returns-then-is_front : goal.returns-then-is_front
returns-then-is_front c =
    let F = tree_of c.args.rows.now in
    let from = c.args.from.now in
    let to = c.args.to.now in
    let n = c.args.node.now in
    refused_gives (Moves F from to n) F (ask.Rename from to) ENOTEMPTY c.refused-then-is_front.result c.refused-then-is_front.ensures
    (moves_refused F from to n (is_dir n) refl (sym c.eq.ensures ∙ c.if-eq.false) (sym c.goes_inside.ensures ∙ c.if-goes_inside.false) (sym c.is_front.ensures ∙ c.if-is_front.true))

pub returns-in-Stays : goal.returns-in-Stays
returns-in-Stays c =
    let F = tree_of c.args.rows.now in
    let from = c.args.from.now in
    let to = c.args.to.now in
    let n = c.args.node.now in
    refused_gives (Moves F from to n) F (ask.Rename from to) c.in-Stays.e c.refused-in-Stays.result c.refused-in-Stays.ensures
    (subst (λ (P : Reply → Type 0). P (say.Err c.in-Stays.e))
    (moves_is F from to n c.is_dir.result c.is_dir.ensures (sym c.eq.ensures ∙ c.if-eq.false) (sym c.goes_inside.ensures ∙ c.if-goes_inside.false) (sym c.is_front.ensures ∙ c.if-is_front.false))
    c.in-Stays.ensures)

pub returns-in-Silent : goal.returns-in-Silent
returns-in-Silent c r h =
    let F = tree_of c.args.rows.now in
    let from = c.args.from.now in
    let to = c.args.to.now in
    c.in-Silent.ensures r
    (subst (λ (P : Reply → Type 0). P r)
    (sym (moves_is F from to c.args.node.now c.is_dir.result c.is_dir.ensures (sym c.eq.ensures ∙ c.if-eq.false) (sym c.goes_inside.ensures ∙ c.if-goes_inside.false)
    (sym c.is_front.ensures ∙ c.if-is_front.false)))
    h)
