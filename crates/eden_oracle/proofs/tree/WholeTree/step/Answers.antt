use Rattle.std.proofs.Common.{◌≡◌, ap, subst, sym, ◌∙◌, List, Option, Some}
use Rattle.eden_model.specs.declared.node.Node.{Node}
use Rattle.eden_model.specs.declared.reply.Reply.{Reply}
use Rattle.eden_model.specs.Numbers.{AllowsStat, stat_number}
use Rattle.eden_model.specs.Trees.{Path}
use Rattle.eden_oracle.specs.declared.change.Change.{Change}
use Rattle.eden_oracle.specs.Changes.{Answers}
use Rattle.eden_oracle.specs.Numbers.{numbers_of}
use Rattle.eden_oracle.specs.Rows.{tree_of}
use Rattle.eden_oracle.specs.Tables.{Table}
use Rattle.eden_oracle.proofs.Told.{may_go}
use Rattle.eden_oracle.proofs.tree.WholeTree.step.Goals as goal

pub go_on-requires-clause-may : goal.go_on-requires-clause-may
go_on-requires-clause-may c =
    let q = c.args.request.now in
    let a : Option (Reply × Change) = Some (c.in-Some.reply, c.in-Some.change) in
    let rows : c.self.inside.rows.items ≡ c.args.self.now.rows = ap (λ (t : Table). t.rows) c.self.view_is in
    let told : Answers (tree_of c.args.self.now.rows) q a =
    subst (λ (x : List (Path × Node)). Answers (tree_of x) q a) (c.as_slice.ensures.value ∙ rows)
    (subst (Answers (tree_of c.as_slice.result.now) q) c.in-Some.is c.in_ok-answer.ensures) in
    let filled = c.in-Some-fill.ensures in
    let number : AllowsStat (numbers_of c.args.self.now.numbers) (stat_number q c.in-Some-fill.reply) =
    subst (λ (t : Table). AllowsStat (numbers_of t.numbers) (stat_number q c.in-Some-fill.reply)) c.self.view_is filled.1 in
    ((may_go (tree_of c.args.self.now.rows) q c.in-Some.reply c.in-Some.change told c.in-Some-fill.reply (sym filled.0)).0, number)
