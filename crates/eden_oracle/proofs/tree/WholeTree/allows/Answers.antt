use Rattle.std.proofs.Common.{◌≡◌, ap, subst, ◌∙◌, List, Option, Some}
use Rattle.eden_model.specs.declared.node.Node.{Node}
use Rattle.eden_model.specs.declared.reply.Reply.{Reply}
use Rattle.eden_model.specs.Trees.{Path}
use Rattle.eden_oracle.specs.declared.change.Change.{Change}
use Rattle.eden_oracle.specs.Changes.{Answers}
use Rattle.eden_oracle.specs.Rows.{tree_of}
use Rattle.eden_oracle.specs.Tables.{May, Table}
use Rattle.eden_oracle.proofs.Told.{goes_as}
use Rattle.eden_oracle.proofs.tree.WholeTree.allows.Goals as goal

pub go_on-requires-clause-change : goal.go_on-requires-clause-change
go_on-requires-clause-change c =
    let q = c.args.request.now in
    let a : Option (Reply × Change) = Some (c.in-Some.told, c.in-Some.change) in
    let rows : c.self.inside.rows.items ≡ c.args.self.now.rows = ap (λ (t : Table). t.rows) c.self.view_is in
    let told : Answers (tree_of c.args.self.now.rows) q a =
    subst (λ (x : List (Path × Node)). Answers (tree_of x) q a) (c.as_slice.ensures.value ∙ rows)
    (subst (Answers (tree_of c.as_slice.result.now) q) c.in-Some.is c.in_ok-answer.ensures) in
    let may : May c.args.self.now q c.args.reply.now = (c.may.ensures told.0).0 (search (c.if-not-may.false, c.if-not-may.ensures)) in
    goes_as c.table_laws.ensures.one_reply (tree_of c.args.self.now.rows) q c.in-Some.told c.in-Some.change told c.args.reply.now may.0
