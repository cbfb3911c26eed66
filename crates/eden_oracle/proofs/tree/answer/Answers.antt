use Rattle.std.proofs.Common.{subst, sym, IfOk, List, ℕ}
use Rattle.eden_model.specs.declared.request.Request.{Request}
use Rattle.eden_model.specs.declared.request.Request.TheVariants as ask
use Rattle.eden_oracle.specs.Changes.{Answers}
use Rattle.eden_oracle.specs.Rows.{tree_of}
use Rattle.eden_oracle.proofs.tree.answer.Goals as goal

pub returns-in-Read : goal.returns-in-Read
returns-in-Read c = subst (λ (q : Request). IfOk c.read.result (Answers (tree_of c.args.rows.now) q)) (sym c.in-Read.is) c.read.ensures

pub returns-in-List : goal.returns-in-List
returns-in-List c = subst (λ (q : Request). IfOk c.list.result (Answers (tree_of c.args.rows.now) q)) (sym c.in-List.is) c.list.ensures

pub returns-in-Truncate : goal.returns-in-Truncate
returns-in-Truncate c = subst (λ (q : Request). IfOk c.truncate.result (Answers (tree_of c.args.rows.now) q)) (sym c.in-Truncate.is) c.truncate.ensures

pub returns-in-Symlink : goal.returns-in-Symlink
returns-in-Symlink c = subst (λ (q : Request). IfOk c.symlink.result (Answers (tree_of c.args.rows.now) q)) (sym c.in-Symlink.is) c.symlink.ensures

pub returns-in-Rmdir : goal.returns-in-Rmdir
returns-in-Rmdir c = subst (λ (q : Request). Answers (tree_of c.args.rows.now) q c.rmdir.result) (sym c.in-Rmdir.is) c.rmdir.ensures

pub returns-in-Write : goal.returns-in-Write
returns-in-Write c =
    let F = tree_of c.args.rows.now in
    subst (λ (q : Request). IfOk c.write.result (Answers F q)) (sym c.in-Write.is)
    (subst (λ (bytes : List ℕ). IfOk c.write.result (Answers F (ask.Write c.in-Write.path c.in-Write.offset bytes))) c.as_slice.ensures c.write.ensures)

pub returns-in-Patch : goal.returns-in-Patch
returns-in-Patch c =
    let F = tree_of c.args.rows.now in
    subst (λ (q : Request). IfOk c.patch.result (Answers F q)) (sym c.in-Patch.is)
    (subst (λ (bytes : List ℕ). IfOk c.patch.result (Answers F (ask.Patch c.in-Patch.path c.in-Patch.offset bytes))) c.as_slice-in-Patch.ensures c.patch.ensures)
