use Rattle.std.proofs.Common.{◌≡◌, Some, None, sym, ap, ◌∙◌}
use Rattle.eden_model.specs.Trees.{Path}
use Rattle.eden_tree.specs.Directory.{Directory, child_of}
use Rattle.eden_tree.specs.Rows.{find_row}
use Rattle.eden_tree.specs.Paths.{row_at}
use Rattle.eden_tree.proofs.Children.{held_some}
use Rattle.eden_tree.proofs.Edits.{steps_down, row_at-absent}
use Rattle.eden_tree.proofs.dir.Entry.+walk.Goals as goal

pub returns-in-None-get : goal.returns-in-None-get
returns-in-None-get g t c =
    let x = c.args.self.now in
    let n = c.in-Some.name.now in
    let d = c.in-Some-child.child.value in
    let holds : child_of x ≡ Some d = held_some _ _ _ _ _ c.self.view_is c.in-Some-child.child c.in-Some-child.is in
    let absent : find_row n d.rows ≡ None = ap (λ (e : Directory). find_row n e.rows) (sym c.deref.ensures) ∙ sym c.in-None-get.ensures in
    sym (ap (λ (p : Path). row_at p x) c.in-Some.ensures.cases.0 ∙ row_at-absent n c.in-Some.rest.now x d holds absent)

pub returns-in-Some-get : goal.returns-in-Some-get
returns-in-Some-get g t c =
    let x = c.args.self.now in
    let n = c.in-Some.name.now in
    let p = c.in-Some.rest.now in
    let d = c.in-Some-child.child.value in
    let y = c.in-Some-get.entry.now in
    let holds : child_of x ≡ Some d = held_some _ _ _ _ _ c.self.view_is c.in-Some-child.child c.in-Some-child.is in
    let there : find_row n d.rows ≡ Some y = ap (λ (e : Directory). find_row n e.rows) (sym c.deref.ensures) ∙ sym c.in-Some-get.ensures in
    c.walk.ensures ∙ sym (ap (λ (q : Path). row_at q x) c.in-Some.ensures.cases.0 ∙ steps_down n p x y d holds there)
