use Rattle.std.proofs.Common.{Some, ap, sym, ◌∙◌}
use Rattle.eden_tree.specs.Directory.{with_child}
use Rattle.eden_tree.specs.Rows.{set_row}
use Rattle.eden_tree.specs.Seen.{directory_from}
use Rattle.eden_tree.proofs.RowLemmas.{change_row-found}
use Rattle.eden_tree.proofs.dir.Dir.attach.Goals as goal

pub returns : goal.returns
returns g c =
    let rows = c.args.self.now.rows in
    let put = with_child (Some c.args.child.value) in
    ap (directory_from c.args.self.now.stamp c.args.self.now.unsaved)
    (ap (λ x. set_row c.args.name.now (put x) rows) c.there.view_is ∙ sym (change_row-found c.args.name.now put c.in-Some.there.now rows (sym c.in-Some.ensures.value)))
