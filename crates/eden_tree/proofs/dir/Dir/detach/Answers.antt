use Rattle.std.proofs.Common.{None, ap, sym, ◌∙◌}
use Rattle.std.specs.Option.{option_map, option_and_then}
use Rattle.eden_tree.specs.Directory.{child_of, with_child}
use Rattle.eden_tree.specs.Rows.{set_row}
use Rattle.eden_tree.specs.Seen.{directory_from, row_from}
use Rattle.eden_tree.proofs.Children.{held}
use Rattle.eden_tree.proofs.RowLemmas.{change_row-found, change_row-absent}
use Rattle.eden_tree.proofs.dir.Dir.detach.Goals as goal

pub returns-in-Some-clause-taken : goal.returns-in-Some-clause-taken
returns-in-Some-clause-taken g c =
    ap (option_map (λ b. b.value)) c.take.ensures.value
    ∙ sym (ap (option_and_then child_of) (sym c.in-Some.ensures.value) ∙ held _ _ _ c.there.inside.child _ c.there.view_is)

pub returns-in-Some-clause-left : goal.returns-in-Some-clause-left
returns-in-Some-clause-left g c =
    let name = c.args.name.now in
    let rows = c.args.self.now.rows in
    ap (directory_from c.args.self.now.stamp c.args.self.now.unsaved)
    (ap (λ o. set_row name (row_from c.there.inside.number c.there.inside.kind c.there.inside.origin o) rows) c.take.ensures.after
    ∙ ap (λ x. set_row name (with_child None x) rows) c.there.view_is
    ∙ sym (change_row-found name (with_child None) c.in-Some.there.now rows (sym c.in-Some.ensures.value)))

pub returns-in-None-clause-left : goal.returns-in-None-clause-left
returns-in-None-clause-left g c = ap (directory_from c.args.self.now.stamp c.args.self.now.unsaved)
    (sym (change_row-absent c.args.name.now (with_child None) c.args.self.now.rows (sym c.in-None.ensures.value)))
