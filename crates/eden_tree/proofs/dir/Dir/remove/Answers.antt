use Rattle.std.proofs.Common.{ap, sym, ◌∙◌}
use Rattle.eden_tree.specs.Seen.{directory_from}
use Rattle.eden_tree.proofs.RowLemmas.{remove-at, find_row-gap, found_here, drop_row-absent, AreRows-drop_row}
use Rattle.eden_tree.proofs.dir.Dir.remove.Goals as goal

pub invariant_of-self : goal.invariant_of-self
invariant_of-self g c =
    let place = rw c.deref.ensures.value at c.in-Ok.ensures.found in
    rw (c.remove-entry.ensures.items, remove-at c.self.inside.items.items c.args.name.now _ c.self.invariant.rising place) (AreRows-drop_row _ _ c.self.invariant)

pub returns-in-Ok-clause-taken : goal.returns-in-Ok-clause-taken
returns-in-Ok-clause-taken g c = rw (← c.self.view_is)
    (sym (found_here c.self.inside.items.items _ _ c.remove-entry.result c.self.invariant (rw c.deref.ensures.value at c.in-Ok.ensures.found) c.remove-entry.ensures.value))

pub returns-in-Ok-clause-left : goal.returns-in-Ok-clause-left
returns-in-Ok-clause-left g c =
    let place = rw c.deref.ensures.value at c.in-Ok.ensures.found in
    rw (← c.self.view_is) (ap (directory_from c.self.inside.stamp c.self.inside.unsaved)
    (c.remove-entry.ensures.items ∙ remove-at c.self.inside.items.items c.args.name.now _ c.self.invariant.rising place))

pub returns-in-Err-clause-taken : goal.returns-in-Err-clause-taken
returns-in-Err-clause-taken g c = rw (← c.self.view_is) (sym (find_row-gap c.self.inside.items.items _ _ c.self.invariant.rising (rw c.deref.ensures.value at c.in-Err.ensures.absent)))

pub returns-in-Err-clause-left : goal.returns-in-Err-clause-left
returns-in-Err-clause-left g c =
    let none = find_row-gap c.self.inside.items.items _ _ c.self.invariant.rising (rw c.deref.ensures.value at c.in-Err.ensures.absent) in
    rw (← c.self.view_is) (ap (directory_from c.self.inside.stamp c.self.inside.unsaved) (sym (drop_row-absent c.args.name.now c.self.inside.items.items none)))
