use Rattle.eden_tree.specs.Places.{IsPlaceOf, IsGap}
use Rattle.eden_tree.proofs.RowLemmas.{key-at, find_row-gap}
use Rattle.eden_tree.proofs.dir.Dir.get_counted.Goals as goal

pub returns-in-Ok-clause-found : goal.returns-in-Ok-clause-found
returns-in-Ok-clause-found g c =
    let place : IsPlaceOf c.self.inside.items.items c.args.name.now c.in-Ok.i = rw (c.deref.ensures.value, c.in-Ok.is) at c.search-found.ensures.found in
    rw (← c.self.view_is) (key-at c.self.inside.items.items _ _ place)

pub returns-in-Err-clause-absent : goal.returns-in-Err-clause-absent
returns-in-Err-clause-absent g c =
    let gap : IsGap c.self.inside.items.items c.args.name.now c.in-Err.field-0 = rw (c.deref.ensures.value, c.in-Err.is) at c.search-found.ensures.absent in
    rw (← c.self.view_is) (find_row-gap c.self.inside.items.items _ _ c.self.invariant.rising gap)
