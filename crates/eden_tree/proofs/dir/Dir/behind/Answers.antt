use Rattle.eden_tree.specs.Places.{IsPlaceOf, IsGap}
use Rattle.eden_tree.proofs.Behind.{behind_at, behind_gap}
use Rattle.eden_tree.proofs.dir.Dir.behind.Goals as goal

pub returns-in-Ok-clause-greater : goal.returns-in-Ok-clause-greater
returns-in-Ok-clause-greater g c =
    let at : IsPlaceOf c.self.inside.items.items c.args.name.now c.in-Ok.i = rw c.deref.ensures.value at c.in-Ok.ensures.found in
    rw (← c.self.view_is) (behind_at c.self.inside.items.items c.args.name.now c.in-Ok.i c.self.invariant.rising at)

pub returns-in-Err-clause-greater : goal.returns-in-Err-clause-greater
returns-in-Err-clause-greater g c =
    let gap : IsGap c.self.inside.items.items c.args.name.now c.in-Err.i = rw c.deref.ensures.value at c.in-Err.ensures.absent in
    rw (← c.self.view_is) (behind_gap c.self.inside.items.items c.args.name.now c.in-Err.i gap)
