use Rattle.std.proofs.Common.{sym}
use Rattle.eden_tree.proofs.RowLemmas.{found_here, find_row-gap}
use Rattle.eden_tree.proofs.dir.Dir.get.Goals as goal

pub returns-in-Ok : goal.returns-in-Ok
returns-in-Ok g c = rw (← c.self.view_is) (sym (found_here c.self.inside.items.items _ _ c.index.result.now c.self.invariant (rw c.deref.ensures.value at c.in-Ok.ensures.found) c.index.ensures))

pub returns-in-Err : goal.returns-in-Err
returns-in-Err g c = rw (← c.self.view_is) (sym (find_row-gap c.self.inside.items.items _ _ c.self.invariant.rising (rw c.deref.ensures.value at c.in-Err.ensures.absent)))
