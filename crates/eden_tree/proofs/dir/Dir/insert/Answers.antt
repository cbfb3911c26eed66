use Rattle.std.proofs.Common.{◌<◌, length, ap, arith}
use Rattle.eden_tree.specs.Seen.{directory_from}
use Rattle.eden_tree.proofs.RowLemmas.{insert-gap, find_row-gap, AreRows-put_row}
use Rattle.eden_tree.proofs.dir.Dir.insert.Goals as goal
use Rattle.eden_tree.proofs.dir.Dir.insert.Goals.{in-Ok-insert, in-Err-insert}

pub invariant_of-self : goal.invariant_of-self
invariant_of-self g c =
    let es = c.self.inside.items.items in
    let gap = rw c.deref.ensures.value at c.in-Err.ensures.absent in
    let room : length es < 4294967295 = omega (arith, c.self.inside.items.ok.0) in
    elim c.match-insert.branch [
      | in-Ok-insert w ↦ rw (c.insert.ensures.items, w.in-Ok-insert.is, insert-gap es c.args.name c.args.entry _ gap)
          (AreRows-put_row c.args.name c.args.entry es (find_row-gap es _ _ c.self.invariant.rising gap) room c.self.invariant)
      | in-Err-insert w ↦ rw (c.insert.ensures.items, w.in-Err-insert.is) c.self.invariant
    ]

pub returns-after-insert-clause-absent : goal.returns-after-insert-clause-absent
returns-after-insert-clause-absent g c =
    let gap = rw c.deref.ensures.value at c.in-Err.ensures.absent in
    elim c.match-insert.branch [
      | in-Ok-insert w ↦ rw (w.result-is, ← c.self.view_is) (find_row-gap c.self.inside.items.items _ _ c.self.invariant.rising gap)
      | in-Err-insert w ↦ rw w.result-is tt
    ]

pub returns-after-insert-clause-ok : goal.returns-after-insert-clause-ok
returns-after-insert-clause-ok g c =
    let gap = rw c.deref.ensures.value at c.in-Err.ensures.absent in
    elim c.match-insert.branch [
      | in-Ok-insert w ↦ rw (w.result-is, c.insert.ensures.items, w.in-Ok-insert.is, ← c.self.view_is)
          (ap (directory_from c.self.inside.stamp c.self.inside.unsaved) (insert-gap c.self.inside.items.items c.args.name c.args.entry _ gap))
      | in-Err-insert w ↦ rw w.result-is tt
    ]
