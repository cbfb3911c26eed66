use Rattle.std.proofs.Common.{ap, sym, ◌∙◌, inl, inr}
use Rattle.eden_tree.specs.Directory.{Directory}
use Rattle.eden_tree.specs.Rows.{set_row}
use Rattle.eden_tree.specs.Seen.{directory_from}
use Rattle.eden_tree.proofs.RowLemmas.{find_row-gap, found_here, set_here, rows_here}
use Rattle.eden_tree.proofs.dir.Dir.get_mut.Goals as goal

pub invariant_of-self-lent : goal.invariant_of-self-lent
invariant_of-self-lent g c w = rows_here c.self.inside.items.items c.args.name.now c.in-Ok.i c.index_mut.result.now c.self.invariant
    (rw c.deref.ensures.value at c.in-Ok.ensures.found) c.index_mut.ensures.value w

pub returns-in-Ok : goal.returns-in-Ok
returns-in-Ok g c =
    let place = rw c.deref.ensures.value at c.in-Ok.ensures.found in
    let es = c.self.inside.items.items in
    let after = set_here es c.args.name.now c.in-Ok.i c.index_mut.result.now c.self.invariant place c.index_mut.ensures.value in
    let there = found_here es c.args.name.now c.in-Ok.i c.index_mut.result.now c.self.invariant place c.index_mut.ensures.value in (
      λ k. inl (
        c.self-in-Ok-1.given,
        λ w.
            (ap (directory_from c.self.inside.stamp c.self.inside.unsaved) (after w) ∙ ap (λ (d : Directory). record d { rows = set_row c.args.name.now w d.rows }) c.self.view_is) k,
      ),
      record { writes_back = tt; value = rw (← c.self.view_is) (sym there) },
    )

pub returns-in-Err : goal.returns-in-Err
returns-in-Err g c =
    let gap = rw c.deref.ensures.value at c.in-Err.ensures.absent in
    (ap inr c.self.view_is, record { writes_back = tt; value = rw (← c.self.view_is) (sym (find_row-gap c.self.inside.items.items c.args.name.now _ c.self.invariant.rising gap)) })
