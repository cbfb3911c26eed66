use Rattle.std.proofs.Common.{◌≡◌, ◌+◌, false, length, ap, ◌∙◌, arith}
use Rattle.std.proofs.lemmas.List as lists
use Rattle.eden_model.specs.Trees.{Name}
use Rattle.eden_tree.specs.Directory.{Row, Directory}
use Rattle.eden_tree.specs.Rows.{put_row}
use Rattle.eden_tree.proofs.CallerLemmas.{length-put_row}
use Rattle.eden_inode.specs.Filling.{row_by}
use Rattle.eden_inode.proofs.Filled.{all, length_all, next_in}
use Rattle.eden_inode.proofs.fill.fill.Goals as goal

pub loop-entry-preserved : goal.loop-entry-preserved
loop-entry-preserved g c =
    let xs = c.args.rows.now in
    let i = c.loop-entry.entry-index in
    let r = c.loop-entry-item.result in
    let e = r.1.now in
    let d = c.loop-entry.dir in
    let rows = all (λ r. r.1.now) xs c.args.next in
    let put = c.in-Ok.ensures.ok in
    let entry : c.entry_by.result ≡ row_by (c.args.next + i) e = c.entry_by.ensures ∙ ap (λ k. row_by k e) c.loop-entry.invariant.given in
    let size = length-put_row c.in_ok-copy.field-0 c.entry_by.result d.rows in
    let longer = ap (λ (a : Directory). length a.rows) put in
    let room = c.in-Ok.ensures.room in
    record {
      filled = put
          ∙ ap (λ (n : Name). record d { rows = put_row n c.entry_by.result d.rows }) c.in_ok-copy.ensures
          ∙ ap (λ (x : Row). record d { rows = put_row e.name x d.rows }) entry
          ∙ ap (λ (a : Directory). record a { rows = put_row e.name (row_by (c.args.next + i) e) a.rows }) c.loop-entry.invariant.filled
          ∙ ap (λ l. record { stamp = c.args.clock; unsaved = false; rows = l }) (next_in (λ r. r.1.now) xs c.args.next c.requires.rising i r c.loop-entry-test.true c.loop-entry-item.is);
      given = omega (arith, c.loop-entry.invariant.given);
      few = omega (arith, longer, size, room);
    }

pub returns-clause-ok : goal.returns-clause-ok
returns-clause-ok g c =
    let xs = c.args.rows.now in
    let rows = all (λ r. r.1.now) xs c.args.next in
    let size = length_all (λ r. r.1.now) xs c.args.next in
    c.loop-entry.invariant.filled ∙ ap (λ l. record { stamp = c.args.clock; unsaved = false; rows = l }) (lists.take_all c.loop-entry.entry-index rows (omega (arith, size, c.loop-entry-test.false)))
