use Rattle.std.proofs.Common.{false, map, sym, ap, ◌∙◌, subst}
use Rattle.std.proofs.lemmas.List.{map-id}
use Rattle.std.proofs.lemmas.Iterator.Adapters.{YieldsList-from_vec}
use Rattle.std.proofs.lemmas.Iterator.Consumers.{YieldsList-so_far, YieldsList-turn, YieldsList-end}
use Rattle.eden_tree.specs.Directory.{Directory}
use Rattle.eden_tree.specs.Rows.{put_row}
use Rattle.eden_coupling.specs.Listings.{stored_entry}
use Rattle.eden_coupling.specs.Loading.{AreUnloaded}
use Rattle.eden_inode.specs.Filling.{row_stored}
use Rattle.eden_inode.proofs.Filled.{stored_in, stored_again, stored_unloaded}
use Rattle.eden_inode.proofs.fill.from_stored.Goals as goal

pub loop-row-preserved : goal.loop-row-preserved
loop-row-preserved g c =
    let items = c.args.entries.items in
    let yielded = c.loop-row.yielded in
    let e = c.in-Some.row in
    let d = c.loop-row.dir in
    let given = c.into_iter-row-iterator.ensures.into_iter_gives in
    let all = YieldsList-from_vec {s = c.into_iter-row-iterator.result} items given.0 (given.1 ∙ c.args.entries.ok.0) in
    let front = sym (map-id yielded) ∙ YieldsList-so_far all yielded c.loop-row.row-iterator c.loop-row.yielded_by in
    let turn = YieldsList-turn all yielded c.loop-row.row-iterator c.loop-row.yielded_by c.next.result c.next.new.self e c.in-Some.is c.next.ensures.steps in
    c.in-Ok.ensures.ok
    ∙ ap (λ (a : Directory). record a { rows = put_row e.name (row_stored e).1 a.rows }) c.loop-row.invariant
    ∙ ap (λ l. record { stamp = c.args.clock; unsaved = false; rows = l }) (stored_in items yielded e c.requires.rising front turn.0 turn.1)

pub returns-clause-new : goal.returns-clause-new
returns-clause-new g c =
    let is = c.loop-row.invariant in record {
      stamp = ap (λ (a : Directory). a.stamp) is;
      saved = ap (λ (a : Directory). a.unsaved) is;
      unloaded = subst AreUnloaded (sym (ap (λ (a : Directory). a.rows) is)) (stored_unloaded c.loop-row.yielded);
    }

pub returns-clause-listed : goal.returns-clause-listed
returns-clause-listed g c =
    let items = c.args.entries.items in
    let yielded = c.loop-row.yielded in
    let given = c.into_iter-row-iterator.ensures.into_iter_gives in
    let all = YieldsList-from_vec {s = c.into_iter-row-iterator.result} items given.0 (given.1 ∙ c.args.entries.ok.0) in
    let last = YieldsList-end all yielded c.loop-row.row-iterator c.loop-row.yielded_by c.next.result c.next.new.self c.in-None.is c.next.ensures.steps in
    ap (λ (a : Directory). map stored_entry a.rows) c.loop-row.invariant ∙ stored_again yielded ∙ (sym (map-id yielded) ∙ last.0)
