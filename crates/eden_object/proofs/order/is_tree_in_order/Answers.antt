use Rattle.std.proofs.Common.{◌≡◌, ◌≤◌, List, length, slice_index, slice_index_or, false, sym, subst, arith}
use Rattle.eden_model.specs.declared.tree_entry.TreeEntry.{TreeEntry}
use Rattle.eden_object.specs.Order.{key_of}
use Rattle.eden_object.specs.Rows.{entry_of}
use Rattle.eden_object.specs.Trees.{AreEntries, NamesDiffer}
use Rattle.eden_object.proofs.RowLemmas.{entries_behind, entries_end, no_entries, name_short}
use Rattle.eden_object.proofs.OrderLemmas.{IsStep, Shares, StandsFor, marks_start, stands_start, stands_next, marks_on, step_on, comes_again, not_below}
use Rattle.eden_object.proofs.order.is_tree_in_order.Goals as goal
use Rattle.eden_object.proofs.order.is_tree_in_order.Goals.{else-shared-row-via-then-shared-row+else-fronts-shared, else-shared-row-via-else-shared-row}

pub returns-in_default-clause-found : goal.returns-in_default-clause-found
returns-in_default-clause-found c =
    let ends = entries_end c.args.body.now c.is_empty.result c.is_empty.ensures c.in_default.ensures in
    let differ = λ (es : List TreeEntry) (h : AreEntries es c.args.body.now). subst NamesDiffer (sym (no_entries es c.args.body.now c.in_default.ensures h)) tt in
    ((λ t. let found = ends.0 t in (found.0, record { entries = found.1; differ = differ found.0 found.1 })), (λ h. ends.1 (h.0, h.1.entries)))

pub rows-init : goal.rows-init
rows-init c =
    let short = name_short c.in-Some.first.name.now c.in-Some.ensures.entry.name in
    record {
      whole = entries_behind (entry_of c.in-Some.first) c.args.body.now c.in-Some.behind.now c.in-Some.ensures;
      good = c.in-Some.ensures.entry.name;
      marks = marks_start (length c.in-Some.first.name.now) short;
      stands = stands_start (entry_of c.in-Some.first) c.args.body.now c.in-Some.behind.now short c.in-Some.ensures;
    }

pub returns-then-fronts-shared-clause-found : goal.returns-then-fronts-shared-clause-found
returns-then-fronts-shared-clause-found c =
    let last = entry_of c.rows.last in
    let next = entry_of c.in-Some-first_row.row in
    let lens = c.shared_len-shared.ensures in
    let first = c.if-shared-row.true in (
      (λ e. cc),
      (λ t.
          let at = stands_next c.rows.fronts last next c.args.body.now _ _ c.rows.invariant.stands c.in-Some-first_row.ensures t.0 t.1.entries in
          absurd (comes_again c.rows.fronts last next c.shared_len-shared.result t.0 at.0 at.2 lens.first first lens.same c.if-fronts-shared.true t.1.differ)),
    )

pub rows-preserved : goal.rows-preserved
rows-preserved c =
    let last = entry_of c.rows.last in
    let next = entry_of c.in-Some-first_row.row in
    let shared = c.shared_len-shared.result in
    let behind = entries_behind next c.rows.rest.now c.in-Some-first_row.more.now c.in-Some-first_row.ensures in
    let step : IsStep c.rows.fronts c.mark_fronts.new.fronts last next shared = record {
      marks = c.rows.invariant.marks;
      good = c.in-Some-first_row.ensures.entry.name;
      first = c.shared_len-shared.ensures.first;
      second = c.shared_len-shared.ensures.second;
      same = c.shared_len-shared.ensures.same;
      smaller = let before = c.key_byte.ensures in let after = c.key_byte-in-Some-first_row.ensures in let less = c.if-key_byte.false in omega arith;
      size = c.mark_fronts.auto.fronts;
      own = c.mark_fronts.ensures.own;
      kept = c.mark_fronts.ensures.kept;
      others = c.mark_fronts.ensures.others;
      above = c.mark_fronts.ensures.above;
    } in
    record {
      whole = ((λ h. c.rows.invariant.whole.0 (behind.0 h)), (λ h. behind.1 (c.rows.invariant.whole.1 h)));
      good = c.in-Some-first_row.ensures.entry.name;
      marks = marks_on c.rows.fronts c.mark_fronts.new.fronts last next shared step;
      stands = λ es h.
          let at = stands_next c.rows.fronts last next c.args.body.now _ _ c.rows.invariant.stands c.in-Some-first_row.ensures es h in
          let unmarked : shared ≡ length next.name → slice_index_or c.rows.fronts shared false ≡ false = λ whole. elim c.else-shared-row.branch [
            | else-shared-row-via-then-shared-row+else-fronts-shared w ↦ w.if-fronts-shared.false
            | else-shared-row-via-else-shared-row w ↦ absurd (w.if-shared-row.false whole)
          ] in
          (at.0, at.1, step_on c.rows.fronts c.mark_fronts.new.fronts last next shared step unmarked es at.0 at.2);
    }

pub returns-clause-found : goal.returns-clause-found
returns-clause-found c =
    let last = entry_of c.rows.last in
    let ends = entries_end c.rows.rest.now c.is_empty-2.result c.is_empty-2.ensures c.in_default-first_row.ensures in
    let differ = λ (es : List TreeEntry) (h : AreEntries es c.args.body.now).
    let at = c.rows.invariant.stands es h in
    let stands = subst (λ fs. StandsFor c.rows.fronts last es fs) (no_entries at.0 c.rows.rest.now c.in_default-first_row.ensures at.1) at.2 in
    stands.enough (tt, tt) (record { free = λ n m. tt; differ = tt }) in (
      (λ t. let found = c.rows.invariant.whole.0 (ends.0 t) in (found.0, record { entries = found.1; differ = differ found.0 found.1 })),
      (λ h. ends.1 (c.rows.invariant.whole.1 (h.0, h.1.entries))),
    )

pub returns-then-key_byte-clause-none : goal.returns-then-key_byte-clause-none
returns-then-key_byte-clause-none c = λ es h o.
    let last = entry_of c.rows.last in
    let next = entry_of c.in-Some-first_row.row in
    let lens = c.shared_len-shared.ensures in
    let at = stands_next c.rows.fronts last next c.args.body.now _ _ c.rows.invariant.stands c.in-Some-first_row.ensures es h in
    let n = c.shared_len-shared.result in
    let above : slice_index (key_of next) n ≤ slice_index
    (key_of last) n = let before = c.key_byte.ensures in let after = c.key_byte-in-Some-first_row.ensures in let less = c.if-key_byte.true in omega arith in
    let shares : Shares last.name next.name c.shared_len-shared.result = record { first = lens.first; second = lens.second; same = lens.same; most = lens.most } in
    not_below last next c.shared_len-shared.result c.rows.invariant.good c.in-Some-first_row.ensures.entry.name shares above (at.2.order o).0
