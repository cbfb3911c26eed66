use Rattle.eden_object.specs.Rows.{entry_of}
use Rattle.eden_object.proofs.RowLemmas.{entries_behind, entries_end}
use Rattle.eden_object.proofs.rows.has_entries.Goals as goal

pub rows-preserved : goal.rows-preserved
rows-preserved c =
    let behind = entries_behind (entry_of c.in-Some.field-0-0) c.rows.rest.now c.in-Some.more.now c.in-Some.ensures in
    ((λ h. c.rows.invariant.0 (behind.0 h)), (λ h. behind.1 (c.rows.invariant.1 h)))

pub returns : goal.returns
returns c =
    let ends = entries_end c.rows.rest.now c.is_empty.result c.is_empty.ensures c.in_default.ensures in
    ((λ t. c.rows.invariant.0 (ends.0 t)), (λ h. ends.1 (c.rows.invariant.1 h)))
