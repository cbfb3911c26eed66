use Rattle.std.proofs.Common.{◌≡◌, ◌++◌, List, length}
use Rattle.eden_overlay_format.specs.declared.stored_entry.StoredEntry.{StoredEntry}
use Rattle.eden_model.specs.Trees.{Name}
use Rattle.eden_snapshot.specs.Rows.{beside, row_in, stored_named}
use Rattle.eden_snapshot.proofs.rows.put_all_new.Given as goal

abbrev pub decreases-entries : goal.decreases-entries
decreases-entries l = length l.entries.items

-- the last ones are put
abbrev pub invariant-entries : goal.invariant-entries
invariant-entries l =
    (put : List StoredEntry) × ((l.fn.entries.items ≡ l.entries.items ++ put)
    × ((n : Name) → row_in l.rows.entries n ≡ beside (row_in l.fn.rows.entries n) (stored_named n put)))
