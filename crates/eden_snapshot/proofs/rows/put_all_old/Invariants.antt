use Rattle.std.proofs.Common.{◌≡◌, ◌++◌, List, length}
use Rattle.eden_model.specs.declared.tree_entry.TreeEntry.{TreeEntry}
use Rattle.eden_model.specs.Trees.{Name}
use Rattle.eden_snapshot.specs.Commits.{place_named}
use Rattle.eden_snapshot.specs.Rows.{over_all, row_in}
use Rattle.eden_snapshot.proofs.rows.put_all_old.Given as goal

abbrev pub decreases-entries : goal.decreases-entries
decreases-entries l = length l.entries.items

-- the last ones are put
abbrev pub invariant-entries : goal.invariant-entries
invariant-entries l =
    (put : List TreeEntry) × ((l.fn.entries.items ≡ l.entries.items ++ put)
    × ((n : Name) → row_in l.rows.entries n ≡ over_all (row_in l.fn.rows.entries n) (place_named n put)))
