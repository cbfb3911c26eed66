use Rattle.std.proofs.Common.{◌↔◌, length}
use Rattle.eden_object.specs.Rows.{HasEntries}
use Rattle.eden_object.proofs.rows.has_entries.Given as goal

abbrev pub invariant-rows : goal.invariant-rows
invariant-rows l = HasEntries l.rest ↔ HasEntries l.body

abbrev pub decreases-rows : goal.decreases-rows
decreases-rows l = length l.rest
