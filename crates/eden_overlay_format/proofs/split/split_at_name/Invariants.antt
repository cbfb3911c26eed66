use Rattle.eden_overlay_format.specs.Listing.{entries_read}
use Rattle.eden_overlay_format.proofs.Passing.{IsPassed}
use Rattle.eden_overlay_format.proofs.split.split_at_name.Given as goal

abbrev pub invariant-loop : goal.invariant-loop
invariant-loop l = IsPassed l.name (entries_read l.count l.rows) l.count l.counter l.rows l.rest
