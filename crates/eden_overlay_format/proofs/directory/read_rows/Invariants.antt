use Rattle.std.proofs.Common.{◌≡◌, ◌-◌}
use Rattle.eden_overlay_format.specs.Reading.{rows_at}
use Rattle.eden_overlay_format.proofs.Loop.{with_front}
use Rattle.eden_overlay_format.proofs.directory.read_rows.Given as goal

abbrev pub invariant-loop : goal.invariant-loop
invariant-loop l = with_front l.rows.items (rows_at (l.count - l.counter) l.rest) ≡ rows_at l.count l.bytes
