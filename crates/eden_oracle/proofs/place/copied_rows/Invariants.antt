use Rattle.std.proofs.Common.{◌≡◌, take}
use Rattle.eden_oracle.proofs.place.copied_rows.Given as goal

abbrev pub invariant-loop-path : goal.invariant-loop-path
invariant-loop-path g l = l.all.items ≡ take l.path-index l.rows
