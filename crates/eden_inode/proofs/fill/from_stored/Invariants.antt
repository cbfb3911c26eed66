use Rattle.std.proofs.Common.{◌≡◌, false}
use Rattle.eden_inode.specs.Filling.{rows_stored}
use Rattle.eden_inode.proofs.fill.from_stored.Given as goal

-- what was taken is in, in order
abbrev pub invariant-loop-row : goal.invariant-loop-row
invariant-loop-row g l = l.dir ≡ record { stamp = l.clock; unsaved = false; rows = rows_stored l.yielded }
