use Rattle.std.proofs.Common.{take}
use Rattle.eden_oracle.proofs.Listings.{NoChildren}
use Rattle.eden_oracle.proofs.remove.is_empty.Given as goal

-- no row so far is a child
abbrev pub invariant-loop-row : goal.invariant-loop-row
invariant-loop-row l = NoChildren (take l.row-index l.rows) l.dir
