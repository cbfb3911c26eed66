use Rattle.std.proofs.Common.{◌≡◌, map, take, All}
use Rattle.eden_inode.specs.Filling.{IsNamed}
use Rattle.eden_inode.proofs.fill.named.Given as goal

abbrev pub invariant-loop-entry : goal.invariant-loop-entry
invariant-loop-entry l = (map (λ r. r.1.now) l.rows.items ≡ take l.entry-index l.entries) × All (λ r. IsNamed r.0.now r.1.now) l.rows.items
