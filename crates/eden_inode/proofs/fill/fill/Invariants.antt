use Rattle.std.proofs.Common.{◌≡◌, ◌+◌, ◌<◌, ◌^◌, map, take, length, false}
use Rattle.eden_inode.specs.Filling.{numbered}
use Rattle.eden_inode.proofs.fill.fill.Given as goal

-- the first rows are in, in order
abbrev pub invariant-loop-entry : goal.invariant-loop-entry
invariant-loop-entry g l = record {
  filled : l.dir ≡ record { stamp = l.clock; unsaved = false; rows = take l.entry-index (numbered l.next (map (λ r. r.1.now) l.rows)) };
  given : l.number ≡ l.next + l.entry-index;
  few : length l.dir.rows < 2 ^ 32;
}
