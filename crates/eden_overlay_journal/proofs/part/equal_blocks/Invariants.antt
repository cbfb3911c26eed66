use Rattle.std.proofs.Common.{◌≡◌, ◌*◌, take}
use Rattle.eden_overlay_journal.proofs.part.equal_blocks.Given as goal

abbrev pub invariant-loop-block : goal.invariant-loop-block
invariant-loop-block l = take (l.block * 1024) l.a ≡ take (l.block * 1024) l.b
