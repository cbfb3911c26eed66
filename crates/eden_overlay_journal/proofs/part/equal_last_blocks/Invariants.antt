use Rattle.std.proofs.Common.{◌≡◌, ◌*◌, ◌-◌, drop, length}
use Rattle.eden_overlay_journal.proofs.part.equal_last_blocks.Given as goal

abbrev pub invariant-loop-block : goal.invariant-loop-block
invariant-loop-block l = drop (length l.a - l.block * 1024) l.a ≡ drop (length l.b - l.block * 1024) l.b
