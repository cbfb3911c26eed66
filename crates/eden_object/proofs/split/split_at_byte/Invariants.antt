use Rattle.std.proofs.Common.{take}
use Rattle.eden_object.proofs.Cuts.{Lacks}
use Rattle.eden_object.proofs.split.split_at_byte.Given as goal

-- the separator hasn't come yet
abbrev pub invariant-loop-i : goal.invariant-loop-i
invariant-loop-i l = Lacks l.separator (take l.i l.bytes)
