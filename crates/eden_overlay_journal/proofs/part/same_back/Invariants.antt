use Rattle.std.proofs.Common.{◌≡◌, ◌-◌, drop, length}
use Rattle.eden_overlay_journal.proofs.part.same_back.Given as goal

abbrev pub invariant-loop-at : goal.invariant-loop-at
invariant-loop-at l = drop (length l.a - l.at) l.a ≡ drop (length l.b - l.at) l.b
