use Rattle.std.proofs.Common.{◌≡◌, take}
use Rattle.eden_oracle.proofs.same.are_same.Given as goal

-- the rows before this one are the same
abbrev pub invariant-loop-k : goal.invariant-loop-k
invariant-loop-k l = take l.k l.one ≡ take l.k l.other
