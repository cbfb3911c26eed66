use Rattle.std.proofs.Common.{◌≡◌, drop}
use Rattle.eden_oracle.specs.Numbers.{is_among}
use Rattle.eden_oracle.proofs.numbers.is_among.Given as goal

-- it is among those that are left just where it is among all
abbrev pub invariant-loop-other : goal.invariant-loop-other
invariant-loop-other l = is_among (drop l.other-index l.numbers) l.fn.number ≡ is_among l.numbers l.fn.number
