use Rattle.eden_shared.specs.Opening.{AreTied}
use Rattle.eden_shared.proofs.opening.Ties.new.Given as goal

-- the ties so far
abbrev pub invariant-loop-pass : goal.invariant-loop-pass
invariant-loop-pass l = AreTied l.lanes.items l.ends.items l._pass
