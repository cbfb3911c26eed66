use Rattle.std.proofs.Common.{arith}
use Rattle.eden_import.proofs.StepLemmas.{empty_keeps}
use Rattle.eden_import.proofs.imports.Imports.new.Goals as goal

pub invariant_of-result : goal.invariant_of-result
invariant_of-result g c = (
  rw (c.in_ok-queue.ensures.items, c.in_ok-flight.ensures.items, c.in_ok-wants.ensures, c.in_ok-marks.ensures) (empty_keeps c.args.passes c.args.flights c.requires.passes c.requires.flights),
  omega (arith, c.in_ok-queue.ensures.exact),
  omega (arith, c.in_ok-flight.ensures.exact),
)

pub returns-clause-kept : goal.returns-clause-kept
returns-clause-kept g c = (invariant_of-result g c).0
