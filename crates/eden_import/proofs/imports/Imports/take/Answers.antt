use Rattle.std.proofs.Common.{rules, ◌<◌, length, arith}
use Rattle.std.proofs.lemmas.Grind.{common_steps}
use Rattle.eden_import.specs.Seen.{queue_from}
use Rattle.eden_import.proofs.StepLemmas.{take_moves}
use Rattle.eden_import.proofs.imports.Imports.take.Goals as goal

pub invariant_of-self-in-Some : goal.invariant_of-self-in-Some
invariant_of-self-in-Some g c =
    let a = c.self.inside in
    let q = queue_from a.queue.items a.flight.items a.wants.items a.marks.items a.passes a.flights in
    let few : length a.flight.items < a.flights = search rules in (
      take_moves c.in-Some.key c.pop_front.new.self.items c.push.new.self.items q c.self.invariant.0 few c.in-Some.ensures.items (grind (arith, common_steps)),
      omega
          (arith, c.in-Some.ensures.capacity, c.self.invariant.1),
      omega (arith, c.push.ensures.capacity, c.self.invariant.2),
    )

pub returns-in-Some-clause-kept : goal.returns-in-Some-clause-kept
returns-in-Some-clause-kept g c = (invariant_of-self-in-Some g c).0
