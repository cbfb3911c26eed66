use Rattle.std.proofs.Common.{true, ◌≡◌, sym, ◌∙◌, ap, arith}
use Rattle.eden_import.specs.Keys.{has_key}
use Rattle.eden_import.specs.Queue.{Queue}
use Rattle.eden_import.specs.Seen.{queue_from}
use Rattle.eden_import.proofs.StepLemmas.{land_drops}
use Rattle.eden_import.proofs.imports.Imports.done.Goals as goal

pub invariant_of-self : goal.invariant_of-self
invariant_of-self g c =
    let a = c.self.inside in
    let q = queue_from a.queue.items a.flight.items a.wants.items a.marks.items a.passes a.flights in
    let found : has_key c.args.key a.flight.items ≡ true = ap (λ (x : Queue). has_key c.args.key x.flight) c.self.view_is ∙ sym c.is_in_flight.ensures.value ∙ c.if-not-is_in_flight.false in (
      land_drops c.args.key q c.drop_key.new.keys.items c.end_wants.new.wants.items c.self.invariant.0 found c.drop_key.ensures.items c.end_wants.ensures,
      c.self.invariant.1,
      omega
          (arith, c.drop_key.ensures.room, c.self.invariant.2),
    )

pub returns-clause-kept : goal.returns-clause-kept
returns-clause-kept g c = (invariant_of-self g c).0
