use Rattle.std.proofs.Common.{true, ◌≡◌, sym, ◌∙◌, ap, arith}
use Rattle.eden_import.specs.Queue.{Queue, want_of, wants_key, is_wanted}
use Rattle.eden_import.specs.Seen.{queue_from}
use Rattle.eden_import.proofs.StepLemmas.{leave_wanted, leave_dropped}
use Rattle.eden_import.proofs.imports.Imports.leave.Goals as goal

pub invariant_of-self : goal.invariant_of-self
invariant_of-self g c =
    let a = c.self.inside in
    let q = queue_from a.queue.items a.flight.items a.wants.items a.marks.items a.passes a.flights in
    let wanted : wants_key c.args.key (want_of c.args.pass q) ≡ true = ap (λ (x : Queue). wants_key c.args.key (want_of c.args.pass x)) c.self.view_is ∙ ap (wants_key c.args.key)
    (sym c.wanted.ensures.value) ∙ sym c.is_for.ensures ∙ c.if-not-is_for.false in (
      leave_dropped c.args.key c.args.pass q c.unqueue.new.queue.items c.self.invariant.0 wanted
          (ap (is_wanted c.args.key) (sym c.deref.ensures.value) ∙ sym c.is_wanted.ensures ∙ c.if-not-is_wanted.true) c.unqueue.ensures.items,
      omega
          (arith, c.unqueue.ensures.room, c.self.invariant.1),
      c.self.invariant.2,
    )

pub invariant_of-self-else-not-is_wanted : goal.invariant_of-self-else-not-is_wanted
invariant_of-self-else-not-is_wanted g c =
    let a = c.self.inside in
    let q = queue_from a.queue.items a.flight.items a.wants.items a.marks.items a.passes a.flights in
    let wanted : wants_key c.args.key (want_of c.args.pass q) ≡ true = ap (λ (x : Queue). wants_key c.args.key (want_of c.args.pass x)) c.self.view_is ∙ ap (wants_key c.args.key)
    (sym c.wanted.ensures.value) ∙ sym c.is_for.ensures ∙ c.if-not-is_for.false in (
      leave_wanted c.args.key c.args.pass q c.self.invariant.0 wanted
          (ap (is_wanted c.args.key) (sym c.deref.ensures.value) ∙ sym c.is_wanted.ensures ∙ c.if-not-is_wanted.false),
      c.self.invariant.1,
      c.self.invariant.2,
    )

pub returns-then-not-is_wanted-clause-kept : goal.returns-then-not-is_wanted-clause-kept
returns-then-not-is_wanted-clause-kept g c = (invariant_of-self g c).0

pub returns-else-not-is_wanted-clause-kept : goal.returns-else-not-is_wanted-clause-kept
returns-else-not-is_wanted-clause-kept g c = (invariant_of-self-else-not-is_wanted g c).0
