use Rattle.std.proofs.Common.{true, false, ◌≡◌, sym, ◌∙◌, subst, ap, arith}
use Rattle.std.proofs.lemmas.Grind.{common_steps}
use Rattle.eden_import.specs.Queue.{IsPass, WantsNoOther, stands}
use Rattle.eden_import.specs.Seen.{queue_from}
use Rattle.eden_import.proofs.StepLemmas.{want_joined, want_queued, want_room}
use Rattle.eden_import.proofs.imports.Imports.want.Goals as goal

pub invariant_of-self : goal.invariant_of-self
invariant_of-self g c =
    let a = c.self.inside in
    let q = queue_from a.queue.items a.flight.items a.wants.items a.marks.items a.passes a.flights in
    let seat = subst (IsPass c.args.pass) (sym c.self.view_is) c.requires.seat in
    let alone = subst (WantsNoOther c.args.key c.args.pass) (sym c.self.view_is) c.requires.alone in
    let found : stands c.args.key q ≡ true = ap (stands c.args.key) c.self.view_is ∙ sym c.stands-joined.ensures ∙ c.if-joined.true in
    (want_joined c.args.key c.args.pass q c.self.invariant.0 seat alone found, c.self.invariant.1, c.self.invariant.2)

pub returns-then-joined-clause-kept : goal.returns-then-joined-clause-kept
returns-then-joined-clause-kept g c = (invariant_of-self g c).0

pub unwrap-requires : goal.unwrap-requires
unwrap-requires g c =
    let a = c.self.inside in
    let q = queue_from a.queue.items a.flight.items a.wants.items a.marks.items a.passes a.flights in
    let seat = subst (IsPass c.args.pass) (sym c.self.view_is) c.requires.seat in
    let alone = subst (WantsNoOther c.args.key c.args.pass) (sym c.self.view_is) c.requires.alone in
    let found : stands c.args.key q ≡ false = ap (stands c.args.key) c.self.view_is ∙ sym c.stands-joined.ensures ∙ c.if-joined.false in
    let room = want_room c.args.key c.args.pass q c.self.invariant.0 seat alone found in
    c.push_back.ensures.succeeds (omega (arith, room, c.self.invariant.1))

pub invariant_of-self-2 : goal.invariant_of-self-2
invariant_of-self-2 g c =
    let a = c.self.inside in
    let q = queue_from a.queue.items a.flight.items a.wants.items a.marks.items a.passes a.flights in
    let seat = subst (IsPass c.args.pass) (sym c.self.view_is) c.requires.seat in
    let alone = subst (WantsNoOther c.args.key c.args.pass) (sym c.self.view_is) c.requires.alone in
    let found : stands c.args.key q ≡ false = ap (stands c.args.key) c.self.view_is ∙ sym c.stands-joined.ensures ∙ c.if-joined.false in (
      want_queued c.args.key c.args.pass q c.push_back.new.self.items c.self.invariant.0 seat alone found (grind (arith, common_steps)),
      omega
          (arith, c.push_back.ensures.capacity, c.self.invariant.1),
      c.self.invariant.2,
    )

pub returns-clause-kept : goal.returns-clause-kept
returns-clause-kept g c = (invariant_of-self-2 g c).0
