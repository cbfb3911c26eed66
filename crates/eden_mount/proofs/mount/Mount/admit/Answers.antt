use Rattle.std.proofs.Common.{◌≡◌, ◌-◌, ◌<◌, length, sym, ap, ◌∙◌, arith, rules}
use Rattle.eden_mount.specs.Core.{seat_of}
use Rattle.eden_mount.proofs.SeatLemmas.{seat_taken}
use Rattle.eden_mount.proofs.mount.Mount.admit.Goals as goal

pub returns-then-is_some-clause-refused : goal.returns-then-is_some-clause-refused
returns-then-is_some-clause-refused g c =
    let a = c.self.inside in
    let seats : length a.seats.items ≡ a.imports.passes = c.self.invariant.0.0.seats in
    let within : c.args.pass - 1 < length a.seats.items = omega (arith, seats, c.passes.ensures.value) in
    let found = seat_taken a.seats.items (c.args.pass - 1) c.index.result.now within c.index.ensures (sym c.is_some.ensures ∙ c.if-is_some.true) in
    (search rules, found.0, (omega arith, ap (seat_of c.args.pass) (sym c.self.view_is) ∙ found.1))
