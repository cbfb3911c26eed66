use Rattle.std.proofs.Common.{◌≡◌, ◌-◌, ◌<◌, length, sym, ap, ◌∙◌, arith}
use Rattle.eden_mount.specs.Core.{seat_of}
use Rattle.eden_mount.proofs.SeatLemmas.{seat_taken}
use Rattle.eden_mount.proofs.mount.Mount.has_pending.Goals as goal

pub returns-clause-yes : goal.returns-clause-yes
returns-clause-yes g c = λ yes.
    let a = c.self.inside in
    let seats : length a.seats.items ≡ a.imports.passes = c.self.invariant.0.0.seats in
    let within : c.args.pass - 1 < length a.seats.items = omega (arith, seats, c.passes.ensures.value) in
    let found = seat_taken a.seats.items (c.args.pass - 1) c.index.result.now within c.index.ensures (sym c.is_some.ensures ∙ yes) in
    (found.0, (omega arith, ap (seat_of c.args.pass) (sym c.self.view_is) ∙ found.1))
