use Rattle.std.proofs.Common.{◌≡◌, ◌<◌, ◌+◌, ◌-◌, length, None, Some, slice_index_or, sym, ap, ◌∙◌, arith}
use Rattle.eden_mount.specs.Core.{seat_of}
use Rattle.eden_mount.proofs.SeatLemmas.{seat_taken}
use Rattle.eden_mount.proofs.mount.Mount.busy.Goals as goal

pub returns-then-is_some-clause-some : goal.returns-then-is_some-clause-some
returns-then-is_some-clause-some g c =
    let a = c.self.inside in
    let xs = a.seats.items in
    let n = c.loop-seat.seat in
    let seats : length xs ≡ a.imports.passes = c.self.invariant.0.0.seats in
    let within : n < length xs = omega (arith, seats, c.passes-passes.ensures.value) in
    let found = seat_taken xs n c.index.result.now within c.index.ensures (sym c.is_some.ensures ∙ c.if-is_some.true) in
    let back : n + 1 - 1 ≡ n = omega arith in
    record {
      seat = found.0;
      pends = (omega arith, ap (seat_of (n + 1)) (sym c.self.view_is) ∙ ap (λ i. slice_index_or xs i None) back ∙ found.1);
      least = λ i less s pends.
          let before : i - 1 < n = (let low = pends.0 in omega (arith, less, low)) in
          let none : slice_index_or xs (i - 1) None ≡ None = c.loop-seat.invariant (i - 1) before in
          let both : None ≡ Some s = sym none ∙ ap (seat_of i) c.self.view_is ∙ pends.1 in
          absurd (cc both);
    }
