use Rattle.std.proofs.Common.{sym, ap, ◌∙◌, arith}
use Rattle.std.specs.Option.{is_some}
use Rattle.std.proofs.lemmas.List.Sums.{count_by_more_no, count_by_more_yes}
use Rattle.eden_mount.proofs.seats.count.Goals as goal
use Rattle.eden_mount.proofs.seats.count.Goals.{then-is_some, else-is_some}

pub loop-seat-preserved : goal.loop-seat-preserved
loop-seat-preserved c =
    let seats = c.args.seats.now in
    let i = c.loop-seat.seat-index in
    let read = sym (ap is_some c.seat-item.is) ∙ sym c.is_some.ensures in
    elim c.if-is_some.branch [
      | then-is_some w ↦ omega (arith, w.pending-is, c.loop-seat.invariant, count_by_more_yes is_some seats i c.seat-item.result c.loop-seat-test.true (read ∙ w.if-is_some.true))
      | else-is_some w ↦ omega (arith, w.pending-is, c.loop-seat.invariant, count_by_more_no is_some seats i c.seat-item.result c.loop-seat-test.true (read ∙ w.if-is_some.false))
    ]
