use Rattle.std.proofs.Common.{length, sym, eqb-true}
use Rattle.eden_wire.proofs.PathLemmas.{some_is}
use Rattle.eden_wire.proofs.DataLemmas.{no_dash, odd_data, empty_data, digits_or_not}
use Rattle.eden_wire.proofs.field.is_data.Goals as goal
use Rattle.eden_wire.proofs.field.is_data.Goals.{then-is_empty-via-then-is_empty, then-is_empty-via-else-is_empty+then-text-ne0}

pub returns-then-is_empty : goal.returns-then-is_empty
returns-then-is_empty c =
    let not = no_dash c.args.text.now (rw c.as_slice.ensures at c.if-eq.ensures) in
    elim c.then-is_empty.branch [
      | then-is_empty-via-then-is_empty w ↦ empty_data c.args.text.now not (eqb-true (length c.args.text.now) 0 (sym w.if-is_empty.ensures))
      | then-is_empty-via-else-is_empty+then-text-ne0 w ↦ odd_data c.args.text.now not w.if-text-ne0.true
    ]

pub returns : goal.returns
returns c =
    let not = no_dash c.args.text.now (rw c.as_slice.ensures at c.if-eq.ensures) in
    digits_or_not c.args.text.now _ not (some_is c.args.text.now c.if-is_empty.ensures) c.if-text-ne0.false c.are_digits.ensures
