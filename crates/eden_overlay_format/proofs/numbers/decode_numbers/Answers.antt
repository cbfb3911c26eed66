use Rattle.std.proofs.Common.{sym, ap, ◌∙◌}
use Rattle.std.proofs.lemmas.Result.{err_from_is_err_and}
use Rattle.eden_overlay_format.specs.Numbers.{none_is_own}
use Rattle.eden_overlay_format.proofs.NumbersFound.{no_numbers, no_tree, numbers_fail, own_refused}
use Rattle.eden_overlay_format.proofs.numbers.decode_numbers.Goals as goal

pub returns-in_err-body-clause-refused : goal.returns-in_err-body-clause-refused
returns-in_err-body-clause-refused c =
    let p = err_from_is_err_and c.from_residual.result c.from_residual.ensures.1 in
    rw (p.1, p.2) (no_numbers c.args.bytes.now c.in_err-body.field-0.0 c.in_err-body.ensures)

pub returns-in_err-id-clause-refused : goal.returns-in_err-id-clause-refused
returns-in_err-id-clause-refused c =
    let p = err_from_is_err_and c.from_residual-in_err-id.result c.from_residual-in_err-id.ensures.1 in
    rw (p.1, p.2) (no_tree c.args.bytes.now c.in_ok-body.body.now c.in_ok-body.ensures c.in_err-id.field-0.0 c.in_err-id.ensures.0 c.in_err-id.ensures.1)

pub returns-in_err-entries-clause-refused : goal.returns-in_err-entries-clause-refused
returns-in_err-entries-clause-refused c =
    let p = err_from_is_err_and c.from_residual-in_err-entries.result c.from_residual-in_err-entries.ensures.1 in
    rw (p.1, p.2) (numbers_fail c.args.bytes.now c.in_ok-body.body.now c.in_ok-body.ensures c.in_ok-id.id c.in_ok-id.rows.now c.in_ok-id.ensures
    c.in_err-entries.field-0.0 c.in_err-entries.ensures.entries c.in_err-entries.ensures.memory)

pub returns-then-not-none_is_own-clause-refused : goal.returns-then-not-none_is_own-clause-refused
returns-then-not-none_is_own-clause-refused c =
    own_refused c.args.bytes.now c.in_ok-body.body.now c.in_ok-body.ensures c.in_ok-id.id c.in_ok-id.rows.now c.in_ok-id.ensures c.in_ok-entries.entries.items c.in_ok-entries.ensures.entries
    (sym (ap none_is_own c.deref.ensures.value) ∙ sym c.none_is_own.ensures ∙ c.if-not-none_is_own.true)
