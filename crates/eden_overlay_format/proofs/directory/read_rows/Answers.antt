use Rattle.std.proofs.lemmas.Result.{err_from_is_err_and}
use Rattle.eden_overlay_format.specs.Reading.{rows_at}
use Rattle.eden_overlay_format.proofs.Loop.{goes_on, ends, is_done}
use Rattle.eden_overlay_format.proofs.directory.read_rows.Goals as goal

pub returns-in_err-row-clause-rows : goal.returns-in_err-row-clause-rows
returns-in_err-row-clause-rows c =
    let p = err_from_is_err_and c.from_residual-in_err-row.result c.from_residual-in_err-row.ensures.1 in
    rw (p.1, p.2) (ends c.loop.rows.items c.args.count c.loop.counter c.loop.rest.now
    (rows_at c.args.count c.args.bytes.now) c.loop.invariant c.in_err-row.field-0.0 c.loop-test.true c.in_err-row.ensures)

pub loop-preserved : goal.loop-preserved
loop-preserved c =
    rw c.in_ok-push.ensures.items (goes_on c.loop.rows.items c.args.count c.loop.counter c.loop.rest.now
    (rows_at c.args.count c.args.bytes.now) c.loop.invariant c.in_ok-row.row c.in_ok-row.after.now c.loop-test.true c.in_ok-row.ensures)

pub returns-clause-rows : goal.returns-clause-rows
returns-clause-rows c = is_done c.loop.rows.items c.args.count c.loop.counter c.loop.rest.now (rows_at c.args.count c.args.bytes.now) c.loop.invariant c.loop-test.false
