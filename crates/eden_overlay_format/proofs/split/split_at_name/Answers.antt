use Rattle.std.proofs.Common.{sym, ◌∙◌}
use Rattle.eden_overlay_format.specs.Listing.{entries_read}
use Rattle.eden_overlay_format.proofs.Passing.{none_passed, next, begins, is_less, is_equal, is_greater}
use Rattle.eden_overlay_format.proofs.split.split_at_name.Goals as goal

pub loop-init : goal.loop-init
loop-init c = none_passed c.args.name.now (entries_read c.args.count c.args.rows.now) c.args.count c.args.rows.now c.requires

pub split_row-requires : goal.split_row-requires
split_row-requires c =
    let es = entries_read c.args.count c.args.rows.now in
    begins c.args.name.now es c.args.count c.loop.counter c.args.rows.now c.loop.rest.now
    (next c.args.name.now es c.args.count c.loop.counter c.args.rows.now c.loop.rest.now c.loop.invariant c.loop-test.true)

pub returns-in-Equal : goal.returns-in-Equal
returns-in-Equal c =
    let es = entries_read c.args.count c.args.rows.now in
    is_equal c.args.name.now es c.args.count c.loop.counter c.args.rows.now c.loop.rest.now
    (next c.args.name.now es c.args.count c.loop.counter c.args.rows.now c.loop.rest.now c.loop.invariant c.loop-test.true)
    c.split_row.result.0.now c.split_row.result.1.now c.split_row.ensures (sym c.in-Equal.is ∙ c.cmp.ensures)

pub returns-in-Greater : goal.returns-in-Greater
returns-in-Greater c =
    let es = entries_read c.args.count c.args.rows.now in
    is_greater c.args.name.now es c.args.count c.loop.counter c.args.rows.now c.loop.rest.now
    (next c.args.name.now es c.args.count c.loop.counter c.args.rows.now c.loop.rest.now c.loop.invariant c.loop-test.true)
    c.split_row.result.0.now c.split_row.result.1.now c.split_row.ensures (sym c.in-Greater.is ∙ c.cmp.ensures)

pub loop-preserved : goal.loop-preserved
loop-preserved c =
    let es = entries_read c.args.count c.args.rows.now in
    is_less c.args.name.now es c.args.count c.loop.counter c.args.rows.now c.loop.rest.now
    (next c.args.name.now es c.args.count c.loop.counter c.args.rows.now c.loop.rest.now c.loop.invariant c.loop-test.true)
    c.split_row.result.0.now c.split_row.result.1.now c.split_row.ensures (sym c.in-Less.is ∙ c.cmp.ensures)
