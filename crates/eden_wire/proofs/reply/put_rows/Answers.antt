use Rattle.eden_wire.proofs.Growing.{grows_then, grows_as}
use Rattle.eden_wire.proofs.Texts.{more_rows, all_rows}
use Rattle.eden_wire.proofs.reply.put_rows.Goals as goal

pub rows-preserved : goal.rows-preserved
rows-preserved g c = grows_as (more_rows c.args.rows.now c.rows.entry-index c.entry-item.result c.rows-test.true c.entry-item.is) (grows_then c.rows.invariant c.put_entry.ensures)

pub returns : goal.returns
returns g c = grows_as (all_rows c.args.rows.now c.rows.entry-index c.rows-test.false) c.rows.invariant
