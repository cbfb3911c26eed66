use Rattle.eden_wire.proofs.Growing.{grows_then}
use Rattle.eden_wire.proofs.reply.put_stat.Goals as goal

pub returns : goal.returns
returns g c =
    grows_then (grows_then (grows_then (grows_then c.put_stat_front.ensures c.put_number.ensures) c.put.ensures) c.put_number-2.ensures)
    c.put-2.ensures
