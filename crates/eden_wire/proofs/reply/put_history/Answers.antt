use Rattle.eden_wire.proofs.Growing.{grows_then}
use Rattle.eden_wire.proofs.reply.put_history.Goals as goal

pub returns : goal.returns
returns g c = grows_then (grows_then c.put.ensures c.put_number.ensures) c.put-2.ensures
