use Rattle.eden_wire.proofs.Growing.{grows_then, grows_as}
use Rattle.eden_wire.proofs.Texts.{no_data, some_data}
use Rattle.eden_wire.proofs.reply.put_data.Goals as goal

pub returns-then-is_empty : goal.returns-then-is_empty
returns-then-is_empty g c = grows_as (no_data c.args.bytes.now c.if-is_empty.ensures) c.put.ensures

pub returns : goal.returns
returns g c = grows_as (some_data c.args.bytes.now c.if-is_empty.ensures)
    (grows_then (grows_then (grows_then (grows_then c.put-2.ensures c.put_number.ensures) c.put-3.ensures) c.put_hex.ensures) c.put-4.ensures)
