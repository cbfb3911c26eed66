use Rattle.std.proofs.Common.{ap}
use Rattle.eden_wire.specs.Names.{name_text}
use Rattle.eden_wire.proofs.Growing.{grows_then, grows_as}
use Rattle.eden_wire.proofs.reply.put_entry.Goals as goal

pub returns : goal.returns
returns g c = grows_then c.put_entry_front.ensures (grows_as (ap name_text c.as_slice.ensures.bytes) c.put_name.ensures)
