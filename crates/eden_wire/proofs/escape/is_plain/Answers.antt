use Rattle.eden_wire.specs.Names.{is_plain}
use Rattle.eden_wire.proofs.PlainBytes.{is_one}
use Rattle.eden_wire.proofs.escape.is_plain.Goals as goal

pub returns : goal.returns
returns c = rw c.plain_value.ensures.value (is_one (is_plain c.args.b))
