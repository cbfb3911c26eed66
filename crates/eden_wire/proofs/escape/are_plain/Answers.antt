use Rattle.eden_wire.specs.Names.{is_plain}
use Rattle.eden_wire.proofs.PlainBytes.{all_four}
use Rattle.eden_wire.proofs.escape.are_plain.Goals as goal

pub returns : goal.returns
returns c = rw (c.plain_value.ensures.value, c.plain_value-2.ensures.value, c.plain_value-3.ensures.value, c.plain_value-4.ensures.value)
    (all_four (is_plain c.args.a) (is_plain c.args.b) (is_plain c.args.c) (is_plain c.args.d))
