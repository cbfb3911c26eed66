use Rattle.eden_wire.proofs.HexDigits.{computed_is}
use Rattle.eden_wire.proofs.hex_text.digits.Goals as goal

pub returns : goal.returns
returns c = rw c.from-b.ensures (computed_is c.args.byte c.ranges.byte.fits)
