use Rattle.std.proofs.Common.{arith, slice_index}
use Rattle.hex.specs.Hex.{lower_digits}
use Rattle.hex.proofs.Pairs.{encode_step, encode_done}
use Rattle.eden_wire.proofs.HexDigits.{halves}
use Rattle.eden_wire.proofs.hex_text.encode.Goals as goal

pub bytes-preserved : goal.bytes-preserved
bytes-preserved c =
    let two = halves c.digits-pair.result (slice_index c.args.bytes.now c.bytes.i) (omega (arith, c.type_inv.bytes c.bytes.i)) c.digits-pair.ensures in
    encode_step lower_digits c.args.bytes.now c.bytes.text c.bytes.i _ _ (omega arith) (omega arith) two.0 two.1 c.bytes.invariant

pub returns : goal.returns
returns c = encode_done lower_digits _ _ c.bytes.i (omega arith) (omega arith) c.bytes.invariant
