use Rattle.std.proofs.Common.{arith}
use Rattle.eden_wire.proofs.HexDigits.{read_more, read_all}
use Rattle.eden_wire.proofs.hex_text.decode.Goals as goal

pub pairs-preserved : goal.pairs-preserved
pairs-preserved c = λ spelled small e.
    let byte = rw (c.from.ensures, c.from-in-pairs.ensures) at c.byte_of.ensures in
    read_more c.args.text.now c.pairs.bytes spelled c.pairs.i _ (omega arith) (omega arith) small e byte (c.pairs.invariant spelled small e)

pub returns : goal.returns
returns c = λ spelled small e. read_all c.args.text.now c.pairs.bytes spelled c.pairs.i (omega arith) (omega arith) e (c.pairs.invariant spelled small e)
