use Rattle.std.proofs.Common.{arith}
use Rattle.eden_wire.proofs.Splitting.{plain_part, slash_cut, end_cut}
use Rattle.eden_wire.proofs.path_text.component_len.Goals as goal

pub returns-then-plain-bytes-clause-part : goal.returns-then-plain-bytes-clause-part
returns-then-plain-bytes-clause-part c =
    let n = c.plain_len-plain.result in
    plain_part c.args.bytes.now n c.plain_len-plain.ensures.within c.plain_len-plain.ensures.plain (end_cut c.args.bytes.now n c.if-plain-bytes.true)

pub returns-then-bytes-plain-eq47-clause-part : goal.returns-then-bytes-plain-eq47-clause-part
returns-then-bytes-plain-eq47-clause-part c =
    let n = c.plain_len-plain.result in
    plain_part c.args.bytes.now n c.plain_len-plain.ensures.within c.plain_len-plain.ensures.plain
    (slash_cut c.args.bytes.now n (omega (arith, c.plain_len-plain.ensures.within, c.if-plain-bytes.false)) c.if-bytes-plain-eq47.true)
