use Rattle.std.proofs.Common.{◌+◌, ◌≤◌, ◌++◌, take, length, length-append, length-take-le, arith}
use Rattle.std.proofs.KnownBytes.{Consumes-trans}
use Rattle.std.proofs.lemmas.Result.{err_from_is_err_and}
use Rattle.eden_remote.proofs.ReceiveLemmas.{piece_refused}
use Rattle.eden_remote.proofs.receiving.read_bytes.Goals as goal

pub returns-in_err-n : goal.returns-in_err-n
returns-in_err-n g c =
    let p = err_from_is_err_and c.from_residual.result c.from_residual.ensures.1 in
    rw (p.1, p.2) (piece_refused _ _ _ c.reads.bytes.items c.read_some.new.piece c.args.count c.in_err-n.field-0.0 c.reads.invariant.read c.reads.invariant.some c.in_err-n.ensures.heard)

pub returns-in_default-append : goal.returns-in_default-append
returns-in_default-append g c =
    let n = c.in_ok-n.n in
    let piece = c.read_some.new.piece in
    let within : n ≤ length piece = c.in_ok-n.ensures.within.1 in
    let size = length-take-le n piece within in
    let len = c.len.ensures in
    let room = c.min-room.ensures in
    let lent = length-take-le c.min-room.result c.reads.piece (omega (arith, c.reads.invariant.room)) in
    let kept = c.read_some.auto.piece in
    let fits : length c.reads.bytes.items + length (take n piece) ≤ c.args.count = omega (arith, c.reads.invariant.some) in
    (c.reads.bytes.items ++ take n piece, simp length-append fits, Consumes-trans _ _ _ _ _ c.reads.invariant.read c.in_ok-n.ensures.heard)
