use Rattle.std.proofs.Common.{◌≡◌, ◌∷◌, [], take, subst, length-take-le, arith}
use Rattle.std.proofs.lemmas.Result.{err_from_is_err_and}
use Rattle.std.proofs.KnownBytes.{Consumes-trans}
use Rattle.std.specs.Io.KnownBytes.{Consumes}
use Rattle.eden_remote.proofs.ReceiveLemmas.{line_heard, no_line, byte_refused}
use Rattle.eden_remote.proofs.receiving.read_first_line.Goals as goal

pub returns-then-byte-eq10 : goal.returns-then-byte-eq10
returns-then-byte-eq10 g c =
    let so = c.bytes.invariant in
    line_heard _ _ (take c.bytes.i c.bytes.line) c.length_said.result so.one
    (Consumes-trans _ _ _ (take c.bytes.i c.bytes.line) (10 ∷ []) so.read
    (subst (λ b. Consumes (g.R.Read.remaining c.bytes.reader) (g.R.Read.remaining c.read_byte.new.reader) (b ∷ [])) c.if-byte-eq10.true c.in_ok-byte.ensures))
    c.length_said.ensures

pub returns : goal.returns
returns g c =
    let so = c.bytes.invariant in
    let full : c.bytes.i ≡ 32 = omega arith in
    (take c.bytes.i c.bytes.line, no_line (take c.bytes.i c.bytes.line) so.one (omega (arith, length-take-le c.bytes.i c.bytes.line (omega arith))), so.read)

pub returns-in_err-byte : goal.returns-in_err-byte
returns-in_err-byte g c =
    let so = c.bytes.invariant in
    let p = err_from_is_err_and c.from_residual.result c.from_residual.ensures.1 in
    let short = length-take-le c.bytes.i c.bytes.line (omega arith) in
    rw (p.1, p.2) (byte_refused _ _ _ (take c.bytes.i c.bytes.line) c.in_err-byte.field-0.0 so.read so.one (omega arith) c.in_err-byte.ensures)
