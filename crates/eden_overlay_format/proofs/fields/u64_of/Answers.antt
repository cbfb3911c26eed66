use Rattle.std.proofs.Common.{ℕ, Some, refl, sym, ap, ◌∙◌, arith}
use Rattle.std.specs.Int.{w64, from_be_bytes}
use Rattle.std.proofs.lemmas.Nat.{be_bytes_8}
use Rattle.std.proofs.lemmas.Result.{err_from_is_err_and}
use Rattle.eden_overlay_format.proofs.Agreement.{digits_are, digits_told, no_digits}
use Rattle.eden_overlay_format.proofs.fields.u64_of.Goals as goal

pub returns-in_err-digits : goal.returns-in_err-digits
returns-in_err-digits c =
    let p = err_from_is_err_and c.from_residual.result c.from_residual.ensures.1 in
    let none = c.in_err-digits.ensures in
    rw (p.1, p.2) (none.0, no_digits w64 c.args.bytes.now none.1)

pub returns : goal.returns
returns c =
    let bytes = c.args.bytes.now in
    let digits = c.in_ok-digits.digits in
    let rest = c.in_ok-digits.rest.now in
    let are = digits_are 8 bytes digits rest (λ i. omega (arith, c.type_inv.bytes i)) c.in_ok-digits.ensures in
    let told = be_bytes_8 digits (from_be_bytes w64 digits) are.0 are.1 refl in
    digits_told w64 bytes digits rest c.in_ok-digits.ensures told ∙ ap (λ (n : ℕ). Some (n, rest)) (sym c.from_be_bytes.ensures)
