use Rattle.std.proofs.Common.{◌≡◌, ◌∙◌, arith}
use Rattle.eden_wire.proofs.Slices.{take_front}
use Rattle.eden_wire.proofs.DataLemmas.{read_is, no_dash, data_even}
use Rattle.eden_wire.proofs.field.read_data.Goals as goal

pub decode-requires : goal.decode-requires
decode-requires c =
    let not = no_dash c.args.text.now (rw c.as_slice.ensures at c.if-eq.ensures) in
    omega (arith, data_even c.args.text.now not c.requires, c.as_mut_slice.ensures.len, c.in_ok-bytes.ensures.len)

pub returns : goal.returns
returns c =
    let not = no_dash c.args.text.now (rw c.as_slice.ensures at c.if-eq.ensures) in
    let whole : c.new-2.result ≡ c.decode.new.bytes = c.new-2.ensures ∙ take_front _ _ _ (omega (arith, c.decode.auto.bytes, c.as_mut_slice.ensures.len)) in
    read_is c.args.text.now c.new-2.result not c.requires (λ bytes small e. whole ∙ c.decode.ensures bytes small e)
