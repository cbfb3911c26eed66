use Rattle.std.proofs.Common.{◌≡◌, take}
use Rattle.std.specs.List.{list_all}
use Rattle.eden_model.specs.Bytes.{is_lower_hex_digit}
use Rattle.eden_wire.proofs.hex_text.are_digits.Given as goal

abbrev pub invariant-digits : goal.invariant-digits
invariant-digits l = l.good ≡ list_all is_lower_hex_digit (take l.b-index l.text)
