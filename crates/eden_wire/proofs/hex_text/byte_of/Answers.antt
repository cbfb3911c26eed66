use Rattle.std.proofs.Common.{ap, ◌∙◌}
use Rattle.eden_wire.proofs.HexDigits.{byte_in, byte_back}
use Rattle.eden_wire.proofs.hex_text.byte_of.Goals as goal

pub returns : goal.returns
returns c = λ b small e. ap byte_in e ∙ byte_back b small
