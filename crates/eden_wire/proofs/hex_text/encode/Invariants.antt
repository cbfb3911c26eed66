use Rattle.std.proofs.Common.{◌≡◌, ◌*◌, ◌++◌, take, drop}
use Rattle.hex.specs.Hex.{encode_lower}
use Rattle.eden_wire.proofs.hex_text.encode.Given as goal

-- the digits so far are followed by those of the other bytes
abbrev pub invariant-bytes : goal.invariant-bytes
invariant-bytes l = take (2 * l.i) l.text ++ encode_lower (drop l.i l.bytes) ≡ encode_lower l.bytes
