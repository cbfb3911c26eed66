use Rattle.std.proofs.Common.{◌≡◌, ℕ, List, take}
use Rattle.hex.specs.Hex.{encode_lower}
use Rattle.eden_wire.specs.Names.{AreBytes}
use Rattle.eden_wire.proofs.hex_text.decode.Given as goal

-- the bytes so far are those that the text spells
abbrev pub invariant-pairs : goal.invariant-pairs
invariant-pairs l = (spelled : List ℕ) → AreBytes spelled → l.text ≡ encode_lower spelled → take l.i l.bytes ≡ take l.i spelled
