use Rattle.std.proofs.Common.{◌≡◌, List, ℕ, ◌++◌, length}
use Rattle.hex.specs.Hex.{encode_lower}
use Rattle.eden_wire.specs.Writing.{HandsOver}
use Rattle.eden_wire.proofs.reply.put_hex.Given as goal

-- the text so far was handed over
abbrev pub invariant-pieces : goal.invariant-pieces
invariant-pieces g l = (done : List ℕ) × (encode_lower l.fn.bytes ≡ done ++ encode_lower l.rest) × HandsOver (g.W.Write.contents l.fn.writer) (g.W.Write.contents l.writer) l.fn.output l.output done

abbrev pub decreases-pieces : goal.decreases-pieces
decreases-pieces g l = length l.rest
