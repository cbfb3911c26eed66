use Rattle.std.proofs.Common.{◌≡◌, List, ℕ, ◌++◌}
use Rattle.percent_encoding.specs.Iter.{encoded_text}
use Rattle.eden_wire.specs.Names.{name_text}
use Rattle.eden_wire.specs.Writing.{HandsOver}
use Rattle.eden_wire.proofs.reply.put_name.Given as goal

-- the text so far was handed over
abbrev pub invariant-pieces : goal.invariant-pieces
invariant-pieces g l = (done : List ℕ) × (name_text l.fn.name ≡ done ++ encoded_text l.piece-iterator)
    × HandsOver (g.W.Write.contents l.fn.writer) (g.W.Write.contents l.writer) l.fn.output l.output done
