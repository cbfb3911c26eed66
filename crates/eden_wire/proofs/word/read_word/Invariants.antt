use Rattle.std.proofs.Common.{take}
use Rattle.std.specs.List.{All}
use Rattle.eden_wire.proofs.Words.{IsOther}
use Rattle.eden_wire.proofs.word.read_word.Given as goal

-- the text is none of the words so far
abbrev pub invariant-words : goal.invariant-words
invariant-words l = All (IsOther l.text) (take l.word-index l.word-items)
