use Rattle.std.proofs.Common.{take}
use Rattle.std.specs.List.{flat_map}
use Rattle.eden_wire.specs.Replies.{entry_text}
use Rattle.eden_wire.specs.Writing.{HandsOver}
use Rattle.eden_wire.proofs.reply.put_rows.Given as goal

-- the texts of those so far were handed over
abbrev pub invariant-rows : goal.invariant-rows
invariant-rows g l = HandsOver (g.W.Write.contents l.fn.writer) (g.W.Write.contents l.writer) l.fn.output l.output (flat_map entry_text (take l.entry-index l.rows))
