use Rattle.eden_wire.proofs.Growing.{Sent}
use Rattle.eden_wire.proofs.output.send.Given as goal

abbrev pub invariant-turns : goal.invariant-turns
invariant-turns g l = Sent (g.W.Write.contents l.fn.writer) (g.W.Write.contents l.writer) l.fn.bytes l.rest
