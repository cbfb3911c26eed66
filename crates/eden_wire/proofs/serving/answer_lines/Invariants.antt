use Rattle.std.proofs.Common.{◌≤◌, length, take, drop}
use Rattle.eden_wire.specs.Lines.{IsOneLine}
use Rattle.eden_wire.proofs.SessionLemmas.{Lined}
use Rattle.eden_wire.proofs.serving.answer_lines.Given as goal

abbrev pub invariant-lines : goal.invariant-lines
invariant-lines g l = record {
  room : l.counter ≤ l.used;
  within : l.used ≤ length l.bytes;
  skips : l.skip ≤ length (drop l.used l.bytes);
  none : IsOneLine (take l.skip (drop l.used l.bytes));
  so_far : Lined g.S.Service.answers (l.fn.service, l.service) (g.W.Write.contents l.fn.writer, g.W.Write.contents l.writer)
      (l.fn.output, l.output) l.bytes l.used;
}
