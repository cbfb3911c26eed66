use Rattle.std.proofs.Common.{◌≡◌, ◌<◌, take, length}
use Rattle.eden_remote.specs.Protocol.{IsOneLine}
use Rattle.eden_remote.proofs.ServeLemmas.{SoFar}
use Rattle.eden_remote.proofs.serving.answer_objects.Given as goal

abbrev pub invariant-reads : goal.invariant-reads
invariant-reads g l = record {
  room : length l.line ≡ 45;
  short : l.len < 45;
  one : IsOneLine (take l.len l.line);
  so_far : SoFar g.S.Source.fetched l.fn.source l.source (g.R.Read.remaining l.fn.reader) (g.R.Read.remaining l.reader) (g.O.Write.contents l.fn.writer) (g.O.Write.contents l.writer)
      (take l.len l.line);
}
