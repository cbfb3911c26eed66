use Rattle.std.proofs.Common.{◌≡◌, ◌<◌, length}
use Rattle.std.specs.Io.KnownBytes.{Consumes}
use Rattle.eden_remote.proofs.receiving.read_bytes.Given as goal

abbrev pub invariant-reads : goal.invariant-reads
invariant-reads g l = record {
  some : length l.bytes.items < l.count;
  room : length l.piece ≡ 16384;
  read : Consumes (g.R.Read.remaining l.fn.reader) (g.R.Read.remaining l.reader) l.bytes.items;
}
