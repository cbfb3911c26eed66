use Rattle.std.proofs.Common.{◌≡◌, take, length}
use Rattle.std.specs.Io.KnownBytes.{Consumes}
use Rattle.eden_remote.specs.Protocol.{IsOneLine}
use Rattle.eden_remote.proofs.receiving.read_first_line.Given as goal

abbrev pub invariant-bytes : goal.invariant-bytes
invariant-bytes g l = record {
  room : length l.line ≡ 32;
  one : IsOneLine (take l.i l.line);
  read : Consumes (g.R.Read.remaining l.fn.reader) (g.R.Read.remaining l.reader) (take l.i l.line);
}
