use Rattle.std.proofs.Common.{◌≤◌, take, length}
use Rattle.std.specs.Io.KnownBytes.{Appends}
use Rattle.eden_remote.proofs.sending.send_some.Given as goal

abbrev pub invariant-writes : goal.invariant-writes
invariant-writes g l = record {
  within : l.sent ≤ length l.bytes;
  so_far : Appends (g.W.Write.contents l.fn.writer) (g.W.Write.contents l.writer) (take l.sent l.bytes);
}
