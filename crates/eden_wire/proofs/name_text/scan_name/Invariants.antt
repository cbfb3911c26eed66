use Rattle.std.proofs.Common.{length, ◌<◌}
use Rattle.eden_wire.proofs.Scanning.{NameSoFar}
use Rattle.eden_wire.proofs.name_text.scan_name.Given as goal

abbrev pub invariant-bytes : goal.invariant-bytes
invariant-bytes l = record {
  some : 0 < length l.fn.text;
  so_far : NameSoFar l.fn.text l.rest l.len l.barred;
}

abbrev pub decreases-bytes : goal.decreases-bytes
decreases-bytes l = length l.rest
