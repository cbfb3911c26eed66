use Rattle.std.proofs.Common.{length}
use Rattle.eden_wire.proofs.Scanning.{PathSoFar}
use Rattle.eden_wire.proofs.path_text.scan_path.Given as goal

abbrev pub invariant-parts : goal.invariant-parts
invariant-parts l = PathSoFar l.fn.text l.rest l.refusal l.names l.bytes

abbrev pub decreases-parts : goal.decreases-parts
decreases-parts l = length l.rest
