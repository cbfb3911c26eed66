use Rattle.std.proofs.Common.{length}
use Rattle.eden_wire.proofs.Scanning.{PathToGo}
use Rattle.eden_wire.proofs.path_text.read_path.Given as goal

abbrev pub invariant-parts : goal.invariant-parts
invariant-parts l = PathToGo l.fn.text l.rest l.names.items

abbrev pub decreases-parts : goal.decreases-parts
decreases-parts l = length l.rest
