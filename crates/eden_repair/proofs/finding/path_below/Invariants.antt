use Rattle.std.proofs.Common.{◌≡◌, take}
use Rattle.eden_repair.proofs.finding.path_below.Given as goal

abbrev pub invariant-loop-part : goal.invariant-loop-part
invariant-loop-part l = l.path.items ≡ take l.part-index l.directory
