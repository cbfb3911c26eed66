use Rattle.std.proofs.Common.{◌≡◌, take}
use Rattle.eden_snapshot.proofs.memory.copied.Given as goal

abbrev pub invariant-names : goal.invariant-names
invariant-names l = l.names.items ≡ take l.name-index l.path
