use Rattle.std.proofs.Common.{length}
use Rattle.eden_wire.proofs.Fronts.{NamesFirst}
use Rattle.eden_wire.proofs.plain.front_names.Given as goal

abbrev pub invariant-parts : goal.invariant-parts
invariant-parts l = NamesFirst l.names.items l.fn.text l.rest

abbrev pub decreases-parts : goal.decreases-parts
decreases-parts l = length l.rest
