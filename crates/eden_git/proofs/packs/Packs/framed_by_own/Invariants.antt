use Rattle.std.proofs.Common.{IfSome}
use Rattle.eden_pack_format.specs.Causes.{IsReadingCause}
use Rattle.eden_git.proofs.packs.Packs.framed_by_own.Given as goal

abbrev pub invariant-loop-pack : goal.invariant-loop-pack
invariant-loop-pack g l = IfSome l.failed IsReadingCause
