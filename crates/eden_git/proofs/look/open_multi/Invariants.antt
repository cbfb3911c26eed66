use Rattle.std.proofs.Common.{◌≡◌, true}
use Rattle.eden_git.proofs.look.open_multi.Given as goal

abbrev pub invariant-loop : goal.invariant-loop
invariant-loop g l = l.initial.packs.is_damaged ≡ true → l.packs.is_damaged ≡ true
