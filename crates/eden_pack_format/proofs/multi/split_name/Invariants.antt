use Rattle.std.proofs.Common.{◌≢◌, All, take}
use Rattle.eden_pack_format.proofs.multi.split_name.Given as goal

abbrev pub invariant-loop-end : goal.invariant-loop-end
invariant-loop-end l = All (λ byte. byte ≢ 0) (take l.end l.names)
