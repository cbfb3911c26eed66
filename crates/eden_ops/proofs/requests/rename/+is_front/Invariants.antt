use Rattle.std.proofs.Common.{length}
use Rattle.eden_ops.proofs.requests.rename.+is_front.Given as goal

-- proposed from what the function passes where it calls itself
abbrev pub decreases-is_front : goal.decreases-is_front
decreases-is_front l = length l.front.now
