use Rattle.eden_ops.proofs.Deeper.{place_is_front, next_is_deeper}
use Rattle.eden_ops.proofs.laws.wait_laws.Goals as goal

pub returns : goal.returns
returns c = record { front = place_is_front; deeper = next_is_deeper }
