use Rattle.eden_ops.specs.Left.{few_are_left}
use Rattle.eden_ops.proofs.Left.{some_are_left, needs_stay, left_falls}
use Rattle.eden_ops.proofs.laws.need_laws.Goals as goal

pub returns : goal.returns
returns c = record { few = few_are_left; some = some_are_left; stay = needs_stay; falls = left_falls }
