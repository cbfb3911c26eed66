use Rattle.std.proofs.Common.{lit<}
use Rattle.eden_tree.proofs.Rising.{none_rise}
use Rattle.eden_tree.proofs.dir.Dir.new.Goals as goal

pub invariant_of-result : goal.invariant_of-result
invariant_of-result g c = rw c.new.ensures.items (record { rising = none_rise; few = lit< tt })
