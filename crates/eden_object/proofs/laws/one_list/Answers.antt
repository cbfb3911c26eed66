use Rattle.eden_object.proofs.RowLemmas.{one_list_law}
use Rattle.eden_object.proofs.laws.one_list.Goals as goal

pub returns : goal.returns
returns c = λ es fs body h k. one_list_law es fs body h.entries k.entries
