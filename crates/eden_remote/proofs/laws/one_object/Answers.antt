use Rattle.eden_remote.proofs.LawLemmas.{one_object_law}
use Rattle.eden_remote.proofs.laws.one_object.Goals as goal

pub returns : goal.returns
returns c = one_object_law
