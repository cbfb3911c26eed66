use Rattle.eden_remote.proofs.LawLemmas.{one_answer_law}
use Rattle.eden_remote.proofs.laws.one_answer.Goals as goal

pub returns : goal.returns
returns c = one_answer_law
