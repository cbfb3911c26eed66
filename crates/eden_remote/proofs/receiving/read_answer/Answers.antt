use Rattle.eden_remote.proofs.ReceiveLemmas.{answer_heard}
use Rattle.eden_remote.proofs.receiving.read_answer.Goals as goal

pub returns : goal.returns
returns g c = answer_heard _ _ _ c.in_ok-count.count c.read_bytes.result c.in_ok-count.ensures.0 c.in_ok-count.ensures.1 c.read_bytes.ensures
