use Rattle.eden_ops.proofs.CallerLemmas.{may_begin}
use Rattle.ops_tests.proofs.resuming.start.Goals as goal

pub returns : goal.returns
returns c = may_begin c.args._request.now c.args._mount.now.table c.new.result c.new.ensures.changes c.new.ensures.leads
