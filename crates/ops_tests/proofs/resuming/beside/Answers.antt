use Rattle.eden_ops.proofs.CallerLemmas.{may_still}
use Rattle.ops_tests.proofs.resuming.beside.Goals as goal

pub returns : goal.returns
returns c = may_still c.args.mount.now.table c.attempt.new.inodes c.attempt.ensures.leaves.on.places c.args._request.now c.args._place.now c.requires
