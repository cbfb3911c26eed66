use Rattle.eden_ops.proofs.CallerLemmas.{may_now}
use Rattle.ops_tests.proofs.resuming.turn_of.Goals as goal

pub attempt_from-requires : goal.attempt_from-requires
attempt_from-requires c = record { leads = c.requires.leads }

pub returns : goal.returns
returns c = may_now c.args.request.now c.attempt_from.new.inodes c.attempt_from.new.place c.attempt_from.ensures.waits c.attempt_from.ensures.leads
