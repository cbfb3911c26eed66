use Rattle.eden_wire.proofs.Slices.{slice-end}
use Rattle.eden_wire.proofs.Growing.{sent_none, sent_more}
use Rattle.eden_wire.proofs.output.send.Goals as goal

pub turns-init : goal.turns-init
turns-init g c = sent_none _ _

pub turns-preserved : goal.turns-preserved
turns-preserved g c = sent_more _ _ _ _ _ _ _ c.turns.invariant c.in_ok-taken.ensures.1 (slice-end c.turns.rest.now c.in_ok-taken.taken)
