use Rattle.eden_remote.proofs.SendLemmas.{sends_then, whole}
use Rattle.eden_remote.proofs.sending.send_both.Goals as goal

pub returns : goal.returns
returns g c = sends_then _ _ _ c.args.head.now c.args.body.now c.send.result (whole _ _ c.args.head.now c.send_some.result c.if-send_some-head.false c.send_some.ensures.sent) c.send.ensures
