use Rattle.eden_wire.proofs.Growing.{grows_passed}
use Rattle.eden_wire.proofs.output.Output.put_first.Goals as goal

pub returns : goal.returns
returns g c = grows_passed _ _ _ _ c.args.bytes.now _ c.if-self.false c.requires c.send-sent.ensures c.is_err-self.ensures.value c.requires
