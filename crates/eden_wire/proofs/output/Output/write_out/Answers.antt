use Rattle.eden_wire.proofs.Growing.{grows_sent}
use Rattle.eden_wire.proofs.output.Output.write_out.Goals as goal

pub returns-clause-grew : goal.returns-clause-grew
returns-clause-grew g c = grows_sent _ _ _ _ _ c.if-self.false (rw c.as_slice.ensures.value at c.send-sent.ensures) c.is_err-self.ensures.value c.clear-2.ensures.items
