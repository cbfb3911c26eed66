use Rattle.std.proofs.KnownBytes.{Keeps-refl}
use Rattle.eden_wire.proofs.Growing.{flushed_front, flushed_all}
use Rattle.eden_wire.proofs.output.Output.flush.Goals as goal

pub returns-then-self : goal.returns-then-self
returns-then-self g c = flushed_front _ _ _ _ _ _ c.write_out.ensures.grew (Keeps-refl _)

pub returns-in-Ok : goal.returns-in-Ok
returns-in-Ok g c = flushed_all _ _ _ _ _ c.write_out.ensures.grew record { empty = c.write_out.ensures.empty; working = c.if-self.false }
    (c.write_out.ensures.sticks c.if-self.false) c.in-Ok.ensures.bytes

pub returns-in-Err : goal.returns-in-Err
returns-in-Err g c = flushed_front _ _ _ _ _ _ c.write_out.ensures.grew c.in-Err.ensures.bytes
