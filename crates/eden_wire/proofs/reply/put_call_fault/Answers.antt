use Rattle.eden_wire.proofs.reply.put_call_fault.Goals as goal

pub returns-in-Start : goal.returns-in-Start
returns-in-Start g c = rw c.in-Start.is c.put_start_fault.ensures

pub returns-in-Foreign : goal.returns-in-Foreign
returns-in-Foreign g c = rw c.in-Foreign.is c.put_foreign.ensures

pub returns-in-Stopped : goal.returns-in-Stopped
returns-in-Stopped g c = rw c.in-Stopped.is c.put.ensures
