use Rattle.eden_wire.proofs.reply.put_fault.Goals as goal

pub returns-in-Fetch : goal.returns-in-Fetch
returns-in-Fetch g c = rw c.in-Fetch.is c.put_fetch.ensures

pub returns-in-Memory : goal.returns-in-Memory
returns-in-Memory g c = rw c.in-Memory.is c.put.ensures

pub returns-in-Overlay : goal.returns-in-Overlay
returns-in-Overlay g c = rw c.in-Overlay.is c.put-in-Overlay.ensures

pub returns-in-Numbers : goal.returns-in-Numbers
returns-in-Numbers g c = rw c.in-Numbers.is c.put-in-Numbers.ensures
