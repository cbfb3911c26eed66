use Rattle.eden_wire.proofs.reply.put_start_fault.Goals as goal

pub returns-in-Busy : goal.returns-in-Busy
returns-in-Busy g c = rw c.in-Busy.is c.put.ensures

pub returns-in-HistoryFull : goal.returns-in-HistoryFull
returns-in-HistoryFull g c = rw c.in-HistoryFull.is c.put_history.ensures

pub returns-in-Memory : goal.returns-in-Memory
returns-in-Memory g c = rw c.in-Memory.is c.put-in-Memory.ensures

pub returns-in-NoPass : goal.returns-in-NoPass
returns-in-NoPass g c = rw c.in-NoPass.is c.put-in-NoPass.ensures
