use Rattle.eden_wire.proofs.reply.put_kind.Goals as goal

pub returns-in-File : goal.returns-in-File
returns-in-File g c = rw c.in-File.is c.put.ensures

pub returns-in-Exec : goal.returns-in-Exec
returns-in-Exec g c = rw c.in-Exec.is c.put-in-Exec.ensures

pub returns-in-Link : goal.returns-in-Link
returns-in-Link g c = rw c.in-Link.is c.put-in-Link.ensures

pub returns-in-Dir : goal.returns-in-Dir
returns-in-Dir g c = rw c.in-Dir.is c.put-in-Dir.ensures
