use Rattle.std.proofs.Common.{Err, sym, ap, subst}
use Rattle.eden_model.specs.declared.fault.Fault.{Fault}
use Rattle.eden_overlay.specs.Held.{saved_at}
use Rattle.eden_inode.specs.Faults.{IsGetFault}
use Rattle.eden_inode.proofs.Loads.{numbers_why}
use Rattle.eden_inode.proofs.load.saved_directory.Goals as goal

pub returns-in-Err-clause-fault : goal.returns-in-Err-clause-fault
returns-in-Err-clause-fault g c =
    let old = g.F.Files.failures c.args.overlay.now in
    let new = g.F.Files.failures c.get_numbers.new.self in
    let F = g.F.Files.stored c.args.overlay.now in
    subst (λ (f : Fault). IsGetFault g.W.World.honest old new (saved_at F c.args.number c.args.tree) f) (sym c.told.ensures)
    (numbers_why c.args.tree (F c.args.number) g.W.World.honest old new c.in-Err.fault c.in-Err.ensures.refused (λ is. c.in-Err.ensures.counted.rose (ap Err is)))
