use Rattle.std.proofs.Common.{sym, subst}
use Rattle.eden_checkout.specs.declared.fault.OpenFault.{OpenFault}
use Rattle.eden_checkout.specs.declared.opening.Opening.TheVariants as opening
use Rattle.eden_checkout.specs.Opening.{IsRefusal}
use Rattle.eden_checkout.proofs.Rescanned.{rescan_found, rescan_refused}
use Rattle.eden_checkout.proofs.opening.rescanned.Goals as goal

pub returns-in-Err-clause-refused : goal.returns-in-Err-clause-refused
returns-in-Err-clause-refused g c =
    let F = g.F.Files.stored c.args.overlay.now in
    let old = g.F.Files.failures c.args.overlay.now in
    let new = g.F.Files.failures c.rescan.new.self in
    subst (λ (e : OpenFault). IsRefusal opening.Rescan g.W.World.honest c.args.root F old new e) (sym c.from.ensures)
    (rescan_refused g.W.World.honest c.args.root F old new c.in-Err.fault c.in-Err.ensures.refused)

pub returns-in-Ok-clause-found : goal.returns-in-Ok-clause-found
returns-in-Ok-clause-found g c h =
    rescan_found c.args.root (g.F.Files.stored c.args.overlay.now) c.in-Ok.next (c.in-Ok.ensures.sound h) (c.in-Ok.ensures.numbers h) (c.in-Ok.ensures.next h) c.in-Ok.ensures.range.1
