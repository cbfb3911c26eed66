use Rattle.eden_checkout.specs.declared.opening.Opening.TheVariants as opening
use Rattle.eden_checkout.specs.Opening.{IsRefusal}
use Rattle.eden_checkout.proofs.Opened.{handed_up}
use Rattle.eden_checkout.proofs.opening.state_of.Goals as goal

pub returns-in_err-state-clause-refused : goal.returns-in_err-state-clause-refused
returns-in_err-state-clause-refused g c =
    let F = g.F.Files.stored c.args.overlay.now in
    let old = g.F.Files.failures c.args.overlay.now in
    let new = g.F.Files.failures c.stored_state.new.overlay in
    handed_up c.from_residual.result c.in_err-state.field-0.0 (IsRefusal opening.Closed g.W.World.honest c.args.root F old new) c.from_residual.ensures.1
    (c.in_err-state.ensures.refused c.args.root)
