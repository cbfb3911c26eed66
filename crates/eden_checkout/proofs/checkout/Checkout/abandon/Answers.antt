use Rattle.std.proofs.Common.{◌∙◌, ap}
use Rattle.eden_checkout.specs.Checkouts.{Checkout}
use Rattle.eden_checkout.specs.Opening.{files_show}
use Rattle.eden_checkout.proofs.checkout.Checkout.abandon.Goals as goal

pub returns-clause-shown : goal.returns-clause-shown
returns-clause-shown g c h saved =
    let files = c.into_files.ensures ∙ c.into_overlay.ensures ∙ ap (λ (s : Checkout _). s.inodes.files) c.self.view_is in
    ap (files_show g.W.World.repository c.args.self.root) (ap g.F.Files.stored files) ∙ c.holds.ensures.shown h saved
