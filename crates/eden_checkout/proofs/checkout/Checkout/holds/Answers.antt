use Rattle.std.proofs.Common.{◌≡◌, subst}
use Rattle.eden_overlay.specs.Soundness.{AreSound}
use Rattle.eden_coupling.specs.Chains.{AreSaved}
use Rattle.eden_inode.specs.Tables.{shows}
use Rattle.eden_checkout.specs.Checkouts.{Checkout}
use Rattle.eden_checkout.specs.Opening.{files_show}
use Rattle.eden_checkout.proofs.Closed.{saved_shown}
use Rattle.eden_checkout.proofs.checkout.Checkout.holds.Goals as goal

pub returns-clause-sound : goal.returns-clause-sound
returns-clause-sound g c h =
    let x = c.self.inside.inodes in
    let kept = c.holds.ensures.kept h in
    subst (λ (s : Checkout _). AreSound (g.F.Files.stored s.inodes.files)) c.self.view_is
    (c.tie_laws.ensures.sound (g.F.Files.stored x.files) kept.full x.root x.next kept.ties)

pub returns-clause-shown : goal.returns-clause-shown
returns-clause-shown g c h =
    let x = c.self.inside.inodes in
    subst
    (λ (s : Checkout _). AreSaved s.inodes.root → files_show g.W.World.repository s.root (g.F.Files.stored s.inodes.files) ≡ shows g.W.World g.F.Files s.inodes) c.self.view_is
    (saved_shown g.W.World.repository (g.F.Files.stored x.files) x.root x.next c.self.inside.root c.holds.ensures.table (c.holds.ensures.kept h) c.self.invariant
    c.shown_laws.ensures.files c.shown_laws.ensures.away)
