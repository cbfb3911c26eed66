use Rattle.std.proofs.Common.{sym, subst}
use Rattle.eden_overlay.specs.Files.{Stored}
use Rattle.eden_coupling.specs.Kept.{IsKept}
use Rattle.eden_coupling.specs.NumberKept.{KeepsNumbers}
use Rattle.eden_inode.proofs.inodes.Inodes.sync.Goals as goal

pub invariant_of-self : goal.invariant_of-self
invariant_of-self g c = (
  c.self.invariant.0,
  (
    λ h. subst (λ (G : Stored). IsKept g.W.World.repository G c.self.inside.root c.self.inside.next) (sym (c.sync.ensures.unchanged h)) (c.self.invariant.1.0 h),
    λ h. subst (λ (G : Stored). KeepsNumbers g.W.World.repository G c.self.inside.root c.self.inside.next) (sym (c.sync.ensures.unchanged h)) (c.self.invariant.1.1 h),
  ),
)
