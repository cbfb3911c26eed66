use Rattle.std.proofs.Common.{sym, subst}
use Rattle.eden_coupling.specs.Kept.{IsKept}
use Rattle.eden_coupling.specs.NumberKept.{KeepsNumbers}
use Rattle.eden_inode.proofs.inodes.Inodes.spare.Goals as goal

pub invariant_of-self : goal.invariant_of-self
invariant_of-self g c = (
  c.self.invariant.0,
  (
    λ h. subst (λ o. IsKept g.W.World.repository (g.F.Files.stored o) c.self.inside.root c.self.inside.next) (sym c.spare.ensures) (c.self.invariant.1.0 h),
    λ h. subst (λ o. KeepsNumbers g.W.World.repository (g.F.Files.stored o) c.self.inside.root c.self.inside.next) (sym c.spare.ensures) (c.self.invariant.1.1 h),
  ),
)
