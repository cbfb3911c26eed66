use Rattle.std.proofs.Common.{◌+◌, arith}
use Rattle.eden_inode.proofs.inodes.Inodes.give_number.Goals as goal

pub invariant_of-self : goal.invariant_of-self
invariant_of-self g c =
    let t = c.self.invariant.0 in
    let next = c.self.inside.next in (
      record { root = t.root; kind = t.kind; listed = t.listed; least = omega (arith, t.least); most = omega (arith, c.if-self-ge-NUMBER_END.false) },
      (
        λ h. c.kept_laws.ensures.next g.W.World.repository (g.F.Files.stored c.self.inside.overlay) c.self.inside.root next (next + 1) (c.self.invariant.1.0 h) (omega arith),
        λ h. c.number_kept_laws.ensures.next g.W.World.repository (g.F.Files.stored c.self.inside.overlay) c.self.inside.root next (next + 1) (c.self.invariant.1.1 h) (omega arith)
            (omega (arith, c.if-self-ge-NUMBER_END.false)),
      ),
    )
