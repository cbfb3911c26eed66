use Rattle.std.proofs.Common.{◌≡◌}
use Rattle.eden_inode.specs.Tables.{ShowsSameNumbers}
use Rattle.eden_inode.specs.Trails.{KeepsNames}
use Rattle.eden_materialise.proofs.Fronts.{SoFar}
use Rattle.eden_materialise.proofs.saving.save_above.Given as goal

abbrev pub invariant-loop-i : goal.invariant-loop-i
invariant-loop-i g l =
    SoFar g.W.World.honest g.W.World.repository l.path (g.F.Files.stored l.initial.inodes.files) l.initial.inodes.root (g.F.Files.failures l.initial.inodes.files) l.i
    (g.F.Files.stored l.inodes.files) l.inodes.root (g.F.Files.failures l.inodes.files)
    × (((l.inodes.next ≡ l.initial.inodes.next) × (l.inodes.clock ≡ l.initial.inodes.clock))
    × (((l.inodes.changes ≡ l.initial.inodes.changes) × KeepsNames l.initial.inodes.root l.inodes.root) × (g.W.World.honest → ShowsSameNumbers g.F.Files l.initial.inodes l.inodes)))
