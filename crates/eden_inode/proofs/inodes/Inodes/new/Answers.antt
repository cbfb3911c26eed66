use Rattle.eden_inode.proofs.Starts.{fresh_table, fresh_kept}
use Rattle.eden_inode.proofs.inodes.Inodes.new.Goals as goal

pub invariant_of-result-2 : goal.invariant_of-result-2
invariant_of-result-2 g c = (
  fresh_table c.args.root c.args.next c.requires.least c.requires.most,
  (
    λ h. fresh_kept g.W.World.repository (g.F.Files.stored c.args.overlay) c.args.root c.args.next (c.requires.starts h),
    λ h. (c.requires.starts h).numbers,
  ),
)
