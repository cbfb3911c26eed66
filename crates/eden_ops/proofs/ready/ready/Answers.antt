use Rattle.eden_ops.proofs.Readied.{stays_on}
use Rattle.eden_ops.proofs.Relocation.{readies_on}
use Rattle.eden_ops.proofs.ready.ready.Goals as goal

pub returns-clause-stays : goal.returns-clause-stays
returns-clause-stays g c =
    stays_on c.args.path.now c.args.inodes.now.root c.let_go_below.new.inodes.root c.settle_at.new.inodes.root c.let_go_below.ensures.stays c.settle_at.ensures.stays

pub returns-clause-readies : goal.returns-clause-readies
returns-clause-readies g c =
    readies_on g.W.World g.F.Files c.args.inodes.now c.let_go_below.new.inodes c.settle_at.new.inodes c.settle_at.result c.in-Ok.ensures.readies c.settle_at.ensures.readies
