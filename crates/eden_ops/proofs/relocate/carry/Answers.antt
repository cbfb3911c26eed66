use Rattle.eden_ops.proofs.Relocation.{relocates_after, relocates_never}
use Rattle.eden_ops.proofs.relocate.carry.Goals as goal

pub returns-in-Err : goal.returns-in-Err
returns-in-Err g c =
    relocates_never g.W.World g.F.Files c.args.from.now c.args.to.now c.args.inodes.now c.clear_way.new.inodes c.clear_way.ensures.stays c.clear_way.ensures.loaded c.in-Err.fault
    c.in-Err.ensures.readies

pub returns-then-is_some : goal.returns-then-is_some
returns-then-is_some g c =
    relocates_after g.W.World g.F.Files c.args.from.now c.args.to.now c.args.inodes.now c.clear_way.new.inodes c.clear_way.ensures.stays c.clear_way.ensures.loaded c.move_dir.new.inodes
    c.move_dir.result c.in-Ok.ensures.readies c.move_dir.ensures

pub returns : goal.returns
returns g c =
    relocates_after g.W.World g.F.Files c.args.from.now c.args.to.now c.args.inodes.now c.clear_way.new.inodes c.clear_way.ensures.stays c.clear_way.ensures.loaded c.move_bare.new.inodes
    c.move_bare.result c.in-Ok.ensures.readies c.move_bare.ensures
