use Rattle.std.proofs.Common.{Ok, Err}
use Rattle.eden_ops.proofs.Readied.{stays_on}
use Rattle.eden_ops.proofs.Relocation.{readies_on}
use Rattle.eden_ops.proofs.ready.let_go_below.Goals as goal

pub returns-in-Err-clause-readies : goal.returns-in-Err-clause-readies
returns-in-Err-clause-readies g c =
    readies_on g.W.World g.F.Files c.args.inodes.now c.loop-i.inodes c.let_go_at.new.inodes (Err c.in-Err.fault) c.loop-i.invariant.0 c.in-Err.ensures.readies

pub loop-i-preserved : goal.loop-i-preserved
loop-i-preserved g c =
    let s = c.args.inodes.now in
    let t = c.loop-i.inodes in
    let u = c.let_go_at.new.inodes in (
      readies_on g.W.World g.F.Files s t u (Ok tt) c.loop-i.invariant.0 c.in-Ok.ensures.readies,
      stays_on c.args.path.now s.root t.root u.root c.loop-i.invariant.1 c.let_go_at.ensures.stays,
    )
