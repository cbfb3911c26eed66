use Rattle.eden_ops.proofs.Bringing.{stored_ok, stored_either, stored_why}
use Rattle.eden_ops.proofs.bring.bring_stored.Goals as goal

pub returns-clause-ok : goal.returns-clause-ok
returns-clause-ok g c =
    let e = c.load.ensures in
    stored_ok g.W.World g.F.Files c.args.path.now c.args.inodes.now c.load.new.self e.files e.counted e.rest c.load.result c.requires.none e.own

pub returns-clause-caused : goal.returns-clause-caused
returns-clause-caused g c =
    let e = c.load.ensures in
    stored_why g.W.World g.F.Files c.args.path.now c.args.inodes.now c.load.new.self e.files e.counted e.rest c.load.result e.err e.fault

pub returns-clause-keeps : goal.returns-clause-keeps
returns-clause-keeps g c =
    let e = c.load.ensures in
    stored_either g.W.World g.F.Files c.args.path.now c.args.inodes.now c.load.new.self e.files e.counted e.rest c.load.result c.holds.ensures.numbers c.requires.none e.own e.err
