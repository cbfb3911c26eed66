use Rattle.eden_ops.proofs.Bringing.{object_ok, object_either, object_why}
use Rattle.eden_ops.proofs.bring.bring_object.Goals as goal

pub returns-clause-ok : goal.returns-clause-ok
returns-clause-ok g c =
    let e = c.load.ensures in
    object_ok g.W.World g.F.Files c.args.path.now c.args.inodes.now c.load.new.self e.files e.counted e.rest c.args.entries.now c.requires.tree c.load.result e.object

pub returns-clause-caused : goal.returns-clause-caused
returns-clause-caused g c =
    let e = c.load.ensures in
    object_why g.W.World g.F.Files c.args.path.now c.args.inodes.now c.load.new.self e.files e.counted e.rest c.args.entries.now c.requires.tree c.load.result e.err e.fault

pub returns-clause-keeps : goal.returns-clause-keeps
returns-clause-keeps g c =
    let e = c.load.ensures in
    object_either g.W.World g.F.Files c.args.path.now c.args.inodes.now c.load.new.self e.files e.counted e.rest c.args.entries.now c.requires.tree c.load.result e.object e.err
