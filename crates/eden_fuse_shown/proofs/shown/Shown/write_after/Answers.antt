use Rattle.eden_fuse_format.specs.Asked.{seen}
use Rattle.eden_fuse_session.specs.Turns.{told}
use Rattle.eden_fuse_shown.specs.Showing.{WritesAnew}
use Rattle.eden_fuse_shown.proofs.Keeping.{unsettled, settled}
use Rattle.eden_fuse_shown.proofs.shown.Shown.write_after.Goals as goal

pub returns-in-Some-clause-writes : goal.returns-in-Some-clause-writes
returns-in-Some-clause-writes g c =
    let A = g.M.Mount.answers in
    let Anew = WritesAnew A c.args.node c.args.offset (seen c.args.operation.now) in
    unsettled A Anew c.args.node c.args.self.now c.settle.new.self c.settle.result c.settle.ensures c.in-Some.errno
    (told c.refuse.result c.args.room.now.items) c.in-Some.is (c.refuse.ensures.told c.args.room.now.items)

pub returns-in-None-clause-writes : goal.returns-in-None-clause-writes
returns-in-None-clause-writes g c =
    let A = g.M.Mount.answers in
    let Anew = WritesAnew A c.args.node c.args.offset (seen c.args.operation.now) in
    settled A Anew c.args.node c.args.self.now c.settle.new.self c.settle.result c.settle.ensures
    (told c.write_anew.result c.write_anew.new.room.items) c.write_anew.new.self c.in-None.is c.write_anew.ensures.writes
