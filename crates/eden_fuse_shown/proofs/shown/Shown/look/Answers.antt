use Rattle.std.proofs.Common.{None}
use Rattle.eden_fuse_format.specs.Asked.{seen}
use Rattle.eden_fuse_session.specs.Turns.{told}
use Rattle.eden_fuse_shown.specs.Showing.{Runs}
use Rattle.eden_fuse_shown.proofs.Keeping.{unsettled}
use Rattle.eden_fuse_shown.proofs.shown.Shown.look.Goals as goal

pub returns-in-Some-clause-looks : goal.returns-in-Some-clause-looks
returns-in-Some-clause-looks g c =
    unsettled g.M.Mount.answers (Runs g.M.Mount.answers c.args.node (seen c.args.operation.now) None) c.args.node c.args.self.now c.settle.new.self c.settle.result
    c.settle.ensures c.in-Some.errno (told c.refuse.result c.args.room.now.items) c.in-Some.is (c.refuse.ensures.told c.args.room.now.items)
