use Rattle.eden_fuse_session.specs.Turns.{told}
use Rattle.eden_fuse_shown.specs.Showing.{Syncs}
use Rattle.eden_fuse_shown.proofs.Keeping.{unsettled}
use Rattle.eden_fuse_shown.proofs.shown.Shown.sync.Goals as goal

pub returns-in-Some-clause-syncs : goal.returns-in-Some-clause-syncs
returns-in-Some-clause-syncs g c =
    unsettled g.M.Mount.answers (Syncs g.M.Mount.syncs) c.args.node c.args.self.now c.settle.new.self c.settle.result
    c.settle.ensures c.in-Some.errno (told c.refuse.result c.args.room.now.items) c.in-Some.is (c.refuse.ensures.told c.args.room.now.items)
