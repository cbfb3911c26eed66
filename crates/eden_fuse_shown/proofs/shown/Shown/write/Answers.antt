use Rattle.std.proofs.Common.{◌≡◌, subst}
use Rattle.eden_fuse_format.specs.Asked.{seen}
use Rattle.eden_fuse_session.specs.Turns.{told}
use Rattle.eden_fuse_shown.specs.Showing.{Showing, WritesApart, data_of}
use Rattle.eden_fuse_shown.specs.Waiting.{may_wait}
use Rattle.eden_fuse_shown.proofs.Keeping.{waits_not}
use Rattle.eden_fuse_shown.proofs.shown.Shown.write.Goals as goal

pub returns-clause-writes : goal.returns-clause-writes
returns-clause-writes g c =
    let A = g.M.Mount.answers in
    let a = seen c.args.operation.now in
    let test : c.may_wait.result ≡ may_wait c.args.self.now.waits c.args.node c.args.offset c.data_of-bytes.result.now =
    subst (λ (s : Showing g.row.M.Denot). c.may_wait.result ≡ may_wait s.waits c.args.node c.args.offset c.data_of-bytes.result.now) c.self.view_is c.may_wait.ensures in
    waits_not A c.args.node c.args.offset (data_of a) c.data_of-bytes.result.now c.may_wait.result (WritesApart A c.args.node c.args.offset a) c.args.self.now c.write_apart.new.self
    (told c.write_apart.result c.write_apart.new.room.items) c.data_of-bytes.ensures test c.if-may_wait.false c.write_apart.ensures.writes
