use Rattle.std.proofs.Common.{◌≡◌, Option, None, Some, subst}
use Rattle.eden_fuse_format.specs.Asked.{seen}
use Rattle.eden_fuse_session.specs.Turns.{told}
use Rattle.eden_fuse_shown.specs.declared.extents.Gap.{Gap}
use Rattle.eden_fuse_shown.specs.Showing.{Showing, Once, WritesAnew, data_of}
use Rattle.eden_fuse_shown.specs.Waiting.{gap_of}
use Rattle.eden_fuse_shown.proofs.Keeping.{bridges, some_gap}
use Rattle.eden_fuse_shown.proofs.shown.Shown.write_apart.Goals as goal

pub returns-in-None-clause-writes : goal.returns-in-None-clause-writes
returns-in-None-clause-writes g c =
    let A = g.M.Mount.answers in
    let a = seen c.args.operation.now in
    let bytes = c.data_of.result.now in
    let gap : c.gap-gap.result ≡ gap_of c.args.self.now.waits c.args.node c.args.offset bytes =
    subst (λ (s : Showing g.row.M.Denot). c.gap-gap.result ≡ gap_of s.waits c.args.node c.args.offset bytes) c.self.view_is c.gap-gap.ensures.gap in
    bridges A c.args.node c.args.offset (data_of a) bytes c.gap-gap.result (Once A (Some c.args.node) (WritesAnew A c.args.node c.args.offset a)) c.args.self.now
    c.look_between.new.self c.write_after.new.self (told c.write_after.result c.write_after.new.room.items) None c.data_of.ensures gap c.in-None.ensures
    c.write_after.ensures.writes

pub returns-in-Some-clause-writes : goal.returns-in-Some-clause-writes
returns-in-Some-clause-writes g c =
    let A = g.M.Mount.answers in
    let a = seen c.args.operation.now in
    let bytes = c.data_of.result.now in
    let gap : c.gap-gap.result ≡ gap_of c.args.self.now.waits c.args.node c.args.offset bytes =
    subst (λ (s : Showing g.row.M.Denot). c.gap-gap.result ≡ gap_of s.waits c.args.node c.args.offset bytes) c.self.view_is c.gap-gap.ensures.gap in
    bridges A c.args.node c.args.offset (data_of a) bytes c.gap-gap.result (Once A (Some c.args.node) (WritesAnew A c.args.node c.args.offset a)) c.args.self.now
    c.look_between.new.self c.write_over.new.self (told c.write_over.result c.write_over.new.room.items) (Some c.in-Some.between.items) c.data_of.ensures gap
    c.in-Some.ensures c.write_over.ensures.writes

pub write_over-requires : goal.write_over-requires
write_over-requires g c =
    let A = g.M.Mount.answers in
    let a = seen c.args.operation.now in
    let bytes = c.data_of.result.now in
    let gap : c.gap-gap.result ≡ gap_of c.args.self.now.waits c.args.node c.args.offset bytes =
    subst (λ (s : Showing g.row.M.Denot). c.gap-gap.result ≡ gap_of s.waits c.args.node c.args.offset bytes) c.self.view_is c.gap-gap.ensures.gap in
    record {
      gap = some_gap A c.args.node c.args.offset (data_of a) bytes c.gap-gap.result (Once A (Some c.args.node) (WritesAnew A c.args.node c.args.offset a)) c.args.self.now
          c.look_between.new.self c.look_between.new.self None c.in-Some.between.items c.data_of.ensures gap c.in-Some.ensures;
    }
