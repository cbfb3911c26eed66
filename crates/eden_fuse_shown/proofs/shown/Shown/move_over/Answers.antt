use Rattle.eden_fuse_format.specs.Asked.{seen}
use Rattle.eden_fuse_session.specs.Turns.{told}
use Rattle.eden_fuse_shown.proofs.Keeping.{unmoved, moved}
use Rattle.eden_fuse_shown.proofs.shown.Shown.move_over.Goals as goal

pub returns-then-failed-clause-replaces : goal.returns-then-failed-clause-replaces
returns-then-failed-clause-replaces g c =
    unmoved g.M.Mount.answers c.args.node c.args.held c.args.directory (seen c.args.operation.now) c.last_name-name.result.now c.args.self.now c.hide-hid.new.self
    (told c.hide-hid.result c.hide-hid.new.room.items) c.last_name-name.ensures c.hide-hid.ensures.runs (c.if-failed.ensures c.hide-hid.new.room.items)

pub returns-clause-replaces : goal.returns-clause-replaces
returns-clause-replaces g c =
    moved g.M.Mount.answers c.args.node c.args.held c.args.directory (seen c.args.operation.now) c.last_name-name.result.now c.args.self.now c.hide-hid.new.self
    c.answer-said.new.self c.restore.new.self (told c.hide-hid.result c.hide-hid.new.room.items) (told c.answer-said.result c.answer-said.new.room.items)
    (told c.restore.result c.restore.new.room.items) c.last_name-name.ensures c.restore.ensures.same c.hide-hid.ensures.runs
    (c.if-failed.ensures c.hide-hid.new.room.items) c.answer-said.ensures.runs c.restore.ensures.restores
