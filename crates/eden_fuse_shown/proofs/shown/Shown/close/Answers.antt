use Rattle.eden_fuse_shown.proofs.Keeping.{still_open, closed_last}
use Rattle.eden_fuse_shown.proofs.shown.Shown.close.Goals as goal

pub returns-then-not-last-clause-closes : goal.returns-then-not-last-clause-closes
returns-then-not-last-clause-closes g c =
    still_open g.M.Mount.answers c.args.node c.lower-last.result c.args.self.now c.lower-last.new.self c.lower-last.ensures.last c.if-not-last.true c.lower-last.ensures.closed

pub returns-clause-closes : goal.returns-clause-closes
returns-clause-closes g c =
    closed_last g.M.Mount.answers c.args.node c.lower-last.result c.args.self.now c.lower-last.new.self c.empty.new.self c.let_go_of.new.self
    c.lower-last.ensures.last c.if-not-last.false c.lower-last.ensures.closed c.empty.ensures c.let_go_of.ensures
