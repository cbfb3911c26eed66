use Rattle.eden_ops.proofs.Renumbers.{renumbers}
use Rattle.eden_ops.proofs.attempting.attempt_from.Goals as goal

pub returns-in_default-clause-renumbers : goal.returns-in_default-clause-renumbers
returns-in_default-clause-renumbers g c h =
    let s = c.args.inodes.now in
    let t = c.attempt_along-attempt.new.inodes in
    let e = c.attempt_along-attempt.ensures in
    renumbers g.W.World g.F.Files c.keeps_laws.ensures.gains c.backing_laws.ensures.gains_more c.args.request.now s t h (c.holds.ensures.numbers h)
    (c.holds-2.ensures.table.most) c.attempt_along-attempt.result e.looks e.edits e.tells

pub returns-in-Finished-clause-renumbers : goal.returns-in-Finished-clause-renumbers
returns-in-Finished-clause-renumbers g c h =
    let s = c.args.inodes.now in
    let t = c.attempt_along-attempt.new.inodes in
    let e = c.attempt_along-attempt.ensures in
    renumbers g.W.World g.F.Files c.keeps_laws.ensures.gains c.backing_laws.ensures.gains_more c.args.request.now s t h (c.holds.ensures.numbers h)
    (c.holds-2.ensures.table.most) c.attempt_along-attempt.result e.looks e.edits e.tells
