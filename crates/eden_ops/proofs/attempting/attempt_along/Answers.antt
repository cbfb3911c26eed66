use Rattle.std.proofs.Common.{rules}
use Rattle.eden_ops.proofs.Leaving.{leaves_kept}
use Rattle.eden_ops.specs.Looks.{IsLook, IsChange}
use Rattle.eden_ops.proofs.Resuming.{leads_look, leads_change}
use Rattle.eden_ops.proofs.attempting.attempt_along.Goals as goal

pub returns-in-Kind-clause-leaves : goal.returns-in-Kind-clause-leaves
returns-in-Kind-clause-leaves g c = leaves_kept g.W.World g.F.Files c.args.request.now c.args.inodes.now c.look.new.inodes c.look.ensures.keeps c.look.result

pub look-requires-clause-leads : goal.look-requires-clause-leads
look-requires-clause-leads g c =
    let look : IsLook c.args.request.now = search rules in
    leads_look c.args.request.now c.args.walk.now.second c.args.walk.now.trail.positions c.args.inodes.now.root look c.requires.leads

pub change-requires-clause-leads : goal.change-requires-clause-leads
change-requires-clause-leads g c =
    let change : IsChange c.args.request.now = search rules in
    leads_change c.args.request.now c.args.walk.now.second c.args.walk.now.trail.positions c.args.inodes.now.root change c.requires.leads

pub returns-in-Kind-clause-in_place : goal.returns-in-Kind-clause-in_place
returns-in-Kind-clause-in_place g c none = (c.keeps_laws.ensures.counts _ c.args.inodes.now c.look.new.inodes c.look.ensures.keeps).1.0
