use Rattle.std.proofs.Common.{sym}
use Rattle.eden_fuse_host.proofs.Heard.{told_heard}
use Rattle.eden_fuse_host.proofs.calling.CallingMount.ask.Goals as goal

pub returns-in-Ok : goal.returns-in-Ok
returns-in-Ok g c = rw (sym c.self.view_is) (told_heard g.W.World.honest g.W.World.opening g.W.World.numbers c.self.inside.pass
    c.ask.new.pass c.args.request c.in-Ok.answer c.heard.result c.in-Ok.ensures c.heard.ensures)
