use Rattle.std.proofs.Common.{sym}
use Rattle.eden_host.proofs.Attending.{attended}
use Rattle.eden_host.proofs.attend.Hosting.attend.Goals as goal

pub returns : goal.returns
returns g c =
    let session = c.session-said.ensures in
    rw c.into_pass.ensures.same (rw (sym c.new-guest.ensures) (attended g.W.World.honest g.W.World.opening g.W.World.numbers g.I.Read g.O.Write _ _
    c.args.reader c.session-said.new.reader c.args.writer c.session-said.new.writer _ session))
