use Rattle.std.proofs.Common.{sym}
use Rattle.eden_fuse_host.proofs.LookedOn.{attended}
use Rattle.eden_fuse_host.proofs.attending.attend.Goals as goal

pub returns : goal.returns
returns g c =
    let line = c.line-receiver.result in
    rw c.into_pass.ensures (rw (sym c.new-hand.ensures) (attended g.V.Receiver g.O.Sender (g.G.Lines.comes c.args.lines.now) g.D.Answering.turns _ _ line.0
    c.session-said.new.receiver line.1 c.session-said.new.sender _ c.line-receiver.ensures.whole c.line-receiver.ensures.unused c.session-said.ensures))
