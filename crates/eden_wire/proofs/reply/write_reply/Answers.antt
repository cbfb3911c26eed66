use Rattle.std.proofs.Common.{[]}
use Rattle.eden_wire.proofs.Growing.{holds_none}
use Rattle.eden_wire.proofs.reply.write_reply.Goals as goal

pub returns : goal.returns
returns g c = c.flush.ensures.written _ _ (c.put_reply.ensures.after _ [] (holds_none _ _ c.clear.ensures))
