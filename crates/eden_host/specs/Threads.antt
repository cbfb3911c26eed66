-- What threads ask of the types in them.
use Rattle.std.specs.Borrow.{RattleType}
use Rattle.std.specs.Thread.{IsSync}
use denote.Param.Send.{IsSend}

-- Guests of such a mount may be served in threads: a World, a naming, a source, a reader and a writer may go to another
-- thread, and the shared mount and the runtime may be used by several.
abbrev pub MayHaveThreads : (W J S I O C R : RattleType) → Type 0
MayHaveThreads W J S I O C R = IsSend W × IsSend J × IsSend S × IsSend I × IsSend O × IsSync C × IsSync R
