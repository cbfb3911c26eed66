-- What proofs of other crates cite.
use denote.Param.Send.{IsSend, sendable}
use Rattle.std.proofs.Crossing
use Rattle.eden_history.specs.contracts.counted.Counted

-- a history that only counts its entries may go to another thread
pub Counted-send : IsSend Counted.the_row
Counted-send = search (Crossing.crosses, sendable) depth 30
