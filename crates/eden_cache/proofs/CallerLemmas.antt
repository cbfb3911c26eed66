-- What callers' proofs cite beside the laws.
use denote.RattleType.{RattleType}
use denote.Param.Send.{IsSend, sendable}
use Rattle.std.proofs.Crossing
use Rattle.std.specs.contracts.alloc.Global as Heap
use Rattle.std.specs.contracts.impls.GlobalAllocator.TheImpl.{ghosts}
use Rattle.eden_model.specs.declared.world.World.{Ghosts}
use Rattle.eden_cache.specs.contracts.stock.Stock
use Rattle.eden_cache.proofs.cache.ObjectCache.TheSendSync as cache
use Rattle.eden_cache.proofs.stock.Stock.TheSendSync as stock

-- a stock at the heap may go to another thread
pub Stock-send : (W : RattleType) (w : Ghosts W.Denot) → IsSend (Stock.the_row W Heap.the_row w ghosts)
Stock-send W w = search (stock.the_send, cache.the_send, Crossing.crosses, sendable) depth 30
