-- What proofs of other crates cite.
use denote.RattleType.{RattleType}
use denote.Param.Send.{IsSend, sendable}
use Rattle.std.proofs.Crossing
use Rattle.std.proofs.MapsCrossing
use Rattle.std.specs.contracts.alloc.Global as Heap
use Rattle.std.specs.contracts.impls.GlobalAllocator.TheImpl.{ghosts}
use Rattle.std.below.core.specs.contracts.clone.Clone+copy.TheImpl as copying
use Rattle.eden_model.specs.declared.world.World.{Ghosts}
use Rattle.eden_overlay.specs.declared.files.Files.{Ghosts as Files}
use Rattle.eden_overlay.proofs.CallerLemmas.{Overlay-send}
use Rattle.eden_cache.proofs.CallerLemmas.{Stock-send}
use Rattle.eden_tree.proofs.CallerLemmas.{Entry-send}
use Rattle.eden_checkout.specs.contracts.checkout.Checkout as Checkout

-- A checkout at the heap may go to another thread, where its outside and its files may. `search` finds it within a function
-- of few type parameters alone.
pub Checkout-send : (W F : RattleType) (w : Ghosts W.Denot) (f : Files F.Denot W.Denot) → IsSend W → IsSend F
    → IsSend (Checkout.the_row Heap.the_row W F ghosts (copying.ghosts Heap.the_row) w f)
Checkout-send W F w f s t =
    search (Overlay-send, Stock-send, Entry-send, MapsCrossing.crosses, Crossing.crosses, sendable) depth 60 fits 20000
