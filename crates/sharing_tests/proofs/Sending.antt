-- The mounted checkout may go to other threads.
use denote.Param.Send.{IsSend, sendable}
use Rattle.std.specs.contracts.alloc.Global as Heap
use Rattle.std.specs.contracts.impls.GlobalAllocator.TheImpl.{ghosts}
use Rattle.std.below.core.specs.contracts.clone.Clone+copy.TheImpl as copying
use Rattle.eden_model.specs.contracts.world.Outside
use Rattle.eden_model.specs.contracts.world.OutsideWorld.TheImpl as world
use Rattle.eden_overlay.specs.contracts.memory.MemoryFiles
use Rattle.eden_overlay.specs.contracts.memory.MemoryFilesFiles.TheImpl as stored
use Rattle.eden_overlay.proofs.CallerLemmas.{MemoryFiles-send}
use Rattle.eden_checkout.specs.contracts.checkout.Checkout
use Rattle.eden_checkout.proofs.CallerLemmas.{Checkout-send}

outside_send : IsSend Outside.the_row
outside_send = search sendable depth 20

pub Tree-send : IsSend (Checkout.the_row Heap.the_row Outside.the_row (MemoryFiles.the_row Outside.the_row world.ghosts) ghosts (copying.ghosts Heap.the_row)
    world.ghosts (stored.ghosts Outside.the_row world.ghosts world.dict))
Tree-send = Checkout-send _ _ world.ghosts (stored.ghosts Outside.the_row world.ghosts world.dict) outside_send (MemoryFiles-send Outside.the_row world.ghosts)
