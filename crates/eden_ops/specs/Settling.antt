-- What is done before a change, so that it stands in the files.
use Rattle.std.specs.Prelude.{Result}
use Rattle.eden_model.specs.declared.fault.Fault.{Fault}
use Rattle.eden_model.specs.declared.world.World.{Ghosts}
use Rattle.eden_overlay.specs.declared.files.Files.{Ghosts as Files}
use Rattle.eden_coupling.specs.Saving.{AreAlikeUnmarked}
use Rattle.eden_inode.specs.Tables.{Table}
use Rattle.eden_ops.specs.Relocating.{Readies}

module _ {W F : Type 0} (w : Ghosts W) (f : Files F W) where
  -- each entry is as it was, but for marks that are off now
  pub record Settles (s t : Table F) (answer : Result (Unit {0}) Fault) : Type 0 where
    pub readies : Readies w f s t answer
    pub alike : AreAlikeUnmarked s.root t.root
