-- A whole life, from its parts.
use Rattle.std.proofs.Common.{ℕ, Bool, Option, Some, None, Result, Ok, Err}
use Rattle.eden_model.specs.declared.id.Id.{Id}
use Rattle.eden_model.specs.declared.world.World.{Ghosts}
use Rattle.eden_source.specs.Fetching.{Answer}
use Rattle.eden_overlay.specs.declared.files.Files.{Ghosts as Files}
use Rattle.eden_overlay.specs.declared.files.FilesFault.{FilesFault}
use Rattle.eden_mount.specs.Settings.{Settings}
use Rattle.eden_wire.specs.declared.session_fault.SessionFault.{SessionFault}
use Rattle.eden_wire.specs.Serving.{Known}
use Rattle.eden_stdio_life.specs.declared.life.Backing.{Backing}
use Rattle.eden_stdio_life.specs.declared.life.Ending.{Ending}
use Rattle.eden_stdio_life.specs.declared.opening.Base.{Base}
use Rattle.eden_stdio_life.specs.Inside.{IsLivedInside, LivesInsideBy}
use Rattle.eden_stdio_life.specs.Lives.{first_life_fault}

module _ {W F : Type 0} (w : Ghosts W) (f : Files F W) where
  -- the first fault of a served caller is none of the opening
  module _ {S : Type 0} (fetched : S → Id → Answer → S → Type 0) (copies : Bool) (limit : ℕ) (base : Base) (settings : Settings) (backing : Backing F S) (input output : Known × Known)
      (left : Ending F S) where
    pub lived : (said : Result (Unit {0}) SessionFault) (o : Option FilesFault) → IsLivedInside w f fetched copies limit base settings backing input output left
        → LivesInsideBy w f fetched copies limit (first_life_fault said o) base settings backing input output left
    lived (Err e) o h = h
    lived (Ok v) (Some e) h = h
    lived (Ok v) None h = h
