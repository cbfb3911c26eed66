-- A whole life of a folder, from its parts.
use Rattle.std.proofs.Common.{ℕ, Bool, Option, Some, None, Result, Ok, Err}
use Rattle.eden_model.specs.declared.id.Id.{Id}
use Rattle.eden_model.specs.declared.world.World.{Ghosts}
use Rattle.eden_source.specs.Fetching.{Answer}
use Rattle.eden_overlay.specs.declared.files.Files.{Ghosts as Files}
use Rattle.eden_overlay.specs.declared.files.FilesFault.{FilesFault}
use Rattle.eden_mount.specs.Settings.{Settings}
use Rattle.eden_stdio_life.specs.declared.life.Backing.{Backing}
use Rattle.eden_stdio_life.specs.declared.opening.Base.{Base}
use Rattle.eden_fuse_session.specs.declared.serving.SessionFault.{SessionFault}
use Rattle.eden_fuse_session.specs.Sending.{Known}
use Rattle.eden_fuse_session.specs.Turns.{Line}
use Rattle.eden_fuse_shown.specs.declared.manner.Manner.{Manner}
use Rattle.eden_fuse_life.specs.declared.life.FolderEnding.{FolderEnding}
use Rattle.eden_fuse_life.specs.Lives.{IsShown, LivesFolderBy, first_folder_fault}

module _ {W F : Type 0} (w : Ghosts W) (f : Files F W) where
  -- the first fault of a served folder is none of the opening
  module _ {S : Type 0} (fetched : S → Id → Answer → S → Type 0) (copies : Bool) (limit : ℕ) (base : Base) (settings : Settings) (backing : Backing F S) (m : Manner)
      (line line' : Line) (waiting unread : Known) (left : FolderEnding F S) where
    pub lived : (said : Result (Unit {0}) SessionFault) (unstored : Option ℕ) (o : Option FilesFault)
        → IsShown w f fetched copies limit base settings backing m line line' waiting unread left
        → LivesFolderBy w f fetched copies limit (first_folder_fault said unstored o) base settings backing m line line' waiting unread left
    lived (Err e) unstored o h = h
    lived (Ok v) (Some errno) o h = h
    lived (Ok v) None (Some e) h = h
    lived (Ok v) None None h = h
