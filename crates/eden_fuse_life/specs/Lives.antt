-- A folder's life: the overlay is opened over a commit's tree, the folder is served, and the overlay is closed.
use Rattle.std.specs.Prelude.{◌≡◌, ℕ, Bool, Option, Some, None, Result, Ok, Err, ⊤}
use Rattle.eden_model.specs.declared.id.Id.{Id}
use Rattle.eden_model.specs.declared.world.World.{Ghosts}
use Rattle.eden_model.specs.Histories.{Legal, replay}
use Rattle.eden_model.specs.Numbers.{Numbers, replay_numbers}
use Rattle.eden_model.specs.Trees.{Tree}
use Rattle.eden_source.specs.Fetching.{Answer}
use Rattle.eden_overlay.specs.declared.files.Files.{Ghosts as Files}
use Rattle.eden_overlay.specs.declared.files.FilesFault.{FilesFault}
use Rattle.eden_mount.specs.Serving.{Desk, Stays, SyncsDesk}
use Rattle.eden_mount.specs.Settings.{Settings, room_for}
use Rattle.eden_checkout.specs.declared.fault.OpenFault.{OpenFault}
use Rattle.eden_checkout.specs.Attempted.{attempted}
use Rattle.eden_checkout.specs.Checkouts.{Checkout}
use Rattle.eden_stdio_life.specs.declared.life.Backing.{Backing}
use Rattle.eden_stdio_life.specs.declared.opening.Base.{Base}
use Rattle.eden_stdio_life.specs.Calls.{CallAnswers}
use Rattle.eden_stdio_life.specs.Opening.{Closes, IsOpened, IsNotOpened}
use Rattle.eden_stdio_life.specs.Serving.{Begins}
use Rattle.eden_fuse_session.specs.declared.serving.SessionFault.{SessionFault}
use Rattle.eden_fuse_session.specs.Sending.{Known}
use Rattle.eden_fuse_session.specs.Turns.{Line}
use Rattle.eden_fuse_session.specs.Sessions.{MessageSession}
use Rattle.eden_fuse_shown.specs.declared.manner.Manner.{Manner}
use Rattle.eden_fuse_shown.specs.Beginning.{IsBlank}
use Rattle.eden_fuse_shown.specs.Showing.{Showing, Shows, StoresAll}
use Rattle.eden_fuse_life.specs.declared.fault.FolderFault.{FolderFault}
use Rattle.eden_fuse_life.specs.declared.fault.FolderFault.TheVariants as life
use Rattle.eden_fuse_life.specs.declared.life.FolderEnding.{FolderEnding}

-- the session's fault is reported before the error of the last stores, and that before the close's fault
abbrev pub first_folder_fault : Result ⊤ SessionFault → Option ℕ → Option FilesFault → Result ⊤ FolderFault
first_folder_fault (Err fault) unstored unclosed = Err (life.Session fault)
first_folder_fault (Ok _) (Some errno) unclosed = Err (life.Unstored errno)
first_folder_fault (Ok _) None (Some fault) = Err (life.Close fault)
first_folder_fault (Ok _) None None = Ok tt

module _ {W F : Type 0} (w : Ghosts W) (f : Files F W) where
  -- a served folder's checkout was closed, and the first fault reported
  pub record EndsFolder {S : Type 0} (root : Id) (t : Checkout F) (tree : Tree) (N : Numbers) (source : S) (said : Result ⊤ SessionFault)
      (left : FolderEnding F S) : Type 0 where
    pub files : Closes w f root t tree N left.unclosed left.backing.files
    pub source_left : left.backing.source ≡ source
    pub told : left.outcome ≡ first_folder_fault said left.unstored left.unclosed

  -- the history copies replies or doesn't, and may become this long
  module _ {S : Type 0} (fetched : S → Id → Answer → S → Type 0) (copies : Bool) (limit : ℕ) where
    -- The overlay wasn't opened, for that fault: nothing was received or sent, and the source wasn't asked.
    pub record IsUnshown (base : Base) (backing : Backing F S) (line line' : Line) (waiting unread : Known) (why : OpenFault)
        (left : FolderEnding F S) : Type 0 where
      pub files : IsNotOpened w f base backing.files why left.backing.files
      pub source : left.backing.source ≡ backing.source
      pub unreceived : unread ≡ waiting
      pub unsent : line' ≡ line
      pub unstored : left.unstored ≡ None
      pub unclosed : left.unclosed ≡ None

    -- The overlay was opened, the folder served, all that waited stored, or the first error reported, and the overlay closed, however
    -- the session ended. The files are the same commit's. If the outside is honest, the history is one of the opening tree with its
    -- numbers, what the files show is the tree after it, and if they were closed they back the numbers that it gave.
    pub record IsShown (base : Base) (settings : Settings) (backing : Backing F S) (m : Manner) (line line' : Line) (waiting unread : Known)
        (left : FolderEnding F S) : Type 0 where
      pub begun : Showing (Desk (Checkout F) S)
      pub begins : Begins (room_for settings) limit begun.mount.core.table backing.source begun.mount
      pub manner : begun.manner ≡ m
      pub blank : IsBlank begun
      pub opened : IsOpened w f base settings backing.files begun.mount.core.table
      pub ended : Showing (Desk (Checkout F) S)
      pub said : Result ⊤ SessionFault
      pub session : MessageSession (Shows (CallAnswers fetched (attempted w f) w.honest copies) (SyncsDesk (attempted w f) w.honest)) (begun, line)
          (ended, line') waiting unread said
      pub last : Desk (Checkout F) S
      pub stored : StoresAll (CallAnswers fetched (attempted w f) w.honest copies) ended.nodes ended.waits ended.mount left.unstored last
      pub stays : Stays (attempted w f) begun.mount.core last.core
      pub legal : w.honest → Legal w.opening w.numbers last.core.history
      pub ends : EndsFolder base.root last.core.table (replay w.opening last.core.history) (replay_numbers w.numbers last.core.history)
          last.source said left

    abbrev pub LivesFolderBy : Result ⊤ FolderFault → Base → Settings → Backing F S → Manner → Line → Line → Known → Known
        → FolderEnding F S → Type 0
    LivesFolderBy (Err (life.Open why)) base settings backing m line line' waiting unread left =
        IsUnshown base backing line line' waiting unread why left
    LivesFolderBy outcome base settings backing m line line' waiting unread left =
        IsShown base settings backing m line line' waiting unread left

    -- a whole life, with what was sent and what was yet to be received before and after it
    abbrev pub LivesFolder : Base → Settings → Backing F S → Manner → Line → Line → Known → Known → FolderEnding F S → Type 0
    LivesFolder base settings backing m line line' waiting unread left =
        LivesFolderBy left.outcome base settings backing m line line' waiting unread left
