-- What a run is: a mount's life with the history that is asked for, and the status that says how it ended.
use Rattle.std.specs.Prelude.{◌≡◌, ◌-◌, ◌^◌, ℕ, Bool, true, false}
use Rattle.std.specs.declared.io.Read.{Ghosts as Read}
use Rattle.std.specs.declared.io.Write.{Ghosts as Write}
use Rattle.eden_model.specs.declared.id.Id.{Id}
use Rattle.eden_model.specs.declared.world.World.{Ghosts}
use Rattle.eden_source.specs.Fetching.{Answer}
use Rattle.eden_overlay.specs.declared.files.Files.{Ghosts as Files}
use Rattle.eden_mount.specs.Settings.{Settings}
use Rattle.eden_wire.specs.Serving.{Known}
use Rattle.eden_fuse_session.specs.Sending.{Known as Messages}
use Rattle.eden_fuse_session.specs.declared.receiver.Receiver.{Ghosts as Receiver}
use Rattle.eden_fuse_session.specs.declared.sender.Sender.{Ghosts as Sender}
use Rattle.eden_fuse_session.specs.Turns.{Line}
use Rattle.eden_fuse_shown.specs.declared.manner.Manner.{Manner}
use Rattle.eden_fuse_host.specs.Lines.{Coming}
use Rattle.eden_fuse_life.specs.declared.life.FolderEnding.{FolderEnding}
use Rattle.eden_fuse_life.specs.Lives.{LivesFolder}
use Rattle.eden_fuse_shared_life.specs.declared.life.SharedFolderEnding.{SharedFolderEnding}
use Rattle.eden_fuse_shared_life.specs.Lives.{LivesShared as LivesSharedFolder}
use Rattle.eden_stdio_life.specs.declared.life.Backing.{Backing}
use Rattle.eden_stdio_life.specs.declared.life.Ending.{Ending}
use Rattle.eden_stdio_life.specs.declared.opening.Base.{Base}
use Rattle.eden_stdio_life.specs.Inside.{LivesInside}
use Rattle.eden_stdio_life.specs.Lives.{Lives}
use Rattle.eden_serve_life.specs.declared.life.SharedEnding.{SharedEnding}
use Rattle.eden_serve_life.specs.Inside.{LivesSharedInside}
use Rattle.eden_serve_life.specs.Lives.{LivesShared}
use Rattle.mountd_options.specs.declared.command.HistoryOption.{HistoryOption}
use Rattle.mountd_options.specs.declared.command.HistoryOption.TheVariants as keeping
use Rattle.mountd.specs.Endings.{folder_status, shared_status, status_of}

-- whether replies are copied to be kept, for which there may be no memory
abbrev pub copies_of : HistoryOption → Bool
copies_of keeping.Kept = true
copies_of keeping.Counted = false

-- how long the history may become: one that is kept as the settings say, and another as far as it can be counted
abbrev pub limit_of : HistoryOption → Settings → ℕ
limit_of keeping.Kept settings = settings.history
limit_of keeping.Counted settings = 2 ^ 64 - 1

module _ {W F S : Type 0} (w : Ghosts W) (f : Files F W) (fetched : S → Id → Answer → S → Type 0) (copies : Bool) (limit : ℕ) where
  -- A mount of one caller lived, whose history copies replies or doesn't and may become this long, and the status says
  -- how that ended. The input and the output are the program's own, of which contracts know no bytes.
  pub record IsRun (base : Base) (settings : Settings) (backing : Backing F S) (status : ℕ) : Type 0 where
    pub input : Known × Known
    pub output : Known × Known
    pub left : Ending F S
    pub lived : Lives w f fetched limit base.root backing input output left
    pub inside : LivesInside w f fetched copies limit base settings backing input output left
    pub told : status ≡ status_of left.outcome

  -- A mount was shown as a folder that looks so. The messages and their answers are the kernel's, of which contracts know
  -- none.
  pub record IsFolderRun (base : Base) (settings : Settings) (backing : Backing F S) (manner : Manner) (status : ℕ) : Type 0 where
    pub line : Line
    pub line' : Line
    pub waiting : Messages
    pub unread : Messages
    pub left : FolderEnding F S
    pub lived : LivesFolder w f fetched copies limit base settings backing manner line line' waiting unread left
    pub told : status ≡ folder_status left.outcome

module _ {W F I O : Type 0} (w : Ghosts W) (f : Files F W) (i : Read I) (o : Write O) (limit : ℕ) where
  -- a mount of many callers lived, whose history may become this long, and the status says how that ended
  pub record IsSharedRun (base : Base) (settings : Settings) (files : F) (status : ℕ) : Type 0 where
    pub left : SharedEnding F
    pub lived : LivesShared w f i o settings.passes limit base.root files left
    pub inside : LivesSharedInside w f i o limit base settings files left
    pub told : status ≡ shared_status left.outcome

module _ {W F V O : Type 0} (w : Ghosts W) (f : Files F W) (v : Receiver V) (o : Sender O) (Comes : Coming) (limit : ℕ) where
  -- a mount was shown as a folder that looks so by several threads, whose lines give such messages, and the status says how that
  -- ended
  pub record IsSharedFolderRun (base : Base) (settings : Settings) (files : F) (manner : Manner) (status : ℕ) : Type 0 where
    pub left : SharedFolderEnding F
    pub lived : LivesSharedFolder w f v o Comes limit base settings manner files left
    pub told : status ≡ folder_status left.outcome
