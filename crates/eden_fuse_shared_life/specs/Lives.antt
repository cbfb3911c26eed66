-- A folder's life by several threads: the overlay is opened over a commit's tree, the folder is served, and the overlay is closed.
use Rattle.std.specs.Prelude.{◌≡◌, ◌⊎◌, ℕ, None, Result, Ok, Err, ⊤}
use Rattle.eden_model.specs.declared.world.World.{Ghosts}
use Rattle.eden_model.specs.Histories.{replay}
use Rattle.eden_model.specs.Numbers.{Numbers, replay_numbers}
use Rattle.eden_overlay.specs.declared.files.Files.{Ghosts as Files}
use Rattle.eden_inode.specs.Tables.{shows}
use Rattle.eden_mount.specs.Core.{Core}
use Rattle.eden_mount.specs.Settings.{Settings}
use Rattle.eden_checkout.specs.declared.fault.OpenFault.{OpenFault}
use Rattle.eden_checkout.specs.declared.fault.OpenFault.TheVariants as opens
use Rattle.eden_checkout.specs.Attempted.{attempted}
use Rattle.eden_checkout.specs.Checkouts.{Checkout}
use Rattle.eden_shared.specs.declared.account.Terms.{Terms}
use Rattle.eden_stdio_life.specs.declared.opening.Base.{Base}
use Rattle.eden_stdio_life.specs.Opening.{Closes, IsBacking, IsOpened, IsNotOpened}
use Rattle.eden_fuse_session.specs.declared.receiver.Receiver.{Ghosts as Receiver}
use Rattle.eden_fuse_session.specs.declared.sender.Sender.{Ghosts as Sender}
use Rattle.eden_fuse_session.specs.declared.serving.SessionFault.{SessionFault}
use Rattle.eden_fuse_shown.specs.declared.manner.Manner.{Manner}
use Rattle.eden_fuse_life.specs.declared.fault.FolderFault.{FolderFault}
use Rattle.eden_fuse_life.specs.declared.fault.FolderFault.TheVariants as life
use Rattle.eden_fuse_life.specs.Lives.{first_folder_fault}
use Rattle.eden_fuse_host.specs.declared.sharing.FolderTable.{FolderTable}
use Rattle.eden_fuse_host.specs.Lines.{Coming}
use Rattle.eden_fuse_host.specs.Sharing.{IsLeft}
use Rattle.eden_fuse_shared_life.specs.declared.life.SharedFolderEnding.{SharedFolderEnding}

-- what a mount of these settings over that checkout, whose history has that limit, is opened with
abbrev pub opened_with : {F : Type 0} → Settings → ℕ → Checkout F → Terms
opened_with s limit t = record { passes = s.passes; limit = limit; commit = t.root; next = t.inodes.next }

module _ {W F : Type 0} (w : Ghosts W) (f : Files F W) where
  -- a checkout was closed to the files, or it wasn't, and shows what it showed; they back what it backed of numbers
  abbrev pub ClosesAs : Checkout F → SharedFolderEnding F → Type 0
  ClosesAs t left = (N : Numbers) → IsBacking w f N t → Closes w f t.root t (shows w f t.inodes) N left.unclosed left.files

  -- an open checkout was closed, and the first fault reported, beside what the last stores came to: it was shown, or there was no
  -- memory to share it
  abbrev pub Ends : Result (FolderTable (Checkout F)) (Checkout F) → SharedFolderEnding F → Type 0
  Ends (Ok x) left = ClosesAs x.table left × (left.unstored ≡ x.unstored) × (left.outcome ≡ first_folder_fault x.said x.unstored left.unclosed)
  Ends (Err t) left = ClosesAs t left × (left.unstored ≡ None) × (left.outcome ≡ Err (life.Open opens.Memory))

  -- the overlay wasn't opened, for that fault
  pub record IsUnopened (base : Base) (files : F) (why : OpenFault) (left : SharedFolderEnding F) : Type 0 where
    pub refused : IsNotOpened w f base files why left.files
    pub unstored : left.unstored ≡ None
    pub unclosed : left.unclosed ≡ None

  -- The overlay was opened, and closed again, since there was no memory to share it. If the outside is honest, it shows
  -- the opening tree still, and backs the opening numbers.
  pub record IsUnshared (base : Base) (settings : Settings) (files : F) (why : OpenFault) (left : SharedFolderEnding F) : Type 0 where
    pub memory : why ≡ opens.Memory
    pub unstored : left.unstored ≡ None
    pub begun : Checkout F
    pub opened : IsOpened w f base settings files begun
    pub closed : Closes w f base.root begun w.opening w.numbers left.unclosed left.files

  -- lines give such messages, and the history may become this long
  module _ {V O : Type 0} (v : Receiver V) (o : Sender O) (Comes : Coming) (limit : ℕ) where
    -- The overlay was opened, the folder served, all that waited stored, or the first error reported, and the overlay closed, however
    -- the session ended. The files are the same commit's, and no inode number was given again. If the outside is honest, what they
    -- show is the tree after what the folder's passes were told, and if they were closed they back the numbers that were told.
    pub record IsShown (base : Base) (settings : Settings) (m : Manner) (files : F) (left : SharedFolderEnding F) : Type 0 where
      pub begun : Checkout F
      pub opened : IsOpened w f base settings files begun
      pub said : Result ⊤ SessionFault
      pub ended : Core (Checkout F)
      pub is : IsLeft v o Comes (attempted w f) w.honest w.opening w.numbers (opened_with settings limit begun) m said left.unstored ended
      pub closed : Closes w f base.root ended.table (replay w.opening ended.history) (replay_numbers w.numbers ended.history) left.unclosed left.files
      pub told : left.outcome ≡ first_folder_fault said left.unstored left.unclosed

    abbrev pub LivesSharedBy : Result ⊤ FolderFault → Base → Settings → Manner → F → SharedFolderEnding F → Type 0
    LivesSharedBy (Err (life.Open why)) base settings m files left =
        IsUnopened base files why left ⊎ IsUnshared base settings files why left
    LivesSharedBy outcome base settings m files left = IsShown base settings m files left

    -- a whole life, with the files that the overlay was opened over
    abbrev pub LivesShared : Base → Settings → Manner → F → SharedFolderEnding F → Type 0
    LivesShared base settings m files left = LivesSharedBy left.outcome base settings m files left
