-- What happens inside a shared mount's life: the states in which each fault that is reported has its cause.
use Rattle.std.specs.Prelude.{◌≡◌, ◌⊎◌, ℕ, Option, Some, None, Result, Ok, Err, ⊤}
use Rattle.std.specs.declared.io.Read.{Ghosts as Read}
use Rattle.std.specs.declared.io.Write.{Ghosts as Write}
use Rattle.eden_model.specs.declared.world.World.{Ghosts}
use Rattle.eden_model.specs.Histories.{replay}
use Rattle.eden_model.specs.Numbers.{Numbers, replay_numbers}
use Rattle.eden_overlay.specs.declared.files.Files.{Ghosts as Files}
use Rattle.eden_overlay.specs.declared.files.FilesFault.{FilesFault}
use Rattle.eden_inode.specs.Tables.{shows}
use Rattle.eden_mount.specs.Core.{Core}
use Rattle.eden_mount.specs.Settings.{Settings}
use Rattle.eden_checkout.specs.declared.fault.OpenFault.{OpenFault}
use Rattle.eden_checkout.specs.declared.fault.OpenFault.TheVariants as opens
use Rattle.eden_checkout.specs.Attempted.{attempted}
use Rattle.eden_checkout.specs.Checkouts.{Checkout}
use Rattle.eden_shared.specs.declared.account.Terms.{Terms}
use Rattle.eden_stdio_life.specs.declared.opening.Base.{Base}
use Rattle.eden_stdio_life.specs.Opening.{Closes, IsBacking, IsOpened, IsNotOpened}
use Rattle.eden_host.specs.declared.fault.HostFault.{HostFault}
use Rattle.eden_serve_life.specs.declared.fault.SharedLifeFault.{SharedLifeFault}
use Rattle.eden_serve_life.specs.declared.fault.SharedLifeFault.TheVariants as life
use Rattle.eden_serve_life.specs.declared.life.SharedEnding.{SharedEnding}
use Rattle.eden_host.specs.declared.sharing.HostedTable.{HostedTable}
use Rattle.eden_host.specs.Sharing.{IsLeft}
use Rattle.eden_serve_life.specs.Lives.{first_told}

-- what a mount of these settings over that checkout, whose history has that limit, is opened with
abbrev pub opened_with : {F : Type 0} → Settings → ℕ → Checkout F → Terms
opened_with s limit t = record { passes = s.passes; limit = limit; commit = t.root; next = t.inodes.next }

module _ {W F : Type 0} (w : Ghosts W) (f : Files F W) where
  -- a checkout was closed to the files, or it wasn't, and shows what it showed; they back what it backed of numbers
  abbrev pub ClosesAs : Checkout F → SharedEnding F → Type 0
  ClosesAs t left = (N : Numbers) → IsBacking w f N t → Closes w f t.root t (shows w f t.inodes) N left.unclosed left.files

  -- an open checkout was closed, and the first fault reported: its guests were hosted, or there was no memory to share it
  abbrev pub Ends : Result (HostedTable (Checkout F)) (Checkout F) → SharedEnding F → Type 0
  Ends (Ok x) left = ClosesAs x.table left × (left.outcome ≡ first_told x.outcome left.unclosed)
  Ends (Err t) left = ClosesAs t left × (left.outcome ≡ Err (life.Open opens.Memory))

  -- the overlay wasn't opened, for that fault
  pub record IsUnopenedInside (base : Base) (files : F) (why : OpenFault) (left : SharedEnding F) : Type 0 where
    pub refused : IsNotOpened w f base files why left.files
    pub unclosed : left.unclosed ≡ None

  -- The overlay was opened, and closed again, since there was no memory to share it. If the outside is honest, it shows
  -- the opening tree still, and backs the opening numbers.
  pub record IsUnsharedInside (base : Base) (settings : Settings) (files : F) (why : OpenFault) (left : SharedEnding F) : Type 0 where
    pub memory : why ≡ opens.Memory
    pub begun : Checkout F
    pub opened : IsOpened w f base settings files begun
    pub closed : Closes w f base.root begun w.opening w.numbers left.unclosed left.files

  -- the history may become this long
  module _ {I O : Type 0} (i : Read I) (o : Write O) (limit : ℕ) where
    -- The overlay was opened, its guests hosted, and the overlay closed, however the sessions ended. The files are the same
    -- commit's, and no inode number was given again. If the outside is honest, what they show is the tree after what the
    -- guests were told, and if they were closed they back the numbers that were told.
    pub record IsHostedInside (base : Base) (settings : Settings) (files : F) (left : SharedEnding F) : Type 0 where
      pub begun : Checkout F
      pub opened : IsOpened w f base settings files begun
      pub hosted : Result ⊤ HostFault
      pub ended : Core (Checkout F)
      pub is : IsLeft (attempted w f) i o w.honest w.opening w.numbers (opened_with settings limit begun) hosted ended
      pub closed : Closes w f base.root ended.table (replay w.opening ended.history) (replay_numbers w.numbers ended.history) left.unclosed left.files
      pub told : left.outcome ≡ first_told hosted left.unclosed

    abbrev pub LivesSharedInsideBy : Result ⊤ SharedLifeFault → Base → Settings → F → SharedEnding F → Type 0
    LivesSharedInsideBy (Err (life.Open why)) base settings files left = IsUnopenedInside base files why left ⊎ IsUnsharedInside base settings files why left
    LivesSharedInsideBy outcome base settings files left = IsHostedInside base settings files left

    -- a whole life, by what its mount went through
    abbrev pub LivesSharedInside : Base → Settings → F → SharedEnding F → Type 0
    LivesSharedInside base settings files left = LivesSharedInsideBy left.outcome base settings files left
