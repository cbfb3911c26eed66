-- A shared mount's life as it is seen from outside: its guests' lines and answers, and what its overlay holds before and after.
use Rattle.std.specs.Prelude.{◌≡◌, ◌⊎◌, ℕ, List, Option, Some, None, Result, Ok, Err, ⊤}
use Rattle.std.specs.declared.io.Read.{Ghosts as Read}
use Rattle.std.specs.declared.io.Write.{Ghosts as Write}
use Rattle.eden_model.specs.declared.entry.Entry.{Entry}
use Rattle.eden_model.specs.declared.id.Id.{Id}
use Rattle.eden_model.specs.declared.world.World.{Ghosts}
use Rattle.eden_model.specs.Histories.{Legal, replay}
use Rattle.eden_model.specs.Numbers.{replay_numbers}
use Rattle.eden_overlay.specs.declared.files.Files.{Ghosts as Files}
use Rattle.eden_overlay.specs.declared.files.FilesFault.{FilesFault}
use Rattle.eden_checkout.specs.declared.fault.OpenFault.{OpenFault}
use Rattle.eden_checkout.specs.declared.fault.OpenFault.TheVariants as opens
use Rattle.eden_shared.specs.declared.account.Terms.{Terms}
use Rattle.eden_shared.specs.Passes.{AreTold, Carried, newcomers}
use Rattle.eden_stdio_life.specs.Left.{HoldsTheSame, LeavesFiles}
use Rattle.eden_host.specs.declared.fault.HostFault.{HostFault}
use Rattle.eden_host.specs.declared.fault.HostFault.TheVariants as host
use Rattle.eden_host.specs.Sessions.{AreHosted}
use Rattle.eden_serve_life.specs.declared.fault.SharedLifeFault.{SharedLifeFault}
use Rattle.eden_serve_life.specs.declared.fault.SharedLifeFault.TheVariants as life
use Rattle.eden_serve_life.specs.declared.life.SharedEnding.{SharedEnding}

-- the fault of hosting guests is reported before that of the close
abbrev pub first_told : Result ⊤ HostFault → Option FilesFault → Result ⊤ SharedLifeFault
first_told (Err host.Listen) unclosed = Err life.Listen
first_told (Err (host.Session fault)) unclosed = Err (life.Session fault)
first_told (Ok _) (Some fault) = Err (life.Close fault)
first_told (Ok _) None = Ok tt

-- the mount has this many passes, and its history may become this long
module _ {W F I O : Type 0} (w : Ghosts W) (f : Files F W) (i : Read I) (o : Write O) (passes limit : ℕ) where
  -- the overlay wasn't opened, and stays as it was
  pub record IsUnopened (files : F) (left : SharedEnding F) : Type 0 where
    pub same : HoldsTheSame w f files left.files
    pub unclosed : left.unclosed ≡ None

  -- .. or it was, and closed again, since there was no memory to share it
  pub record IsUnshared (root : Id) (why : OpenFault) (left : SharedEnding F) : Type 0 where
    pub memory : why ≡ opens.Memory
    pub opened : F
    pub ended : LeavesFiles w f root w.opening w.numbers opened left.unclosed left.files

  -- what each pass of the mount knows of it
  abbrev pub terms_from : Id → ℕ → Terms
  terms_from root next = record { passes = passes; limit = limit; commit = root; next = next }

  -- The overlay was opened over that commit's tree, a guest hosted for each pass, and the overlay closed, however the sessions
  -- ended. What the guests were told is one history. If the outside is honest it is one of the opening tree with its numbers, and
  -- an overlay that was closed shows the tree after it, and backs the numbers that it gave.
  pub record IsHosted (root : Id) (left : SharedEnding F) : Type 0 where
    pub next : ℕ
    pub guests : List Carried
    pub said : Result ⊤ HostFault
    pub hosted : AreHosted i o w.honest w.opening w.numbers (newcomers (terms_from root next) 1 passes) guests said
    pub history : List Entry
    pub told : AreTold history passes guests
    pub legal : w.honest → Legal w.opening w.numbers history
    pub served : F
    pub ended : LeavesFiles w f root (replay w.opening history) (replay_numbers w.numbers history) served left.unclosed left.files
    pub outcome : left.outcome ≡ first_told said left.unclosed

  abbrev pub LivesSharedBy : Result ⊤ SharedLifeFault → Id → F → SharedEnding F → Type 0
  LivesSharedBy (Err (life.Open why)) root files left = IsUnopened files left ⊎ IsUnshared root why left
  LivesSharedBy outcome root files left = IsHosted root left

  -- a whole life, with the files that the overlay was opened over
  abbrev pub LivesShared : Id → F → SharedEnding F → Type 0
  LivesShared root files left = LivesSharedBy left.outcome root files left
