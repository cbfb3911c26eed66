-- What a mount is served with that was asked for by options.
use Rattle.std.specs.Prelude.{◌≡◌, ◌⊎◌, ℕ, Bool, true, false, IsTrue, Option, Some, None}
use Rattle.std.specs.declared.io.Read.{Ghosts as Read}
use Rattle.std.specs.declared.io.Write.{Ghosts as Write}
use Rattle.eden_model.specs.declared.world.World.{Ghosts}
use Rattle.eden_overlay.specs.declared.files.Files.{Ghosts as Files}
use Rattle.eden_overlay.specs.Files.{Stored}
use Rattle.eden_checkout.specs.declared.opening.Opening.{Opening}
use Rattle.eden_checkout.specs.declared.opening.Opening.TheVariants.{Closed, Rescan}
use Rattle.eden_stdio_life.specs.declared.opening.Base.{Base}
use Rattle.eden_sockets.specs.Addresses.{is_socket}
use Rattle.mountd_options.specs.declared.command.MountOptions.{MountOptions}
use Rattle.mountd_options.specs.declared.command.ServeOptions.{ServeOptions}
use Rattle.mountd.specs.Runs.{IsSharedRun, limit_of}
use Rattle.mountd.specs.declared.mount_files.EitherFiles.{EitherFiles}
use Rattle.mountd.specs.declared.mount_files.EitherFiles.TheVariants.{Memory, Overlay}

-- how what a directory keeps is opened
abbrev pub opening_of : Bool → Opening
opening_of true = Rescan
opening_of false = Closed

-- the commit's tree, and how what stands on it is opened
abbrev pub base_of : MountOptions → Base
base_of options = record { root = options.root; opening = opening_of options.rescan }

-- no file is there yet
abbrev pub IsNothing : Stored → Type 0
IsNothing F = (number : ℕ) → F number ≡ None

module _ {W I O : Type 0} (w : Ghosts W) (i : Read I) (o : Write O) where
  -- a mount over these files was served as the options say, and the status says how that ended
  abbrev pub IsAskedRun : {F : Type 0} → Files F W → MountOptions → F → ℕ → Type 0
  IsAskedRun f options files status =
      IsSharedRun w f i o (limit_of options.history options.limits) (base_of options) options.limits files status

  module _ {M K : Type 0} (f : Files (EitherFiles M K) W) where
    -- .. over a directory's files
    abbrev pub IsOverlayRun : MountOptions → ℕ → Type 0
    IsOverlayRun options status = (files : K) × IsAskedRun f options (Overlay files) status

    -- .. over files in memory, of which none is there yet, if no directory is to keep the changes, and else over a directory's
    abbrev pub IsKeptRun : {T : Type 0} → Option T → MountOptions → ℕ → Type 0
    IsKeptRun None options status = (files : M) × IsNothing (f.stored (Memory files)) × IsAskedRun f options (Memory files) status
    IsKeptRun (Some folder) options status = IsOverlayRun options status

    -- .. or the directory, or where objects come from, couldn't be opened, and the status is 3
    abbrev pub IsServeRun : MountOptions → ℕ → Type 0
    IsServeRun options status = (status ≡ 3) ⊎ IsKeptRun options.overlay options status

    -- .. or the address is a socket's path that couldn't be held, and the status is 4
    abbrev pub ServesAt : ServeOptions → ℕ → Type 0
    ServesAt options status = (IsTrue (is_socket options.address) × (status ≡ 4)) ⊎ IsServeRun options.mount status
