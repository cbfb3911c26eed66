-- What an overlay holds when its mount has ended, as it is seen from outside.
use Rattle.std.specs.Prelude.{◌≡◌, ℕ, Option, Some, None}
use Rattle.eden_model.specs.declared.id.Id.{Id}
use Rattle.eden_model.specs.declared.world.World.{Ghosts}
use Rattle.eden_model.specs.Failures.{Rose}
use Rattle.eden_model.specs.Numbers.{Numbers}
use Rattle.eden_model.specs.Trees.{Tree}
use Rattle.eden_overlay.specs.declared.files.Files.{Ghosts as Files}
use Rattle.eden_overlay.specs.declared.files.FilesFault.{FilesFault}
use Rattle.eden_overlay.specs.declared.files.FilesFault.TheVariants as fault
use Rattle.eden_overlay.specs.Held.{HoldsState}
use Rattle.eden_overlay.specs.Soundness.{AreSound}
use Rattle.eden_checkout.specs.Opening.{CanOpen}

module _ {W F : Type 0} (w : Ghosts W) (f : Files F W) where
  -- what was stored is stored still, if the outside is honest
  abbrev pub HoldsTheSame : F → F → Type 0
  HoldsTheSame old new = w.honest → f.stored new ≡ f.stored old

  -- An overlay over that commit's tree was closed. If the outside is honest it can be opened again, shows this tree, and backs
  -- these numbers.
  pub record KeepsTree (root : Id) (tree : Tree) (N : Numbers) (files : F) : Type 0 where
    pub closed : w.honest → (next : ℕ) × HoldsState (f.stored files) (record { root = root; next = next })
    pub opens : w.honest → CanOpen w.repository tree N root (f.stored files)

  -- It wasn't closed, for that fault: the device is reported only if it failed meanwhile. If the outside is honest no name dangles.
  pub record IsLeftOpen (why : FilesFault) (old new : F) : Type 0 where
    pub device : why ≡ fault.Device → Rose (f.failures old) (f.failures new)
    pub sound : w.honest → AreSound (f.stored new)

  -- an overlay whose files were such was closed, or it wasn't
  abbrev pub LeavesFiles : Id → Tree → Numbers → F → Option FilesFault → F → Type 0
  LeavesFiles root tree N old None new = KeepsTree root tree N new
  LeavesFiles root tree N old (Some why) new = IsLeftOpen why old new
