-- How a checkout is opened over an overlay with a mount's settings, and closed to it.
use Rattle.std.specs.Prelude.{◌≡◌, Option, Some, None}
use Rattle.eden_model.specs.declared.id.Id.{Id}
use Rattle.eden_model.specs.declared.world.World.{Ghosts}
use Rattle.eden_model.specs.Backing.{Backs}
use Rattle.eden_model.specs.Failures.{Rose}
use Rattle.eden_model.specs.Numbers.{Numbers}
use Rattle.eden_model.specs.Trees.{Tree}
use Rattle.eden_cache.specs.Cache.{empty_cache}
use Rattle.eden_overlay.specs.declared.files.Files.{Ghosts as Files}
use Rattle.eden_overlay.specs.declared.files.FilesFault.{FilesFault}
use Rattle.eden_overlay.specs.declared.files.FilesFault.TheVariants as fault
use Rattle.eden_overlay.specs.Held.{HoldsState}
use Rattle.eden_overlay.specs.Soundness.{AreSound}
use Rattle.eden_coupling.specs.Chains.{AreSaved}
use Rattle.eden_inode.specs.Tables.{shows, shows_numbers}
use Rattle.eden_mount.specs.Settings.{Settings}
use Rattle.eden_checkout.specs.declared.fault.OpenFault.{OpenFault}
use Rattle.eden_checkout.specs.Checkouts.{Checkout}
use Rattle.eden_checkout.specs.Opening.{CanOpen, Finds, files_show, IsRefusal}
use Rattle.eden_stdio_life.specs.declared.opening.Base.{Base}

module _ {W F : Type 0} (w : Ghosts W) (f : Files F W) where
  -- if the outside is honest, what the checkout shows of inode numbers backs these
  abbrev pub IsBacking : Numbers → Checkout F → Type 0
  IsBacking N t = w.honest → Backs N (shows_numbers f t.inodes) t.inodes.next

  -- The files were opened so on that commit's tree, with the settings' cache, in which nothing is yet. If the outside is
  -- honest the checkout shows the opening tree, and numbers that back the opening ones.
  pub record IsOpened (base : Base) (settings : Settings) (files : F) (t : Checkout F) : Type 0 where
    pub commit : t.root ≡ base.root
    pub cache : t.cache ≡ empty_cache settings.cache_entries settings.cache_bytes settings.cache_sizes
    pub next : w.honest → Finds base.opening base.root (f.stored files) t.inodes.next
    pub shown : w.honest → shows w f t.inodes ≡ w.opening
    pub backed : IsBacking w.numbers t

  -- the files weren't opened so, for that fault, and are as they were
  pub record IsNotOpened (base : Base) (files : F) (fault : OpenFault) (left : F) : Type 0 where
    pub why : IsRefusal base.opening w.honest base.root (f.stored files) (f.failures files) (f.failures left) fault
    pub unchanged : w.honest → f.stored left ≡ f.stored files

  -- A checkout of that commit was closed to the files. If the outside is honest they hold its state, can be opened again on
  -- the same commit's tree, show this tree, and back these numbers.
  pub record IsClosed (root : Id) (t : Checkout F) (tree : Tree) (N : Numbers) (files : F) : Type 0 where
    pub state : w.honest → HoldsState (f.stored files) (record { root = root; next = t.inodes.next })
    pub opens : w.honest → CanOpen w.repository tree N root (f.stored files)

  -- The checkout of that commit wasn't closed, for that fault. It is then another, over these files, which shows this tree
  -- still. If the outside is honest no name in the files dangles, and if no loaded directory is unsaved they show the
  -- tree themselves.
  pub record StaysOpen (root : Id) (t : Checkout F) (tree : Tree) (why : FilesFault) (files : F) : Type 0 where
    pub left : Checkout F
    pub over : files ≡ left.inodes.files
    pub shown : w.honest → shows w f left.inodes ≡ tree
    pub commit : left.root ≡ root
    pub next : left.inodes.next ≡ t.inodes.next
    pub device : why ≡ fault.Device → Rose (f.failures t.inodes.files) (f.failures files)
    pub sound : w.honest → AreSound (f.stored files)
    pub saved : w.honest → AreSaved left.inodes.root → files_show w.repository root (f.stored files) ≡ tree

  -- the commit's checkout, which shows this tree, was closed to the files, or it wasn't; those that were closed back these
  -- numbers
  abbrev pub Closes : Id → Checkout F → Tree → Numbers → Option FilesFault → F → Type 0
  Closes root t tree N None files = IsClosed root t tree N files
  Closes root t tree N (Some why) files = StaysOpen root t tree why files
