-- What is promised of files that nothing was stored in, of the numbers that files were closed with, and of a rescan.
use Rattle.std.specs.Prelude.{ℕ}
use Rattle.eden_model.specs.declared.id.Id.{Id}
use Rattle.eden_model.specs.Backing.{AreShown, Backs}
use Rattle.eden_model.specs.Numbers.{opening_numbers}
use Rattle.eden_model.specs.Repository.{Repository, Whole}
use Rattle.eden_overlay.specs.declared.rescan.RescanFault.{RescanFault}
use Rattle.eden_overlay.specs.Counting.{NumbersAreSound}
use Rattle.eden_overlay.specs.Files.{Stored}
use Rattle.eden_overlay.specs.Held.{HoldsState}
use Rattle.eden_overlay.specs.Rescanning.{IsNextOf, IsRescanFault}
use Rattle.eden_checkout.specs.declared.opening.Opening.TheVariants as opening
use Rattle.eden_checkout.specs.Opening.{AreNone, CanOpen, IsRescanned, IsRefusal, files_number, of_rescan}

-- over no files a checkout of any commit can be opened, the commit's whole tree is shown, and the root's number alone is given
abbrev pub OpensFresh : Type 0
OpensFresh = (R : Repository) (root : Id) (F : Stored) → AreNone F → CanOpen R (Whole R root) (opening_numbers (files_number root F) 2) root F

-- closed files back the numbers that they show, with all below the next one spent
abbrev pub OpensAsShown : Type 0
OpensAsShown = (root : Id) (F : Stored) (next : ℕ) → HoldsState F (record { root = root; next = next }) → AreShown (files_number root F) next
    → Backs (opening_numbers (files_number root F) next) (files_number root F) next

-- what a rescan finds is what the overlay's finds, which goes from directory to directory
abbrev pub FindsAsOverlay : Type 0
FindsAsOverlay = (root : Id) (F : Stored) (next : ℕ) → IsRescanned root F next → NumbersAreSound F root × IsNextOf F root next

-- .. and what it accuses files of, if the outside is honest, so that they aren't sound
abbrev pub AccusesAsOverlay : Type 0
AccusesAsOverlay = (root : Id) (F : Stored) (old new : ℕ) (fault : RescanFault) → IsRefusal opening.Rescan (Unit {0}) root F old new (of_rescan fault)
    → IsRescanFault (Unit {0}) F root old new fault
