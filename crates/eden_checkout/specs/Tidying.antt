-- What the tidying of an overlay leaves, and why it isn't done.
use Rattle.std.specs.Prelude.{◌≡◌, ◌⊎◌, ℕ, List, length}
use Rattle.std.specs.Ordering.{nat_cmp}
use Rattle.std.specs.List.Sorted.{IsStrictlySortedBy}
use Rattle.eden_model.specs.declared.id.Id.{Id}
use Rattle.eden_model.specs.Failures.{Rose}
use Rattle.eden_model.specs.Numbers.{Numbers}
use Rattle.eden_model.specs.Repository.{Repository}
use Rattle.eden_model.specs.Trees.{Tree}
use Rattle.eden_overlay_format.specs.declared.state.State.{State}
use Rattle.eden_overlay.specs.declared.files.FilesFault.TheVariants as files
use Rattle.eden_overlay.specs.declared.tidy.Removed.{Removed}
use Rattle.eden_overlay.specs.Files.{Stored}
use Rattle.eden_overlay.specs.Held.{HoldsState}
use Rattle.eden_overlay.specs.Tidying.{ListsOrphans, IsTidied, IsTidiedInPart, bytes_in}
use Rattle.eden_checkout.specs.declared.fault.OpenFault.{OpenFault}
use Rattle.eden_checkout.specs.declared.tidying.TidyFault.{TidyFault}
use Rattle.eden_checkout.specs.declared.tidying.TidyFault.TheVariants as tidy
use Rattle.eden_checkout.specs.declared.opening.Opening.TheVariants as opening
use Rattle.eden_checkout.specs.Opening.{AreNone, files_show, CanOpen, IsRefusal}

-- there are no files, or a state among them, which a close stores last and an opening removes
abbrev pub IsClosed : Stored → Type 0
IsClosed F = AreNone F ⊎ ((s : State) × HoldsState F s)

-- over that commit's tree there are no files, or those that were closed
abbrev pub IsClosedOver : Id → Stored → Type 0
IsClosedOver root F = AreNone F ⊎ ((s : State) × (HoldsState F s × (s.root ≡ root)))

-- the files G are F without their orphans over the commit's tree over which they were closed
abbrev pub AreTidied : Stored → Stored → Type 0
AreTidied F G = (root : Id) → IsClosedOver root F → IsTidied F root G

-- .. or without some of them, or none
abbrev pub LackOrphans : Stored → Stored → Type 0
LackOrphans F G = (root : Id) → IsClosedOver root F → IsTidiedInPart F root G

-- over whatever commit's tree, the files G show what F show
abbrev pub ShowsSame : Stored → Stored → Type 0
ShowsSame F G = (R : Repository) (root : Id) → files_show R root G ≡ files_show R root F

-- .. and are closed if F are
abbrev pub StaysClosed : Stored → Stored → Type 0
StaysClosed F G = (R : Repository) (tree : Tree) (N : Numbers) (root : Id) → CanOpen R tree N root F → CanOpen R tree N root G

-- what was removed is as many files as F have orphans, and as many bytes as these have together
pub record CountsOrphans (F : Stored) (root : Id) (removed : Removed) : Type 0 where
  pub orphans : List ℕ
  pub listed : ListsOrphans orphans F root
  pub rising : IsStrictlySortedBy nat_cmp orphans
  pub files : removed.files ≡ length orphans
  pub bytes : removed.bytes ≡ bytes_in F orphans

-- The overlay isn't one that was closed: as an opening finds on whatever tree, or as a rescan does on its own. F are the files, and the
-- counts are those of the device's failures before and then.
abbrev pub IsTidyRefusal : Type 0 → Stored → ℕ → ℕ → OpenFault → Type 0
IsTidyRefusal honest F old new fault =
    ((root : Id) → IsRefusal opening.Closed honest root F old new fault)
    ⊎ ((root : Id) × (IsRefusal opening.Rescan honest root F old new fault × (honest → IsClosedOver root F)))

-- a refusal leaves the files F, and a removal that failed the files G, which lack some orphans
abbrev pub IsTidyFault : Type 0 → Stored → Stored → ℕ → ℕ → TidyFault → Type 0
IsTidyFault honest F G old new (tidy.Open fault) = IsTidyRefusal honest F old new fault × (honest → G ≡ F)
IsTidyFault honest F G old new (tidy.Remove fault) = (fault ≡ files.Device) × Rose old new × (honest → LackOrphans F G)
