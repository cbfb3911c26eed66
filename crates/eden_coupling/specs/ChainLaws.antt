-- What a chain of directories that becomes the mount's own keeps of a table.
use Rattle.std.specs.Prelude.{◌≡◌, ℕ}
use Rattle.eden_model.specs.Repository.{Repository}
use Rattle.eden_model.specs.Trees.{Path}
use Rattle.eden_overlay.specs.Files.{Stored}
use Rattle.eden_tree.specs.Directory.{Row}
use Rattle.eden_coupling.specs.Chains.{IsLoadedAt, NoneMarked, StaysLoaded, Refused}
use Rattle.eden_coupling.specs.Kept.{IsTable, IsKept}
use Rattle.eden_coupling.specs.Laws.{owned}
use Rattle.eden_coupling.specs.Materialising.{Chain, owned_along}
use Rattle.eden_coupling.specs.Shown.{shown_in}

-- whatever the outside: a table stays one, what is loaded stays so, and none is unsaved that wasn't
abbrev pub OwnedTable : Type 0
OwnedTable = (x : Row) (next : ℕ) (p : Path) → IsTable x next → IsLoadedAt p x → IsTable (owned (owned_along p x)) next

abbrev pub OwnedStays : Type 0
OwnedStays = (x : Row) (p : Path) → IsLoadedAt p x → StaysLoaded x (owned (owned_along p x))

abbrev pub OwnedMarks : Type 0
OwnedMarks = (x : Row) (p : Path) → NoneMarked x (owned (owned_along p x))

-- once the chain is stored, a kept table is kept, and shows the same
abbrev pub OwnedKept : Type 0
OwnedKept = (R : Repository) (F : Stored) (x : Row) (next : ℕ) (p : Path) (G : Stored) → IsTable x next → IsKept R F x next → IsLoadedAt p x → Chain F x p G
    → IsKept R G (owned (owned_along p x)) next

abbrev pub OwnedAlike : Type 0
OwnedAlike = (R : Repository) (F : Stored) (x : Row) (next : ℕ) (p : Path) (G : Stored) → IsTable x next → IsKept R F x next → IsLoadedAt p x → Chain F x p G
    → shown_in R G (owned (owned_along p x)) ≡ shown_in R F x

-- .. and as it was, where one of the stores was refused: what was stored is strays
abbrev pub RefusedKept : Type 0
RefusedKept = (R : Repository) (F : Stored) (x : Row) (next : ℕ) (p : Path) (G : Stored) → IsTable x next → IsKept R F x next → Refused F x p G
    → IsKept R G x next

abbrev pub RefusedAlike : Type 0
RefusedAlike = (R : Repository) (F : Stored) (x : Row) (next : ℕ) (p : Path) (G : Stored) → IsTable x next → IsKept R F x next → Refused F x p G
    → shown_in R G x ≡ shown_in R F x
