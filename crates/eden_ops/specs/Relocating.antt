-- An entry that goes to another path, in place of what stands there.
use Rattle.std.specs.Prelude.{◌≡◌, ◌≤◌, ◌⊎◌, ◌++◌, ◌∷◌, [], Some, None, Result, OnOk, OnErr, IfErr}
use Rattle.eden_model.specs.declared.fault.Fault.{Fault}
use Rattle.eden_model.specs.declared.world.World.{Ghosts}
use Rattle.eden_model.specs.Operations.{move}
use Rattle.eden_model.specs.Paths.{behind_of}
use Rattle.eden_model.specs.Trees.{Name, Path}
use Rattle.eden_overlay.specs.declared.files.Files.{Ghosts as Files}
use Rattle.eden_tree.specs.Directory.{Row, child_of}
use Rattle.eden_tree.specs.Paths.{row_at}
use Rattle.eden_coupling.specs.Chains.{IsLoadedAt, IsUnsavedAt, NoneMarked, StaysLoaded}
use Rattle.eden_coupling.specs.Laws.{owned}
use Rattle.eden_coupling.specs.Materialising.{owned_along}
use Rattle.eden_inode.specs.Tables.{Table, shows, ShowsSameNumbers}
use Rattle.eden_inode.specs.Trails.{KeepsPlaces}
use Rattle.eden_materialise.specs.Faults.{IsStoreFault}
use Rattle.eden_materialise.specs.Renumbering.{MovesNumbers}
use Rattle.eden_ops.specs.Changes.{StaysOrBecomesOwn, SameNames, numbered_at}
use Rattle.eden_ops.specs.Stamps.{NoneStamped, StampsGoAlong}

-- The entry at the one path is there, and the directory above the other is loaded; neither path is a front of the other.
pub record CanRelocate (x : Row) (from to : Path) : Type 0 where
  pub row : Row
  pub there : row_at from x ≡ Some row
  pub above : (p : Path) (n : Name) → to ≡ p ++ n ∷ [] → IsLoadedAt p x
  pub not_below : behind_of from to ≡ None
  pub not_above : behind_of to from ≡ None

-- what stands at a path, if anything, isn't loaded
abbrev pub IsUnloadedAt : Path → Row → Type 0
IsUnloadedAt p x = (y : Row) → row_at p x ≡ Some y → child_of y ≡ None

-- what was loaded and is neither at or below the one path nor at or below the other is loaded
abbrev pub StaysBeside : Path → Path → Row → Row → Type 0
StaysBeside from to x z = (q : Path) → behind_of from q ≡ None → behind_of to q ≡ None → IsLoadedAt q x → IsLoadedAt q z

-- the entry at the one path stands in the directory at the other
abbrev pub StandsIn : Path → Path → Type 0
StandsIn from q = (n : Name) × (from ≡ q ++ n ∷ [])

-- what is unsaved in z is so in x, or it is the directory that this entry stands in
abbrev pub MarksAlone : Path → Row → Row → Type 0
MarksAlone from x z = (q : Path) → IsUnsavedAt q z → StandsIn from q ⊎ IsUnsavedAt q x

-- the directory that was loaded at the one path is so at the other, with its entries, each with its number and its kind
pub record GoesAlong (from to : Path) (x z : Row) : Type 0 where
  pub loaded : IsLoadedAt to z
  pub entries : (n : Name) → numbered_at (to ++ n ∷ []) z ≡ numbered_at (from ++ n ∷ []) x

-- the directories along the one path, and then those along the other, the mount's own
abbrev pub both_owned : Path → Path → Row → Row
both_owned p q x = owned (owned_along q (owned (owned_along p x)))

module _ {W F : Type 0} (w : Ghosts W) (f : Files F W) where
  -- A step before a change: what is shown is as before, and so are its numbers, what is loaded was so, with the same names and stamps, and what is
  -- unsaved was so. If it is done, the device did not fail.
  pub record Readies (s t : Table F) (answer : Result (Unit {0}) Fault) : Type 0 where
    pub shown : w.honest → shows w f t ≡ shows w f s
    pub numbers : w.honest → ShowsSameNumbers f s t
    pub names : SameNames s.root t.root
    pub fewer : StaysLoaded t.root s.root
    pub stamps : NoneStamped s.root t.root
    pub marks : NoneMarked s.root t.root
    pub root : StaysOrBecomesOwn s.root.origin t.root.origin
    pub fault : IfErr answer (IsStoreFault (f.failures s.files) (f.failures t.files))
    pub counted : OnOk answer (f.failures t.files ≡ f.failures s.files)
    pub next : t.next ≡ s.next
    pub clock : t.clock ≡ s.clock
    pub places : KeepsPlaces s t

  -- An entry went to another path, a loaded directory with its listing; or, after a fault, no entry went, and what is loaded is
  -- so still, but for what was unloaded before.
  pub record Relocates (from to : Path) (s t : Table F) (answer : Result (Unit {0}) Fault) : Type 0 where
    pub ok : w.honest → OnOk answer (shows w f t ≡ move (shows w f s) from to)
    pub err : w.honest → OnErr answer (shows w f t ≡ shows w f s)
    pub renumbers : w.honest → OnOk answer (MovesNumbers f from to s t)
    pub unnumbered : w.honest → OnErr answer (ShowsSameNumbers f s t)
    pub names : OnErr answer (SameNames s.root t.root)
    pub fewer : OnErr answer (StaysLoaded t.root s.root)
    pub fault : IfErr answer (IsStoreFault (f.failures s.files) (f.failures t.files))
    pub counted : f.failures s.files ≤ f.failures t.files
    pub loaded : StaysBeside from to s.root t.root
    pub stamps : StampsGoAlong from to s.root t.root
    pub moved : IsLoadedAt from s.root → OnOk answer (GoesAlong from to s.root t.root)
    pub stays : IsLoadedAt from s.root → OnErr answer (IsLoadedAt from t.root)
    pub marks : OnOk answer (NoneMarked s.root t.root)
    pub marked : MarksAlone from s.root t.root
    pub root : StaysOrBecomesOwn s.root.origin t.root.origin
    pub next : t.next ≡ s.next
    pub clock : t.clock ≡ s.clock
    pub places : KeepsPlaces s t
