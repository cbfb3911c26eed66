-- What follows of what an attempt leaves, and of waits that follow each other.
use Rattle.std.specs.Prelude.{◌≡◌, ◌≢◌, ◌≤◌, ◌<◌, ◌++◌, ◌∷◌, ℕ, Bool, List, [], length, Some, None}
use Rattle.eden_model.specs.declared.kind.Kind.TheVariants as kinds
use Rattle.eden_model.specs.declared.world.World.{Ghosts}
use Rattle.eden_model.specs.Backing.{Gains}
use Rattle.eden_model.specs.Limits.{number_end}
use Rattle.eden_model.specs.Trees.{Name, Path, Tree, Unlisted, walk}
use Rattle.eden_overlay.specs.declared.files.Files.{Ghosts as Files}
use Rattle.eden_tree.specs.Directory.{Row}
use Rattle.eden_tree.specs.Paths.{Standing, standing_at}
use Rattle.eden_coupling.specs.NumberKept.{KeepsNumbers}
use Rattle.eden_inode.specs.Tables.{Table, shows, shows_numbers}
use Rattle.eden_ops.specs.Changes.{Leaves}
use Rattle.eden_ops.specs.Known.{known, IsKnownLoadedAt, place_on}
use Rattle.eden_ops.specs.Keeping.{Keeps}
use Rattle.eden_ops.specs.Stamps.{StampsTowards}

-- an entry as it was, but that a directory may be loaded now: what was loaded is, with its mark
pub record Stays (y v : Standing) : Type 0 where
  pub number : v.number ≡ y.number
  pub kind : v.kind ≡ y.kind
  pub origin : v.origin ≡ y.origin
  pub loaded : (stamp : ℕ) (unsaved : Bool) → y.loaded ≡ Some (stamp, unsaved) → (at : ℕ) × (v.loaded ≡ Some (at, unsaved))
  pub leaf : y.kind ≢ kinds.Dir → y.loaded ≡ None → v.loaded ≡ None

-- each entry is as it was, and a loaded directory has no other names
pub record Grows (x z : Row) : Type 0 where
  pub there : (p : Path) (y : Standing) → standing_at p x ≡ Some y → (v : Standing) × ((standing_at p z ≡ Some v) × Stays y v)
  pub absent : (p : Path) (n : Name) → IsKnownLoadedAt p x → standing_at (p ++ n ∷ []) x ≡ None → standing_at (p ++ n ∷ []) z ≡ None

module _ {W F : Type 0} (w : Ghosts W) (f : Files F W) where
  abbrev pub KeepsShown : Type 0
  KeepsShown = (paths : List Path) (s t : Table F) → Keeps w f paths s t → w.honest → shows w f t ≡ shows w f s

  abbrev pub KeepsFiles : Type 0
  KeepsFiles = (paths : List Path) (s t : Table F) → Keeps w f paths s t → w.honest → f.stored t.files ≡ f.stored s.files

  abbrev pub KeepsEntries : Type 0
  KeepsEntries = (paths : List Path) (s t : Table F) → Keeps w f paths s t → Grows s.root t.root

  abbrev pub KeepsCounts : Type 0
  KeepsCounts = (paths : List Path) (s t : Table F) → Keeps w f paths s t → (t.clock ≡ s.clock)
      × ((t.changes ≡ s.changes) × ((s.next ≤ t.next) × (f.failures s.files ≤ f.failures t.files)))

  abbrev pub KeepsLeaves : Type 0
  KeepsLeaves = (paths : List Path) (s t : Table F) → Keeps w f paths s t → Leaves f s t

  abbrev pub KeepsStamps : Type 0
  KeepsStamps = (paths : List Path) (s t : Table F) → Keeps w f paths s t → StampsTowards paths s.clock s.root t.root

  -- the numbers that were shown are so still, each that is new was given since, and the table's numbers are kept
  abbrev pub KeepsGains : Type 0
  KeepsGains = (paths : List Path) (s t : Table F) → Keeps w f paths s t → w.honest → KeepsNumbers w.repository (f.stored s.files) s.root s.next
      → t.next ≤ number_end
      → Gains (shows_numbers f s) s.next (shows_numbers f t) t.next × KeepsNumbers w.repository (f.stored t.files) t.root t.next

-- ---- waits that follow each other

-- the place where the checks end is the path or stands above it
abbrev pub PlaceIsFront : Type 0
PlaceIsFront = (G : Tree) (p : Path) → (rest : Path) × (p ≡ place_on G p ++ rest)

-- once the directory that was wanted is loaded, what is wanted next stands deeper: so a path of n names wants n + 1 objects at most
abbrev pub NextIsDeeper : Type 0
NextIsDeeper = (x z : Row) (p : Path) → Grows x z → walk (known x) p ≡ Unlisted → IsKnownLoadedAt (place_on (known x) p) z
    → length (place_on (known x) p) < length (place_on (known z) p)
