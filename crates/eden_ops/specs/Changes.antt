-- What a change makes of an entry, and what it leaves of a table.
use Rattle.std.specs.Prelude.{◌≡◌, ◌≢◌, ◌≤◌, ◌⊎◌, ◌++◌, ◌∷◌, ℕ, Bool, true, false, List, [], length, Option, None}
use Rattle.std.specs.Borrow.{Bor}
use Rattle.std.specs.Option.{option_map}
use Rattle.eden_model.specs.declared.kind.Kind.{Kind}
use Rattle.eden_model.specs.declared.kind.Kind.TheVariants as kind
use Rattle.eden_model.specs.declared.kind.Origin.{Origin}
use Rattle.eden_model.specs.declared.kind.Origin.TheVariants as origin
use Rattle.eden_model.specs.declared.request.Request.{Request}
use Rattle.eden_model.specs.declared.request.Request.TheVariants as ask
use Rattle.eden_model.specs.Limits.{most_target}
use Rattle.eden_model.specs.Paths.{behind_of}
use Rattle.eden_model.specs.Trees.{Name, Path}
use Rattle.eden_overlay.specs.declared.files.Files.{Ghosts as Files}
use Rattle.eden_tree.specs.Directory.{Row}
use Rattle.eden_tree.specs.Paths.{row_at}
use Rattle.eden_coupling.specs.Chains.{IsLoadedAt, NoneMarked}
use Rattle.eden_inode.specs.Tables.{Table}
use Rattle.eden_inode.specs.Trails.{KeepsPlaces}
use Rattle.eden_materialise.specs.declared.new_entry.NewEntry.{NewEntry}
use Rattle.eden_materialise.specs.declared.new_entry.NewEntry.TheVariants as new

-- the kind of a file that can be executed, or can't
abbrev pub exec_kind : Bool → Kind
exec_kind false = kind.File
exec_kind true = kind.Exec

-- the request makes this entry at the path
pub data IsAdding (p : Path) : Request → NewEntry → Type 0 where
  file : (content : Bor (List ℕ)) → content.now ≡ [] → IsAdding p (ask.Create p) (new.File false content)
  dir : IsAdding p (ask.Mkdir p) new.Dir
  link : (target : Bor (List ℕ)) → length target.now ≢ 0 → length target.now ≤ most_target → IsAdding p (ask.Symlink p target.now) (new.Link target)

-- a path that is neither this one nor below it
abbrev pub IsOutside : Path → Path → Type 0
IsOutside p q = behind_of p q ≡ None

-- what came from there does so still, or became the mount's own
abbrev pub StaysOrBecomesOwn : Origin → Origin → Type 0
StaysOrBecomesOwn was now = (now ≡ was) ⊎ (now ≡ origin.Own)

-- the number and the kind of the entry at a path
abbrev pub numbered_at : Path → Row → Option (ℕ × Kind)
numbered_at p x = option_map (λ y. (y.number, y.kind)) (row_at p x)

-- a directory that is loaded before and after has the same names, each with its number and its kind
abbrev pub SameNames : Row → Row → Type 0
SameNames x z = (p : Path) (n : Name) → IsLoadedAt p x → IsLoadedAt p z → numbered_at (p ++ n ∷ []) z ≡ numbered_at (p ++ n ∷ []) x

module _ {W F : Type 0} (f : Files F W) where
  -- Whatever was answered: what was loaded on these paths is, the root comes from where it came or is the mount's own, numbers
  -- are only given, the device's failures only rise, and a place that was noted is kept or passed over.
  pub record LeavesOn (paths : Path → Type 0) (s t : Table F) : Type 0 where
    pub loaded : (p : Path) → paths p → IsLoadedAt p s.root → IsLoadedAt p t.root
    pub root : StaysOrBecomesOwn s.root.origin t.root.origin
    pub next : s.next ≤ t.next
    pub failures : f.failures s.files ≤ f.failures t.files
    pub clock : t.clock ≡ s.clock
    pub places : KeepsPlaces s t

  -- .. on every path, and what is unsaved was so
  pub record Leaves (s t : Table F) : Type 0 where
    pub everywhere : LeavesOn (λ p. Unit {0}) s t
    pub marks : NoneMarked s.root t.root
