-- What look-ups, removals and renames make of the paths at which nodes lie.
use Rattle.std.specs.Prelude.{◌≡◌, ℕ, [], ◌∷◌, ◌++◌}
use Rattle.eden_model.specs.Trees.{Name, Path}
use Rattle.eden_fuse_nodes.specs.declared.place.Place.{Place}
use Rattle.eden_fuse_nodes.specs.Tables.{Table, IsNodeTable, Learns, RemovesNode, Renames}
use Rattle.eden_fuse_nodes.specs.Ways.{LiesAt}

-- a node lies at one path, and at a path lies one node
abbrev pub OnePath : Type 0
OnePath = (t : Table) (id : ℕ) (p q : Path) → IsNodeTable t → LiesAt t id p → LiesAt t id q → p ≡ q

abbrev pub OneNode : Type 0
OneNode = (t : Table) (i j : ℕ) (p : Path) → IsNodeTable t → LiesAt t i p → LiesAt t j p → i ≡ j

-- the path goes through the name in the directory at the other
abbrev pub GoesThrough : Path → Path → Name → Type 0
GoesThrough path above name = (rest : Path) × (path ≡ above ++ name ∷ rest)

-- a node that is looked up lies at its name in its directory, and all else where it lay
pub record LooksUp (old new : Table) (id : ℕ) (p : Place) : Type 0 where
  pub found : (above : Path) → LiesAt old p.parent above → LiesAt new id (above ++ p.name ∷ [])
  pub kept : (i : ℕ) (path : Path) → LiesAt old i path → LiesAt new i path

abbrev pub LearntLies : Type 0
LearntLies = (old new : Table) (id : ℕ) (p : Place) → Learns old new id p → LooksUp old new id p

-- what lay at the place or below it lies nowhere, and all else where it lay; what lay nowhere lies nowhere
pub record TakesAway (old new : Table) (above : Path) (name : Name) : Type 0 where
  pub gone : (i : ℕ) (rest path : Path) → LiesAt old i (above ++ name ∷ rest) → ¬ LiesAt new i path
  pub kept : (i : ℕ) (path : Path) → LiesAt old i path → ¬ GoesThrough path above name → LiesAt new i path
  pub only : (i : ℕ) (path : Path) → LiesAt new i path → LiesAt old i path

abbrev pub RemovedLiesNowhere : Type 0
RemovedLiesNowhere = (old new : Table) (p : Place) (above : Path) → IsNodeTable old → RemovesNode old new p → LiesAt old p.parent above
    → TakesAway old new above p.name

-- what lay at the first place or below it lies at the second or below it; what lay at the second or below it before, and not at
-- the first or below that, lies nowhere; all that lay at neither lies where it lay; and what lay nowhere lies nowhere. The second
-- directory lies neither at the first place nor below it
pub record MovesAll (old new : Table) (from : Path) (n : Name) (to : Path) (m : Name) : Type 0 where
  pub goes : (i : ℕ) (rest : Path) → LiesAt old i (from ++ n ∷ rest) → LiesAt new i (to ++ m ∷ rest)
  pub replaced : (i : ℕ) (rest path : Path) → LiesAt old i (to ++ m ∷ rest) → ¬ GoesThrough (to ++ m ∷ rest) from n → ¬ LiesAt new i path
  pub kept : (i : ℕ) (path : Path) → LiesAt old i path → ¬ GoesThrough path from n → ¬ GoesThrough path to m → LiesAt new i path
  pub only : (i : ℕ) (path : Path) → LiesAt new i path → (was : Path) × LiesAt old i was

abbrev pub RenamedLiesThere : Type 0
RenamedLiesThere = (old new : Table) (p q : Place) (from to : Path) → IsNodeTable old → Renames old new p q → LiesAt old p.parent from → LiesAt old q.parent to
    → ¬ GoesThrough to from p.name → MovesAll old new from p.name to q.name
