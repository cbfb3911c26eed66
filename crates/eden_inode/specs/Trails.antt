-- The positions of a path's names in the directories above them, and how many names were compared to find them.
use Rattle.std.specs.Prelude.{◌≡◌, ◌<◌, ◌≤◌, ◌+◌, ◌-◌, ◌*◌, ◌^◌, ℕ, min, List, [], ◌∷◌, ◌++◌, drop, length, Option, Some, false}
use Rattle.std.specs.List.{slice_get}
use Rattle.std.specs.Map.{keys_of}
use Rattle.std.specs.Option.{option_map, option_and_then}
use Rattle.eden_model.specs.declared.kind.Origin.{Origin}
use Rattle.eden_model.specs.Paths.{most_names}
use Rattle.eden_model.specs.Trees.{Name, Path}
use Rattle.eden_tree.specs.Directory.{Row, Directory, child_of}
use Rattle.eden_tree.specs.Rows.{find_row, set_row, set_at}
use Rattle.eden_tree.specs.Paths.{row_at, stamped_along}
use Rattle.eden_overlay.specs.Files.{Stored}
use Rattle.eden_coupling.specs.Loading.{IsAt, with_loaded}
use Rattle.eden_coupling.specs.NumberUnloads.{UnloadsAway}
use Rattle.eden_inode.specs.Tables.{Table}
use Rattle.eden_inode.specs.declared.seen.Seen.{Seen}

pub record Trail : Type 0 where
  -- the position of each name of a path, from the root on, as far as it was walked
  pub positions : List ℕ
  -- how many names were compared
  pub compared : ℕ

-- ---- positions that lead along a path

-- the entry x holds a directory, in which the name has that position, and the entry of that name is y
pub record Stands (n : Name) (i : ℕ) (x y : Row) : Type 0 where
  pub directory : Directory
  pub holds : child_of x ≡ Some directory
  pub place : slice_get (keys_of directory.rows) i ≡ Some n
  pub there : find_row n directory.rows ≡ Some y

-- the positions are those of the path's first names, from the entry x on, through loaded directories
abbrev pub Leads : Path → List ℕ → Row → Type 0
Leads p [] x = Unit {0}
Leads [] (i ∷ is) x = ⊥
Leads (n ∷ p) (i ∷ is) x = (y : Row) × (Stands n i x y × Leads p is y)

-- the names of the directory that is loaded at a path, each at its position
abbrev pub names_at : Path → Row → Option (List Name)
names_at p x = option_map (λ (d : Directory). keys_of d.rows) (option_and_then child_of (row_at p x))

-- each loaded directory of x is loaded in z, with its names at their positions
abbrev pub KeepsNames : Row → Row → Type 0
KeepsNames x z = (p : Path) (names : List Name) → names_at p x ≡ Some names → names_at p z ≡ Some names

-- ---- a look along a path

-- the name has that position in these rows, and the entry there is that of the name
pub record Pins (n : Name) (i : ℕ) (rows : List (Name × Row)) : Type 0 where
  pub row : Row
  pub place : slice_get (keys_of rows) i ≡ Some n
  pub at : slice_get rows i ≡ Some (n, row)
  pub there : find_row n rows ≡ Some row
  pub sets : (w : Row) → set_at i w rows ≡ set_row n w rows

-- by names: the positions that were found go behind those that were there, and at most 32 names of each directory were compared
pub record Finds (p : Path) (x : Row) (seen : Seen) (t u : Trail) : Type 0 where
  pub more : List ℕ
  pub is : u.positions ≡ t.positions ++ more
  pub leads : Leads p more x
  pub noted : length more ≡ seen.names
  pub counted : u.compared ≤ t.compared + 32 * length p
  -- .. and none in vain, if the look ended at no loaded directory
  pub through : seen.loaded ≡ false → u.compared ≤ t.compared + 32 * length more

-- by the positions from that depth on, and behind them by names
pub record Follows (depth : ℕ) (p : Path) (x : Row) (seen : Seen) (t u : Trail) : Type 0 where
  pub more : List ℕ
  pub is : u.positions ≡ t.positions ++ more
  pub leads : Leads p (drop depth t.positions ++ more) x
  pub noted : length (drop depth t.positions ++ more) ≡ seen.names
  pub counted : u.compared + 32 * length (drop depth t.positions) ≤ t.compared + 32 * length p
  pub through : seen.loaded ≡ false → u.compared ≤ t.compared + 32 * length more

-- All positions lead along the path, and those that were known weren't looked for again: of each directory past them at most 32
-- names were compared, and none in vain if the look ended at no loaded directory. Of a path that is longer than any request's
-- nothing is noted.
pub record Notes (p : Path) (z : Row) (seen : Seen) (t u : Trail) : Type 0 where
  pub leads : Leads p u.positions z
  pub noted : length p ≤ most_names → length u.positions ≡ seen.names
  pub known : length p ≤ most_names → length t.positions ≤ length u.positions
  pub counted : u.compared ≤ t.compared + 32 * (length p - length t.positions)
  pub through : length p ≤ most_names → seen.loaded ≡ false → u.compared ≤ t.compared + 32 * (length u.positions - length t.positions)
  pub none : most_names < length p → u.compared ≡ t.compared

-- ---- what each call of a table keeps

-- A place that was noted at a count of changes below its end is noted at no later one then; and if the count is that one still,
-- it was so before, and each loaded directory has kept its names.
abbrev pub KeepsPlaces : {F : Type 0} → Table F → Table F → Type 0
KeepsPlaces s t = (c : ℕ) → c < 2 ^ 64 - 1 → c ≤ s.changes → (c ≤ t.changes) × (c ≡ t.changes → (c ≡ s.changes) × KeepsNames s.root t.root)

-- positions go on to lead along a path while names are kept
abbrev pub LeadOn : Type 0
LeadOn = (p : Path) (is : List ℕ) (x z : Row) → KeepsNames x z → Leads p is x → Leads p is z

-- names are kept by stamps, and by a directory that is loaded
abbrev pub StampsKeepNames : Type 0
StampsKeepNames = (p : Path) (clock : ℕ) (x : Row) → KeepsNames x (stamped_along p clock x)

abbrev pub LoadsKeepNames : Type 0
LoadsKeepNames = (p : Path) (clock : ℕ) (d : Directory) (x : Row) (o : Origin) → IsAt p x o → KeepsNames x (with_loaded p clock d x)

-- places are kept where the count is the same and so are names, and one after the other
abbrev pub SameKeepsPlaces : Type 0 → Type 0
SameKeepsPlaces F = (s t : Table F) → t.changes ≡ s.changes → KeepsNames s.root t.root → KeepsPlaces s t

abbrev pub PlacesGoOn : Type 0 → Type 0
PlacesGoOn F = (s t u : Table F) → KeepsPlaces s t → KeepsPlaces t u → KeepsPlaces s u

-- .. and where the count rises, whatever changes
abbrev pub RiseKeepsPlaces : Type 0 → Type 0
RiseKeepsPlaces F = (s t : Table F) → t.changes ≡ min (s.changes + 1) (2 ^ 64 - 1) → KeepsPlaces s t

-- .. so by an unload, which raises it by each directory that goes
abbrev pub UnloadsKeepPlaces : Type 0 → Type 0 → Type 0
UnloadsKeepPlaces F honest = (s t : Table F) (clock age : ℕ) (G H : Stored) (gone count : ℕ) → gone ≡ min count (2 ^ 64 - 1)
    → UnloadsAway honest clock age G s.root H t.root count → t.changes ≡ min (s.changes + gone) (2 ^ 64 - 1) → KeepsPlaces s t
