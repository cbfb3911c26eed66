-- What an attempt remembers of its walk: positions that lead along a path of its request, and how many names were compared.
use Rattle.std.specs.Prelude.{◌≡◌, ◌≤◌, ◌<◌, ◌+◌, ◌-◌, ◌*◌, ◌^◌, ◌==◌, ◌&&◌, nat_lt, ℕ, Bool, true, false, List, [], ◌∷◌, length}
use Rattle.std.specs.Prelude.{if◌then◌else◌}
use Rattle.eden_model.specs.declared.attempt.Attempt.{Attempt}
use Rattle.eden_model.specs.declared.attempt.Attempt.TheVariants.{Need}
use Rattle.eden_model.specs.declared.id.Key.{Key}
use Rattle.eden_model.specs.declared.request.Request.{Request}
use Rattle.eden_model.specs.Requests.{paths_of}
use Rattle.eden_model.specs.Trees.{Path}
use Rattle.eden_tree.specs.Directory.{Row}
use Rattle.eden_inode.specs.Tables.{Table}
use Rattle.eden_inode.specs.Trails.{Trail, Leads}
use Rattle.eden_ops.specs.declared.place.Place.{Place}

-- for each component past the positions that were known at most 32 names were compared
abbrev pub Counts : Path → Trail → Trail → Type 0
Counts p t u = u.compared ≤ t.compared + 32 * (length p - length t.positions)

-- where the attempt waits, the positions lead along the path
abbrev pub LeadsToNeed : Path → List ℕ → Row → Attempt → Type 0
LeadsToNeed p is x a = (k : Key) → a ≡ Need k → Leads p is x

-- the first of a request's paths, and the second
abbrev pub first_of : List Path → Path
first_of [] = []
first_of (p ∷ ps) = p

abbrev pub second_of : List Path → Path
second_of [] = []
second_of (p ∷ ps) = first_of ps

-- the path that a walk is on: the second, or else the first
abbrev pub walked_of : Bool → List Path → Path
walked_of true ps = second_of ps
walked_of false ps = first_of ps

-- ---- places

-- no name has changed since the place was kept: the count of changes is the same, and not at its end
abbrev pub is_present : ℕ → Place → Bool
is_present changes p = (p.changes == changes) && nat_lt changes (2 ^ 64 - 1)

-- the positions that an attempt goes by, and of which path; any other place is passed over
abbrev pub remembered : ℕ → Place → List ℕ
remembered changes p = if is_present changes p then p.trail.positions else []

abbrev pub is_second : ℕ → Place → Bool
is_second changes p = if is_present changes p then p.second else false

-- a place that isn't passed over leads along a path of the request
abbrev pub LeadsFor : Request → ℕ → Row → Place → Type 0
LeadsFor q changes x p = Leads (walked_of (is_second changes p) (paths_of q)) (remembered changes p) x

-- a place without positions, from which an attempt begins at the root, on the first path
pub record IsBare (p : Place) : Type 0 where
  pub first : p.second ≡ false
  pub none : p.trail.positions ≡ []

-- so any attempt may begin there
abbrev pub LeadsAll : Place → Type 0
LeadsAll p = (q : Request) (changes : ℕ) (x : Row) → LeadsFor q changes x p

module _ {F : Type 0} where
  -- an attempt of the request may continue at the place: it was noted at no later count of changes, and it leads along a path of
  -- the request, unless it is passed over
  pub record MayGoOn (q : Request) (s : Table F) (p : Place) : Type 0 where
    pub noted : p.changes < 2 ^ 64 - 1 → p.changes ≤ s.changes
    pub leads : LeadsFor q s.changes s.root p

-- how many components a request's paths have
abbrev pub components : List Path → ℕ
components [] = 0
components (p ∷ ps) = length p + components ps
