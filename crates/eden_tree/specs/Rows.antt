-- The rows of one directory.
use Rattle.std.specs.Prelude.{ℕ, zero, suc, ◌<◌, ◌≡◌, ◌^◌, if◌then◌else◌, List, [], ◌∷◌, length, Option}
use Rattle.std.specs.Option.{IsSome}
use Rattle.std.specs.Map.{lookup}
use Rattle.std.specs.Str.{bytes_eq}
use Rattle.eden_model.specs.declared.kind.Kind.TheVariants as kind
use Rattle.eden_model.specs.declared.kind.Origin.TheVariants as origin
use Rattle.eden_model.specs.Trees.{Name}
use Rattle.eden_model.specs.Operations.{name_lt}
use Rattle.eden_model.specs.Named.{AreRising}
use Rattle.eden_tree.specs.Directory.{Row, child_of}

-- the entry of that name
abbrev pub find_row : Name → List (Name × Row) → Option Row
find_row n rows = lookup (bytes_eq n) rows

-- the rows with this one before the first of a greater name
abbrev pub put_row : Name → Row → List (Name × Row) → List (Name × Row)
put_row n x [] = (n, x) ∷ []
put_row n x (e ∷ es) = if name_lt n e.0 then (n, x) ∷ (e ∷ es) else e ∷ put_row n x es

-- the rows without the one of that name
abbrev pub drop_row : Name → List (Name × Row) → List (Name × Row)
drop_row n [] = []
drop_row n (e ∷ es) = if bytes_eq n e.0 then es else e ∷ drop_row n es

-- the rows with f of the entry of that name in its place, where there is one
abbrev pub change_row : Name → (Row → Row) → List (Name × Row) → List (Name × Row)
change_row n f [] = []
change_row n f (e ∷ es) = if bytes_eq n e.0 then (e.0, f e.1) ∷ es else e ∷ change_row n f es

-- the rows with this entry in the place of that name's
abbrev pub set_row : Name → Row → List (Name × Row) → List (Name × Row)
set_row n x rows = change_row n (λ _. x) rows

-- the rows with this entry at that position
abbrev pub set_at : ℕ → Row → List (Name × Row) → List (Name × Row)
set_at i x [] = []
set_at zero x (e ∷ es) = (e.0, x) ∷ es
set_at (suc i) x (e ∷ es) = e ∷ set_at i x es

-- a loaded directory and the origin Empty stand with a directory alone
pub record IsEntry (x : Row) : Type 0 where
  pub loaded : IsSome (child_of x) → x.kind ≡ kind.Dir
  pub empty : x.origin ≡ origin.Empty → x.kind ≡ kind.Dir

-- what every directory keeps
pub record AreRows (rows : List (Name × Row)) : Type 0 where
  pub rising : AreRising (λ r. r.0) rows
  pub few : length rows < 2 ^ 32
