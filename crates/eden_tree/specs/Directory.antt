-- What a directory is seen as: its stamp, its mark, and its rows in byte order of their names.
use Rattle.std.specs.Prelude.{ℕ, ◌+◌, Bool, List, [], ◌∷◌, Option, Some, None}
use Rattle.std.specs.Option.{option_map}
use Rattle.eden_model.specs.declared.kind.Kind.{Kind}
use Rattle.eden_model.specs.declared.kind.Origin.{Origin}
use Rattle.eden_model.specs.Trees.{Name}

mutual
  -- what an entry holds: no directory, or a loaded one, with its stamp, its mark and its rows
  pub data Child : Type 0 where
    unloaded : Child
    loaded : ℕ → Bool → Rows → Child

  -- the rows of a loaded directory: a name, its entry's number, kind, origin and child, and the other rows
  pub data Rows : Type 0 where
    end : Rows
    row : Name → ℕ → Kind → Origin → Child → Rows → Rows

-- an entry
pub record Row : Type 0 where
  pub number : ℕ
  pub kind : Kind
  pub origin : Origin
  pub child : Child

pub record Directory : Type 0 where
  pub stamp : ℕ
  pub unsaved : Bool
  pub rows : List (Name × Row)

-- ---- a list of rows, as a loaded directory holds it, and back

abbrev pub rows_of : List (Name × Row) → Rows
rows_of [] = end
rows_of (e ∷ es) = row e.0 e.1.number e.1.kind e.1.origin e.1.child (rows_of es)

abbrev pub listed : Rows → List (Name × Row)
listed end = []
listed (row n k d o c others) = (n, record { number = k; kind = d; origin = o; child = c }) ∷ listed others

-- the directory that a child is, and back
abbrev pub directory_in : Child → Option Directory
directory_in unloaded = None
directory_in (loaded s u r) = Some (record { stamp = s; unsaved = u; rows = listed r })

abbrev pub child_from : Option Directory → Child
child_from None = unloaded
child_from (Some d) = loaded d.stamp d.unsaved (rows_of d.rows)

-- the directory that an entry holds
abbrev pub child_of : Row → Option Directory
child_of x = directory_in x.child

-- an entry with this directory, or with none
abbrev pub with_child : Option Directory → Row → Row
with_child d x = record x { child = child_from d }

-- an entry with f of the directory that it holds in its place, where it holds one
abbrev pub change_child : (Directory → Directory) → Row → Row
change_child f x = with_child (option_map f (child_of x)) x

-- and with f of that directory's rows
abbrev pub change_rows : (List (Name × Row) → List (Name × Row)) → Row → Row
change_rows f x = change_child (λ d. record d { rows = f d.rows }) x

-- ---- how large one is: the rows at and below it, and the loaded directories below it

abbrev mutual
  pub child_size : Child → ℕ
  child_size unloaded = 0
  child_size (loaded s u r) = rows_size r + 1

  pub rows_size : Rows → ℕ
  rows_size end = 0
  rows_size (row n k d o c others) = child_size c + rows_size others + 1

abbrev pub row_size : Row → ℕ
row_size x = child_size x.child

abbrev pub directory_size : Directory → ℕ
directory_size d = rows_size (rows_of d.rows)
