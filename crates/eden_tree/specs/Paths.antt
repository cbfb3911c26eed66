-- What stands at a path, from an entry or from a directory on.
use Rattle.std.specs.Prelude.{ℕ, Bool, max, suc, [], ◌∷◌, Option, Some, None}
use Rattle.std.specs.Option.{option_and_then, option_map}
use Rattle.eden_model.specs.declared.kind.Kind.{Kind}
use Rattle.eden_model.specs.declared.kind.Origin.{Origin}
use Rattle.eden_model.specs.Trees.{Path}
use Rattle.eden_tree.specs.Directory.{Child, unloaded, loaded, Rows, end, row, Row, Directory, rows_of, child_of, change_child, change_rows}
use Rattle.eden_tree.specs.Rows.{find_row, change_row}

-- the entry at a path from an entry on, through loaded directories, with what it holds
abbrev pub row_at : Path → Row → Option Row
row_at [] x = Some x
row_at (n ∷ p) x = option_and_then (λ d. option_and_then (row_at p) (find_row n d.rows)) (child_of x)

-- x with f of the entry at a path in its place, where there is one
abbrev pub edit_row : Path → (Row → Row) → Row → Row
edit_row [] f x = f x
edit_row (n ∷ p) f x = change_rows (change_row n (edit_row p f)) x

-- the entry at a path in a directory
abbrev pub row_in : Path → Directory → Option Row
row_in [] d = None
row_in (n ∷ p) d = option_and_then (row_at p) (find_row n d.rows)

-- the loaded directory at a path
abbrev pub directory_at : Path → Directory → Option Directory
directory_at [] d = Some d
directory_at (n ∷ p) d = option_and_then child_of (row_in (n ∷ p) d)

-- x with that stamp on each loaded directory of the path, its own and that at the end among them
abbrev pub stamped_along : Path → ℕ → Row → Row
stamped_along [] s x = change_child (λ d. record d { stamp = s }) x
stamped_along (n ∷ p) s x = change_child (λ d. record d { stamp = s; rows = change_row n (stamped_along p s) d.rows }) x

-- ---- an entry as it stands at its path: all but the entries below it

pub record Standing : Type 0 where
  pub number : ℕ
  pub kind : Kind
  pub origin : Origin
  -- the stamp and the mark of its loaded directory
  pub loaded : Option (ℕ × Bool)

abbrev pub standing : Row → Standing
standing x = record { number = x.number; kind = x.kind; origin = x.origin; loaded = option_map (λ d. (d.stamp, d.unsaved)) (child_of x) }

abbrev pub standing_at : Path → Row → Option Standing
standing_at p x = option_map standing (row_at p x)

abbrev pub standing_in : Path → Directory → Option Standing
standing_in p d = option_map standing (row_in p d)

abbrev pub stamped : ℕ → Standing → Standing
stamped s x = record x { loaded = option_map (λ l. (s, l.1)) x.loaded }

-- ---- the levels of loaded directories

abbrev mutual
  pub child_depth : Child → ℕ
  child_depth unloaded = 0
  child_depth (loaded s u r) = suc (deepest r)

  -- of the loaded directories in these rows, the greatest depth
  pub deepest : Rows → ℕ
  deepest end = 0
  deepest (row n k d o c others) = max (child_depth c) (deepest others)

-- this one among them
abbrev pub depth_of : Directory → ℕ
depth_of d = suc (deepest (rows_of d.rows))
