-- What the equations of the calls say path by path.
use Rattle.std.specs.Prelude.{◌≡◌, [], ◌∷◌, ◌++◌, ℕ, List, Option, Some, None}
use Rattle.std.specs.Option.{option_and_then, option_map}
use Rattle.eden_model.specs.Trees.{Name, Path, grafted}
use Rattle.eden_model.specs.Paths.{behind_of}
use Rattle.eden_tree.specs.Directory.{Row, Directory, child_of, with_child, change_rows}
use Rattle.eden_tree.specs.Rows.{find_row, put_row, drop_row, change_row, set_row}
use Rattle.eden_model.specs.Named.{AreRising}
use Rattle.eden_tree.specs.Paths.{row_at, edit_row, stamped_along, standing_at, standing_in, stamped}

-- ---- in one directory

-- with an entry put in, it and what it holds stand at and below its name, and every other path is as it was
abbrev pub PutsOne : Type 0
PutsOne = (d : Directory) (n : Name) (x : Row) (q : Path) → find_row n d.rows ≡ None
    → standing_in q (record d { rows = put_row n x d.rows }) ≡ grafted (behind_of (n ∷ []) q) (λ r. standing_at r x) (standing_in q d)

-- with an entry taken out, nothing stands at and below its name, and every other path is as it was
abbrev pub DropsOne : Type 0
DropsOne = (d : Directory) (n : Name) (q : Path) → AreRising (λ r. r.0) d.rows
    → standing_in q (record d { rows = drop_row n d.rows }) ≡ grafted (behind_of (n ∷ []) q) (λ r. None) (standing_in q d)

-- with an entry changed, the new one stands at and below its name, and every other path is as it was
abbrev pub ChangesOne : Type 0
ChangesOne = (d : Directory) (n : Name) (f : Row → Row) (x : Row) (q : Path) → find_row n d.rows ≡ Some x
    → standing_in q (record d { rows = change_row n f d.rows }) ≡ grafted (behind_of (n ∷ []) q) (λ r. standing_at r (f x)) (standing_in q d)

-- what was put in and is taken out, taken out and put in, or set and set back, is as it was
abbrev pub PutsUndone : Type 0
PutsUndone = (n : Name) (x : Row) (rows : List (Name × Row)) → find_row n rows ≡ None → drop_row n (put_row n x rows) ≡ rows

abbrev pub DropsUndone : Type 0
DropsUndone = (n : Name) (x : Row) (rows : List (Name × Row)) → AreRising (λ r. r.0) rows → find_row n rows ≡ Some x → put_row n x (drop_row n rows) ≡ rows

abbrev pub SetsUndone : Type 0
SetsUndone = (n : Name) (x y : Row) (rows : List (Name × Row)) → find_row n rows ≡ Some y → set_row n y (set_row n x rows) ≡ rows

-- what stands before and behind the entry x of a name, and stays there
pub record IsSplit (n : Name) (x : Row) (rows : List (Name × Row)) : Type 0 where
  pub front : List (Name × Row)
  pub back : List (Name × Row)
  pub is : rows ≡ front ++ (n, x) ∷ back
  pub dropped : drop_row n rows ≡ front ++ back
  pub changed : (f : Row → Row) → change_row n f rows ≡ front ++ (n, f x) ∷ back

abbrev pub Splits : Type 0
Splits = (n : Name) (x : Row) (rows : List (Name × Row)) → find_row n rows ≡ Some x → IsSplit n x rows

-- what stands before and behind an entry that is put in, and stays there
pub record IsBetween (n : Name) (x : Row) (rows : List (Name × Row)) : Type 0 where
  pub front : List (Name × Row)
  pub back : List (Name × Row)
  pub is : rows ≡ front ++ back
  pub put : put_row n x rows ≡ front ++ (n, x) ∷ back

abbrev pub PutsBetween : Type 0
PutsBetween = (n : Name) (x : Row) (rows : List (Name × Row)) → IsBetween n x rows

-- ---- from an entry on

-- a longer path goes on from the entry at its front, and so does an edit
abbrev pub ReadsOn : Type 0
ReadsOn = (p r : Path) (x : Row) → row_at (p ++ r) x ≡ option_and_then (row_at r) (row_at p x)

abbrev pub EditsOn : Type 0
EditsOn = (p r : Path) (f : Row → Row) (x : Row) → edit_row (p ++ r) f x ≡ edit_row p (edit_row r f) x

-- at its path an edit is f of the entry there
abbrev pub EditsThere : Type 0
EditsThere = (p : Path) (f : Row → Row) (x : Row) → row_at p (edit_row p f x) ≡ option_map f (row_at p x)

-- beside it nothing has changed
abbrev pub EditsNotBeside : Type 0
EditsNotBeside = (p q : Path) (f : Row → Row) (x : Row) → behind_of p q ≡ None → behind_of q p ≡ None → row_at q (edit_row p f x) ≡ row_at q x

-- the new entry stands at and below the path, and every other path is as it was, also above
abbrev pub EditsOne : Type 0
EditsOne = (p : Path) (f : Row → Row) (x y : Row) (q : Path) → row_at p x ≡ Some y
    → standing_at q (edit_row p f x) ≡ grafted (behind_of p q) (λ r. standing_at r (f y)) (standing_at q x)

-- an edit where no entry is, or one that leaves the entry as it is, changes nothing
abbrev pub EditsNothing : Type 0
EditsNothing = (p : Path) (f : Row → Row) (x : Row) → row_at p x ≡ None → edit_row p f x ≡ x

abbrev pub EditsSame : Type 0
EditsSame = (p : Path) (f : Row → Row) (x y : Row) → row_at p x ≡ Some y → f y ≡ y → edit_row p f x ≡ x

-- two edits that agree on the entry there are one, and so are two, one after the other
abbrev pub EditsAlike : Type 0
EditsAlike = (p : Path) (f g : Row → Row) (x y : Row) → row_at p x ≡ Some y → f y ≡ g y → edit_row p f x ≡ edit_row p g x

abbrev pub EditsTwice : Type 0
EditsTwice = (p : Path) (f g : Row → Row) (x : Row) → edit_row p f (edit_row p g x) ≡ edit_row p (λ y. f (g y)) x

-- with an entry put into the directory at a path, or taken out of it, that is so at and below its name alone
abbrev pub PutsAt : Type 0
PutsAt = (p : Path) (n : Name) (z x y : Row) (d : Directory) (q : Path) → row_at p x ≡ Some y → child_of y ≡ Some d → find_row n d.rows ≡ None
    → standing_at q (edit_row p (change_rows (put_row n z)) x) ≡ grafted (behind_of (p ++ n ∷ []) q) (λ r. standing_at r z) (standing_at q x)

abbrev pub DropsAt : Type 0
DropsAt = (p : Path) (n : Name) (x y : Row) (d : Directory) (q : Path) → row_at p x ≡ Some y → child_of y ≡ Some d → AreRising (λ r. r.0) d.rows
    → standing_at q (edit_row p (change_rows (drop_row n)) x) ≡ grafted (behind_of (p ++ n ∷ []) q) (λ r. None) (standing_at q x)

-- the directories of the path are stamped, and every other path is as it was
abbrev pub StampsAlong : Type 0
StampsAlong = (p : Path) (s : ℕ) (x : Row) (q : Path)
    → standing_at q (stamped_along p s x) ≡ grafted (behind_of q p) (λ r. option_map (stamped s) (standing_at q x)) (standing_at q x)

-- ---- one step of a caller that goes down

-- an entry holds the directory that was put into it; what it holds, put back, changes nothing
abbrev pub HoldsWhatWasPut : Type 0
HoldsWhatWasPut = (o : Option Directory) (x : Row) → child_of (with_child o x) ≡ o

abbrev pub PutsBackChild : Type 0
PutsBackChild = (x : Row) → with_child (child_of x) x ≡ x

-- an entry lent by its name is the first of the path, and an edit below it is one from the entry above
abbrev pub StepsDown : Type 0
StepsDown = (n : Name) (p : Path) (x y : Row) (d : Directory) → child_of x ≡ Some d → find_row n d.rows ≡ Some y → row_at (n ∷ p) x ≡ row_at p y

abbrev pub StepsBack : Type 0
StepsBack = (n : Name) (p : Path) (f : Row → Row) (x y : Row) (d : Directory) → child_of x ≡ Some d → find_row n d.rows ≡ Some y
    → with_child (Some (record d { rows = set_row n (edit_row p f y) d.rows })) x ≡ edit_row (n ∷ p) f x
