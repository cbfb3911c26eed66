-- A child and the directory that it is.
use Rattle.std.proofs.Common.{◌≡◌, ℕ, ◌<◌, suc, zero, ◌+◌, List, [], ◌∷◌, length, get_or, Option, Some, None, Box, refl, sym, ap, ◌∙◌, arith}
use Rattle.std.specs.Option.{option_map, option_and_then}
use Rattle.eden_model.specs.declared.kind.Kind.{Kind}
use Rattle.eden_model.specs.declared.kind.Origin.{Origin}
use Rattle.eden_model.specs.Trees.{Name}
use Rattle.eden_tree.specs.Directory.{Child, unloaded, loaded, Rows, end, row, Row, Directory, rows_of, listed, directory_in, child_from, child_of, with_child, child_size, rows_size, row_size}
use Rattle.eden_tree.specs.Directory.{directory_size}
use Rattle.eden_tree.specs.Seen.{row_from}

pub listed-rows_of : (es : List (Name × Row)) → listed (rows_of es) ≡ es
listed-rows_of [] = refl
listed-rows_of (e ∷ es) = ap (λ l. e ∷ l) (listed-rows_of es)

pub rows_of-listed : (r : Rows) → rows_of (listed r) ≡ r
rows_of-listed end = refl
rows_of-listed (row n k d o c others) = ap (row n k d o c) (rows_of-listed others)

pub directory_in-child_from : (d : Option Directory) → directory_in (child_from d) ≡ d
directory_in-child_from None = refl
directory_in-child_from (Some d) = ap (λ es. Some (record d { rows = es })) (listed-rows_of d.rows)

pub child_from-directory_in : (c : Child) → child_from (directory_in c) ≡ c
child_from-directory_in unloaded = refl
child_from-directory_in (loaded s u r) = ap (loaded s u) (rows_of-listed r)

-- what an entry holds, put into it and taken out
pub child_of-with_child : (d : Option Directory) (x : Row) → child_of (with_child d x) ≡ d
child_of-with_child d x = directory_in-child_from d

pub with_child-child_of : (x : Row) → with_child (child_of x) x ≡ x
with_child-child_of x = ap (λ c. record x { child = c }) (child_from-directory_in x.child)

-- ---- the directory in an entry's field

module _ {A : Type 0} (k : ℕ) (d : Kind) (o : Origin) (c : Option (Box Directory A)) (x : Row) (is : row_from k d o c ≡ x) where
  pub held : child_of x ≡ option_map (λ b. b.value) c
  held = ap child_of (sym is) ∙ directory_in-child_from (option_map (λ b. b.value) c)

  pub held_some : (b : Box Directory A) → c ≡ Some b → child_of x ≡ Some b.value
  held_some b h = held ∙ ap (option_map (λ b. b.value)) h

  pub held_none : c ≡ None → child_of x ≡ None
  held_none h = held ∙ ap (option_map (λ b. b.value)) h

  pub row_size-held : (b : Box Directory A) → c ≡ Some b → row_size x ≡ directory_size b.value + 1
  row_size-held b h = ap row_size (sym is) ∙ ap (λ (c : Option (Box Directory A)). row_size (row_from k d o c)) h

pub itself : {X : Type 0} (o : Option X) → option_and_then (λ x. Some x) o ≡ o
itself None = refl
itself (Some x) = refl

-- an entry's child is smaller than the rows
pub child_smaller : (es : List (Name × Row)) (i : ℕ) (x : Name × Row) → i < length es → x ≡ get_or es i x → child_size x.1.child < rows_size (rows_of es)
child_smaller [] i x h is = absurd (omega arith)
child_smaller (e ∷ es) zero x h is = omega (arith, ap (λ (y : Name × Row). child_size y.1.child) is)
child_smaller (e ∷ es) (suc i) x h is = omega (arith, child_smaller es i x (omega arith) is)
