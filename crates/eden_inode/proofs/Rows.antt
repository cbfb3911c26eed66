-- Rows of a directory, one after the other.
use Rattle.std.proofs.Common.{◌≡◌, ℕ, zero, suc, ◌+◌, ◌<◌, true, false, List, [], ◌∷◌, length, Option, Box, inl, inr, Some, None, refl, sym, ap, arith}
use Rattle.std.specs.List.{slice_get}
use Rattle.std.specs.Option.{option_map, option_and_then, is_some}
use Rattle.std.proofs.lemmas.Bool.{cases_lt}
use Rattle.eden_model.specs.Trees.{Name, Path}
use Rattle.eden_tree.specs.Directory.{Row, Directory, child_of}
use Rattle.eden_tree.specs.Rows.{find_row, set_at}
use Rattle.eden_tree.specs.Paths.{row_at}
use Rattle.eden_coupling.proofs.CallerLemmas.{and_then_some}

pub same_some : {X : Type 0} (x y : X) → Some x ≡ Some y → x ≡ y
same_some x y e = cc

pub none_some : {X : Type 0} (x : X) (P : Type 0) → None ≡ Some x → P
none_some x P e = absurd (cc)

-- ---- positions

pub none_there : (es : List (Name × Row)) (i : ℕ) → i < length es → None ≡ option_map (λ (r : Name × Row). r.1) (slice_get es i) → ⊥
none_there [] i w h = absurd (omega arith)
none_there (e ∷ es) zero w h = absurd (cc)
none_there (e ∷ es) (suc i) w h = none_there es i (omega arith) h

pub get_set_here : (i : ℕ) (x : Row) (es : List (Name × Row)) (e f : Name × Row) → slice_get es i ≡ Some e → slice_get (set_at i x es) i ≡ Some f → f.1 ≡ x
get_set_here i x [] e f h g = absurd (cc)
get_set_here zero x (a ∷ es) e f h g = ap (λ (o : Name × Row). o.1) (sym (same_some (a.0, x) f g))
get_set_here (suc i) x (a ∷ es) e f h g = get_set_here i x es e f h g

pub by_order : (j i : ℕ) (P : Type 0) → j < i + 1 → (j < i → P) → (j ≡ i → P) → P
by_order j i P h less same = elim (cases_lt j i) [ inl b ↦ less b | inr from ↦ same (omega (arith, from, h)) ]

-- ---- a child's field

pub none_held : {A : Type 0} (o : Option (Box Directory A)) → option_map (λ b. b.value) o ≡ None → is_some o ≡ true → ⊥
none_held None h k = absurd (cc)
none_held (Some b) h k = absurd (cc)

pub not_held : {A : Type 0} (o : Option (Box Directory A)) → is_some o ≡ false → option_map (λ b. b.value) o ≡ None
not_held None k = refl
not_held (Some b) k = absurd (cc)

-- ---- paths

-- a path of names leads through a loaded directory
pub record IsThrough (n : Name) (p : Path) (x y : Row) : Type 0 where
  pub directory : Directory
  pub below : Row
  pub holds : child_of x ≡ Some directory
  pub there : find_row n directory.rows ≡ Some below
  pub at : row_at p below ≡ Some y

pub through : (n : Name) (p : Path) (x y : Row) → row_at (n ∷ p) x ≡ Some y → IsThrough n p x y
through n p x y h =
    let d = and_then_some (λ (d : Directory). option_and_then (row_at p) (find_row n d.rows)) (child_of x) y h in
    let z = and_then_some (row_at p) (find_row n d.0.rows) y d.1.1 in
    record { directory = d.0; below = z.0; holds = d.1.0; there = z.1.0; at = z.1.1 }
