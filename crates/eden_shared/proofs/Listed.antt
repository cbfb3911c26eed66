-- One place of a list, and a function of the others.
use Rattle.std.proofs.Common.{◌≡◌, ℕ, zero, suc, List, [], ◌∷◌, map, get_or, slice_get, slice_set, Some, refl, sym, ap}

pub map_set : {A B : Type 0} (f : A → B) (xs : List A) (k : ℕ) (y : A) → map f (slice_set xs k y) ≡ slice_set (map f xs) k (f y)
map_set f [] k y = refl
map_set f (x ∷ xs) zero y = refl
map_set f (x ∷ xs) (suc k) y = ap (λ ys. f x ∷ ys) (map_set f xs k y)

pub set_same : {A : Type 0} (xs : List A) (k : ℕ) (y : A) → slice_get xs k ≡ Some y → slice_set xs k y ≡ xs
set_same [] k y at = refl
set_same (x ∷ xs) zero y at = ap (λ z. z ∷ xs) (sym (cc at))
set_same (x ∷ xs) (suc k) y at = ap (λ ys. x ∷ ys) (set_same xs k y at)

pub mapped_at : {A B : Type 0} (f : A → B) (xs : List A) (k : ℕ) (x : A) (b : B) → x ≡ get_or xs k x → slice_get (map f xs) k ≡ Some b → f x ≡ b
mapped_at f [] k x b is at = absurd (cc at)
mapped_at f (y ∷ ys) zero x b is at = cc (is, at)
mapped_at f (y ∷ ys) (suc k) x b is at = mapped_at f ys k x b is at
