-- What two lists have alike, at their fronts and at their ends.
use Rattle.std.proofs.Common.{◌≡◌, ◌∙◌, ◌+◌, ◌-◌, ◌≤◌, Bool, false, List, ◌++◌, ℕ, drop, not, take, ap, refl, sym, arith}
use Rattle.std.specs.Cmp.Lexicographic.{pointwise}
use Rattle.std.proofs.lemmas.Bool.Decides.{Decides-eqb}
use Rattle.std.proofs.lemmas.List.{drop-drop, take-append-drop}
use Rattle.std.proofs.lemmas.Slice.Eq.{slice_eq-Decides}
use Rattle.std.proofs.Math.Seq.{take-add}
use lib.Dec.{eqb}

-- what isn't unequal is alike
pub alike : (xs ys : List ℕ) (r : Bool) → r ≡ not (pointwise eqb xs ys) → r ≡ false → xs ≡ ys
alike xs ys r is equal = (slice_eq-Decides Decides-eqb xs ys (pointwise eqb xs ys) refl).0 (grind arith)

-- one more part alike, at the front
pub front_grows : (n m : ℕ) (xs ys : List ℕ) → n ≤ m → take n xs ≡ take n ys → take (m - n) (drop n xs) ≡ take (m - n) (drop n ys) → take m xs ≡ take m ys
front_grows n m xs ys le same more =
    let e : n + (m - n) ≡ m = omega arith in
    ap (λ k. take k xs) (sym e) ∙ take-add n (m - n) xs ∙ ap (λ (l : List ℕ). l ++ take (m - n) (drop n xs)) same
    ∙ ap (λ (l : List ℕ). take n ys ++ l) more ∙ sym (take-add n (m - n) ys) ∙ ap (λ k. take k ys) e

-- what a list has from a place on is a part there, and what follows that
pub end_parts : (i m : ℕ) (xs : List ℕ) → i ≤ m → drop i xs ≡ take (m - i) (drop i xs) ++ drop m xs
end_parts i m xs le =
    let e : i + (m - i) ≡ m = omega arith in
    sym (take-append-drop (m - i) (drop i xs))
    ∙ ap (λ (l : List ℕ). take (m - i) (drop i xs) ++ l) (drop-drop (m - i) i xs ∙ ap (λ k. drop k xs) e)

-- one more part alike, at the end
pub end_grows : (i m j n : ℕ) (xs ys : List ℕ) → i ≤ m → j ≤ n → drop m xs ≡ drop n ys → take (m - i) (drop i xs) ≡ take (n - j) (drop j ys) → drop i xs ≡ drop j ys
end_grows i m j n xs ys le_xs le_ys same more =
    end_parts i m xs le_xs ∙ ap (λ (l : List ℕ). l ++ drop m xs) more ∙ ap (λ (l : List ℕ). take (n - j) (drop j ys) ++ l) same ∙ sym (end_parts j n ys le_ys)
