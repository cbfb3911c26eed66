-- Lemmas on slices.
use Rattle.std.proofs.Common.{◌≡◌, ℕ, ◌-◌, List, [], ◌∷◌, ◌++◌, take, drop, length, length-drop, ap, ◌∙◌, refl, arith}
use Rattle.std.proofs.lemmas.List.{take_all}

-- a slice from a place to the end
pub slice-end : (bytes : List ℕ) (s : ℕ) → take (length bytes - s) (drop s bytes) ≡ drop s bytes
slice-end bytes s =
    let len = length-drop s bytes in
    take_all (length bytes - s) (drop s bytes) (omega arith)

-- a list before another
pub take_front : (xs ys : List ℕ) (n : ℕ) → n ≡ length xs → take n (xs ++ ys) ≡ xs
take_front xs ys n e = ap (λ k. take k (xs ++ ys)) e ∙ at xs
  where
    at : (zs : List ℕ) → take (length zs) (zs ++ ys) ≡ zs
    at [] = refl
    at (z ∷ zs) = ap (λ l. z ∷ l) (at zs)
