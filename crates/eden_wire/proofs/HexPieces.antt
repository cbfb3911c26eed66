-- Lemmas on hexadecimal text that is written in pieces.
use Rattle.std.proofs.Common.{◌≡◌, ℕ, ◌/◌, ◌%◌, ◌∷◌, List, [], ◌++◌, length, take, drop, ◌==◌, true, refl, sym, ap, ◌∙◌, take-append-drop, append_assoc, append-nil, eqb-true, arith}
use Rattle.std.specs.Prelude.{slice_index}
use Rattle.hex.specs.Hex.{encode_lower, encode_with, lower_digits}

encode_with-append : (t xs ys : List ℕ) → encode_with t (xs ++ ys) ≡ encode_with t xs ++ encode_with t ys
unfolding encode_with
encode_with-append t [] ys = refl
encode_with-append t (x ∷ xs) ys = ap (λ l. slice_index t (x / 16) ∷ slice_index t (x % 16) ∷ l) (encode_with-append t xs ys)

pub encode_lower-append : (xs ys : List ℕ) → encode_lower (xs ++ ys) ≡ encode_lower xs ++ encode_lower ys
encode_lower-append xs ys = encode_with-append lower_digits xs ys

pub encode_lower-none : encode_lower [] ≡ []
unfolding encode_with
encode_lower-none = refl

-- one piece more
pub hex_split : (text done rest a b : List ℕ) (n : ℕ) → text ≡ done ++ encode_lower rest → a ≡ take n rest → b ≡ drop n rest → text ≡ (done ++ encode_lower a) ++ encode_lower b
hex_split text done rest a b n e f h =
    let parts : rest ≡ a ++ b = sym (take-append-drop n rest) ∙ ap (λ l. l ++ drop n rest) (sym f) ∙ ap (λ l. a ++ l) (sym h) in
    e ∙ ap (λ l. done ++ l) (ap encode_lower parts ∙ encode_lower-append a b) ∙ sym (append_assoc done (encode_lower a) (encode_lower b))

pub hex_all : (text done rest : List ℕ) → text ≡ done ++ encode_lower rest → true ≡ (length rest == 0) → done ≡ text
hex_all text done [] e none = sym (e ∙ ap (λ l. done ++ l) encode_lower-none ∙ append-nil done)
hex_all text done (b ∷ rest) e none = let zero : length (b ∷ rest) ≡ 0 = eqb-true (length (b ∷ rest)) 0 (sym none) in absurd (omega arith)
