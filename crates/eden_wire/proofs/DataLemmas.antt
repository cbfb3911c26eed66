-- Lemmas on bytes in lower-case hexadecimal: a text spells one list of bytes.
use Rattle.std.proofs.Common.{◌==◌, ◌≡◌, ◌≢◌, ℕ, ◌+◌, ◌-◌, ◌*◌, ◌/◌, ◌%◌, ◌<◌, ◌≤◌, ◌&&◌, List, [], ◌∷◌, length, Bool, true, false, cond, zero, suc, codes, sym, ap, ◌∙◌, subst, refl, Ok, MatchBool}
use Rattle.std.proofs.Common.{arith}
use Rattle.std.specs.Prelude.{nat_lt, slice_index}
use Rattle.std.specs.List.{AllByRecursion, list_all}
use Rattle.std.specs.Str.{bytes_eq}
use Rattle.std.proofs.lemmas.Bool.{false≢true, and_parts}
use Rattle.std.proofs.lemmas.Bool.Decides.{Decides-below_and, Decides-eqb, nat_tests}
use Rattle.hex.specs.Hex.{encode_lower, encode_with, lower_digits, decode_of, IsBytes}
use Rattle.hex.proofs.HexLemmas.{length-encode_with, decode_of-encode_lower}
use Rattle.eden_wire.specs.Names.{AreBytes}
use Rattle.eden_wire.specs.Splits.{Lacks}
use Rattle.eden_model.specs.Bytes.{is_lower_hex_digit}
use Rattle.eden_wire.specs.Scans.{SpellsData}
use Rattle.eden_wire.specs.Sorts.{hex_text}

abbrev pub IsDigit : ℕ → Type 0
IsDigit c = is_lower_hex_digit c ≡ true

abbrev digits_agree : ℕ → Bool
digits_agree zero = true
digits_agree (suc d) = (slice_index lower_digits d == cond (nat_lt d 10) (48 + d) (87 + d)) && digits_agree d

digit_is : (d : ℕ) → d < 16 → slice_index lower_digits d ≡ cond (nat_lt d 10) (48 + d) (87 + d)
digit_is = (Decides-below_and (λ d. slice_index lower_digits d == cond (nat_lt d 10) (48 + d) (87 + d)) (λ d. slice_index lower_digits d ≡ cond (nat_lt d 10) (48 + d) (87 + d)) digits_agree
    (λ d. Decides-eqb _ _) refl (λ _. refl) 16).0 refl

abbrev all_digits : ℕ → Bool
all_digits zero = true
all_digits (suc d) = is_lower_hex_digit (slice_index lower_digits d) && all_digits d

digit_passes : (d : ℕ) → d < 16 → IsDigit (slice_index lower_digits d)
digit_passes = (Decides-below_and (λ d. is_lower_hex_digit (slice_index lower_digits d)) (λ d. IsDigit (slice_index lower_digits d)) all_digits (λ d. (λ e. e, λ e. e)) refl (λ _. refl) 16).0 refl

-- a digit has a value
digit_value : (c : ℕ) → IsDigit c → (d : ℕ) × (d < 16) × (slice_index lower_digits d ≡ c)
digit_value c h = at (nat_lt c 58) refl
  where
    at : (low : Bool) → low ≡ nat_lt c 58 → (d : ℕ) × (d < 16) × (slice_index lower_digits d ≡ c)
    at true e =
        let range : (48 ≤ c) × (c < 58) = grind (arith, nat_tests) in
        let small : nat_lt (c - 48) 10 ≡ true = grind (arith, nat_tests) in
        let value = digit_is (c - 48) (omega arith) in
        let here = rw small at value in
        (c - 48, omega arith, here ∙ omega arith)
    at false e =
        let range : (97 ≤ c) × (c < 103) = grind (arith, nat_tests) in
        let large : nat_lt (c - 87) 10 ≡ false = grind (arith, nat_tests) in
        let value = digit_is (c - 87) (omega arith) in
        let here = rw large at value in
        (c - 87, omega arith, here ∙ omega arith)

-- digits in pairs are the text of bytes
paired : (n : ℕ) (text : List ℕ) → length text ≡ 2 * n → AllByRecursion IsDigit text → (bytes : List ℕ) × AreBytes bytes × (text ≡ encode_lower bytes)
unfolding encode_with
paired zero [] size h = ([], tt, refl)
paired zero (c ∷ text) size h = absurd (omega arith)
paired (suc n) [] size h = absurd (omega arith)
paired (suc n) (c ∷ []) size h = absurd (omega arith)
paired (suc n) (c ∷ d ∷ text) size h =
    let high = digit_value c h.0 in
    let low = digit_value d h.1.0 in
    let high_small = high.1 in
    let low_small = low.1 in
    let on = paired n text (omega arith) h.1.1 in
    let b = 16 * high.0 + low.0 in
    let first : b / 16 ≡ high.0 = omega arith in
    let second : b % 16 ≡ low.0 = omega arith in
    (b ∷ on.0, (omega arith, on.1), rw (first, second, high.2, low.2) (ap (λ l. c ∷ d ∷ l) on.2))

text_digits : (bytes : List ℕ) → AreBytes bytes → AllByRecursion IsDigit (encode_lower bytes)
unfolding encode_with
text_digits [] small = tt
text_digits (b ∷ bytes) small = let low = small.0 in (digit_passes (b / 16) (omega arith), (digit_passes (b % 16) (omega arith), text_digits bytes small.1))

-- digits, two a byte and some
spells_data : (text : List ℕ) → 0 < length text → length text % 2 ≡ 0 → AllByRecursion IsDigit text → SpellsData text
spells_data text some even digits =
    let found = paired (length text / 2) text (omega arith) digits in
    at found.0 found.1 found.2
  where
    at : (bytes : List ℕ) → AreBytes bytes → text ≡ encode_lower bytes → SpellsData text
    at [] small e = let size = ap length e ∙ length-encode_with lower_digits [] in absurd (omega arith)
    at (b ∷ bytes) small e = (b ∷ bytes, small, e)

abbrev pub SpellsNoData : List ℕ → Type 0
SpellsNoData text = (bytes : List ℕ) → AreBytes bytes → text ≢ hex_text bytes

-- no dash, and what is none of the texts of bytes
no_data : (text : List ℕ) → (text ≡ codes "-" → ⊥) → ((bytes : List ℕ) → AreBytes bytes → 0 < length bytes → text ≡ encode_lower bytes → ⊥) → SpellsNoData text
no_data text not none [] small e = not e
no_data text not none (b ∷ bytes) small e = none (b ∷ bytes) small (omega arith) e

pub no_dash : (text : List ℕ) → false ≡ bytes_eq text (codes "-") → text ≡ codes "-" → ⊥
no_dash text e h = false≢true (e ∙ ap (λ t. bytes_eq t (codes "-")) h)

pub odd_data : (text : List ℕ) → (text ≡ codes "-" → ⊥) → (length text % 2 ≡ 0 → ⊥) → SpellsNoData text
odd_data text not odd = no_data text not (λ bytes small some e. let size = ap length e ∙ length-encode_with lower_digits bytes in odd (omega arith))

pub empty_data : (text : List ℕ) → (text ≡ codes "-" → ⊥) → length text ≡ 0 → SpellsNoData text
empty_data text not empty = no_data text not (λ bytes small some e. let size = ap length e ∙ length-encode_with lower_digits bytes in omega arith)

passed : (text : List ℕ) → list_all is_lower_hex_digit text ≡ true → AllByRecursion IsDigit text
passed [] h = tt
passed (c ∷ text) h = let parts = and_parts (is_lower_hex_digit c) (list_all is_lower_hex_digit text) h in (parts.0, passed text parts.1)

all_pass : (text : List ℕ) → AllByRecursion IsDigit text → list_all is_lower_hex_digit text ≡ true
all_pass [] h = refl
all_pass (c ∷ text) h = rw (h.0, all_pass text h.1) refl

-- an even number of bytes is data where all are digits
pub digits_or_not : (text : List ℕ) (r : Bool) → (text ≡ codes "-" → ⊥) → 0 < length text → length text % 2 ≡ 0 → r ≡ list_all is_lower_hex_digit text
    → MatchBool r (SpellsData text) (SpellsNoData text)
digits_or_not text true not some even e = spells_data text some even (passed text (sym e))
digits_or_not text false not some even e = no_data text not (λ bytes small long h. false≢true (e ∙ all_pass text (subst (AllByRecursion IsDigit) (sym h) (text_digits bytes small))))

are_bytes : (xs : List ℕ) → AreBytes xs → IsBytes xs
are_bytes [] h i = omega arith
are_bytes (x ∷ xs) h zero = h.0
are_bytes (x ∷ xs) h (suc i) = are_bytes xs h.1 i

pub decoded : (text bytes : List ℕ) → AreBytes bytes → text ≡ encode_lower bytes → decode_of text ≡ Ok bytes
decoded text bytes small e = ap decode_of e ∙ decode_of-encode_lower bytes (are_bytes bytes small)

-- data has two digits a byte
pub data_even : (text : List ℕ) → (text ≡ codes "-" → ⊥) → SpellsData text → length text ≡ 2 * (length text / 2)
data_even text not spells = at spells.0 spells.2
  where
    at : (bytes : List ℕ) → text ≡ hex_text bytes → length text ≡ 2 * (length text / 2)
    at [] h = absurd (not h)
    at (b ∷ bytes) h = let size = ap length h ∙ length-encode_with lower_digits (b ∷ bytes) in omega arith

-- what was read of a text that spells data
pub read_is : (text found : List ℕ) → (text ≡ codes "-" → ⊥) → SpellsData text → ((bytes : List ℕ) → AreBytes bytes → text ≡ encode_lower bytes → found ≡ bytes)
    → AreBytes found × (text ≡ hex_text found)
read_is text found not spells reads = at spells.0 spells.1 spells.2
  where
    at : (bytes : List ℕ) → AreBytes bytes → text ≡ hex_text bytes → AreBytes found × (text ≡ hex_text found)
    at [] small h = absurd (not h)
    at (b ∷ bytes) small h = subst (λ l. AreBytes l × (text ≡ hex_text l)) (sym (reads (b ∷ bytes) small h)) (small, h)

-- a text spells one list of bytes
pub hex_same : (a b : List ℕ) → AreBytes a → AreBytes b → hex_text a ≡ hex_text b → a ≡ b
hex_same [] [] h k e = refl
hex_same [] (y ∷ b) h k e = let size = ap length e ∙ length-encode_with lower_digits (y ∷ b) in absurd (omega arith)
hex_same (x ∷ a) [] h k e = let size = ap length (sym e) ∙ length-encode_with lower_digits (x ∷ a) in absurd (omega arith)
hex_same (x ∷ a) (y ∷ b) h k e =
    let both : Ok (x ∷ a) ≡ Ok (y ∷ b) = sym (decoded _ (x ∷ a) h refl) ∙ decoded _ (y ∷ b) k e in
    cc

pub hex_lacks : (bytes : List ℕ) → AreBytes bytes → Lacks 32 (hex_text bytes)
hex_lacks [] small = (λ e. omega arith, tt)
hex_lacks (b ∷ bytes) small = plain (encode_lower (b ∷ bytes)) (text_digits (b ∷ bytes) small)
  where
    plain : (text : List ℕ) → AllByRecursion IsDigit text → Lacks 32 text
    plain [] h = tt
    plain (c ∷ text) h = (λ e. false≢true (ap is_lower_hex_digit (sym e) ∙ h.0), plain text h.1)
