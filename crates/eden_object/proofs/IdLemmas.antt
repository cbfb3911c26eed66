-- Lower-case hexadecimal digits, and the bytes that they spell.
use Rattle.std.proofs.Common.{◌≡◌, ◌∙◌, ap, sym, refl, arith, ℕ, zero, suc, ◌+◌, ◌*◌, ◌/◌, ◌%◌, ◌<◌, ◌==◌, ◌&&◌, ◌||◌, Bool, true, not, List, [], ◌∷◌, length, slice_index, Option, Some, None}
use Rattle.std.proofs.Common.{unwrap_or, Result, Ok, Err, inl, inr}
use Rattle.std.specs.Prelude.{IsSome}
use Rattle.std.specs.List.{AllPass}
use Rattle.std.specs.Result.{result_ok}
use Rattle.std.proofs.lemmas.Bool.{and_parts, cases_lt, eqb-true}
use Rattle.std.proofs.lemmas.List.Elements.{All-head, All-tail}
use Rattle.hex.specs.Hex.{decode_pairs, decode_sized, encode_lower, encode_with, hex_digit_value, lower_digits, pair_value}
use Rattle.hex.specs.declared.error.FromHexError.{FromHexError}
use Rattle.hex.proofs.HexLemmas.{decode_of-even, decode_sized-ok, decode_sized-twice}
use Rattle.hex.proofs.Pairs.{cons_byte, decode_pairs-ok_pair}
use Rattle.eden_model.specs.Bytes.{is_lower_hex_digit}
use Rattle.eden_object.specs.IdText.{IsIdText}

abbrev IsLowerDigit : ℕ → Type 0
IsLowerDigit c = is_lower_hex_digit c ≡ true

-- the table of digits has the digit c at the place of its value, which a test computes
abbrev is_in_place : ℕ → Bool
is_in_place c = not (is_lower_hex_digit c) || (slice_index lower_digits (unwrap_or (hex_digit_value c) 99) == c)

abbrev all_in_place : ℕ → Bool
all_in_place zero = true
all_in_place (suc n) = is_in_place n && all_in_place n

all_in_place-at : (n c : ℕ) → all_in_place n ≡ true → c < n → is_in_place c ≡ true
all_in_place-at zero c h lt = absurd (omega arith)
all_in_place-at (suc n) c h lt =
    let parts = and_parts (is_in_place n) (all_in_place n) h in
    elim (cases_lt c n) [
      | inl below ↦ all_in_place-at n c parts.1 below
      | inr top ↦
          let e : c ≡ n = omega arith in
          rw e parts.0
    ]

below_103 : (c : ℕ) → IsLowerDigit c → c < 103
below_103 c h = grind (arith)

digit_value : (c : ℕ) → IsLowerDigit c → (v : ℕ) × (hex_digit_value c ≡ Some v) × (v < 16)
digit_value c h = (unwrap_or (hex_digit_value c) 99, grind (arith), grind (arith))

place_of : (c : ℕ) → IsLowerDigit c → slice_index lower_digits (unwrap_or (hex_digit_value c) 99) ≡ c
place_of c h =
    let test : is_in_place c ≡ true = all_in_place-at 103 c refl (below_103 c h) in
    eqb-true _ c (rw h at test)

-- a digit's value, at whose place the table has the digit
lower_value : (c : ℕ) → IsLowerDigit c → (v : ℕ) × (hex_digit_value c ≡ Some v) × (v < 16) × (slice_index lower_digits v ≡ c)
lower_value c h =
    let found = digit_value c h in
    (found.0, found.1, found.2, rw found.1 at (place_of c h))

-- pairs of lower-case digits decode to bytes whose text they are
pairs_decode : (i : ℕ) (s : List ℕ) → length s % 2 ≡ 0 → AllPass is_lower_hex_digit s
    → (bytes : List ℕ) × (decode_pairs i s ≡ Ok bytes) × (encode_lower bytes ≡ s)
unfolding decode_pairs encode_with
pairs_decode i [] even h = ([], refl, refl)
pairs_decode i (a ∷ []) even h = absurd (omega arith)
pairs_decode i (a ∷ b ∷ rest) even h =
    let tail = All-tail IsLowerDigit a (b ∷ rest) h in
    let high = lower_value a (All-head IsLowerDigit a (b ∷ rest) h) in
    let low = lower_value b (All-head IsLowerDigit b rest tail) in
    let ih = pairs_decode (i + 2) rest (omega arith) (All-tail IsLowerDigit b rest tail) in
    let byte : ℕ = high.0 * 16 + low.0 in
    let pair : pair_value a b i ≡ Ok (high.0 * 16 + low.0) = rw (high.1, low.1) refl in
    let quotient : (high.0 * 16 + low.0) / 16 ≡ high.0 = omega (arith, high.2, low.2) in
    let remainder : (high.0 * 16 + low.0) % 16 ≡ low.0 = omega (arith, high.2, low.2) in (
      (high.0 * 16 + low.0) ∷ ih.0,
      decode_pairs-ok_pair i a b _ rest pair ∙ ap (cons_byte (high.0 * 16 + low.0)) ih.1,
      rw (quotient, remainder, high.3, low.3, ih.2) refl,
    )

-- an id's text decodes to 20 bytes whose text it is
pub id_text_decodes : (s : List ℕ) → IsIdText s → (bytes : List ℕ) × (decode_sized s 20 ≡ Ok bytes) × (encode_lower bytes ≡ s)
id_text_decodes s h =
    let len = h.0 in
    let pairs = pairs_decode 0 s (omega (arith, len)) h.1 in
    (pairs.0, decode_sized-twice s 20 (omega (arith, len)) ∙ decode_of-even s (omega (arith, len)) ∙ pairs.1, pairs.2)

-- what decodes is `Ok`
ok_of : (r : Result (List ℕ) FromHexError) (bytes : List ℕ) → result_ok r ≡ Some bytes → r ≡ Ok bytes
ok_of (Ok x) bytes h = cc
ok_of (Err e) bytes h = cc

-- lower-case digits are the text of the bytes that they decode to
pub encode_lower-decoded : (s bytes : List ℕ) → AllPass is_lower_hex_digit s → result_ok (decode_sized s 20) ≡ Some bytes → encode_lower bytes ≡ s
encode_lower-decoded s bytes digits h =
    let ok = ok_of (decode_sized s 20) bytes h in
    let spelled = id_text_decodes s (decode_sized-ok s 20 bytes ok, digits) in
    let same : bytes ≡ spelled.0 = ap (λ (r : Result (List ℕ) FromHexError). unwrap_or (result_ok r) []) (sym ok ∙ spelled.1) in
    rw same spelled.2

pub none_is_not_some : {X : Type 0} (o : Option X) → o ≡ None → IsSome o → ⊥
none_is_not_some (Some x) e h = cc e
none_is_not_some None e h = cc h
