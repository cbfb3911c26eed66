-- The digits of each of the 256 bytes, as they are computed.
use Rattle.std.proofs.Common.{◌≤◌, ◌++◌, take, set, sym, ap, List, [], ◌∷◌, length, get_or, ◌≡◌, ℕ, ◌+◌, ◌*◌, ◌/◌, ◌%◌, ◌<◌, ◌==◌, ◌&&◌, ◌∙◌, Bool, true, zero, suc, refl, arith}
use Rattle.std.specs.Prelude.{nat_lt, slice_index, bit_and, bit_or}
use Rattle.std.proofs.lemmas.Bool.Decides.{Decides-below_and, Decides-eqb, Decides-ltb}
use Rattle.std.proofs.lemmas.Nat.{and_mask}
use Rattle.std.proofs.lemmas.List.{take_more, take_more_set, take_all}
use Rattle.std.proofs.lemmas.List.Elements.{All-get_or, All-from_recursion}
use Rattle.hex.proofs.HexLemmas.{length-encode_with}
use Rattle.hex.specs.Hex.{lower_digits, encode_lower, encode_with}
use Rattle.eden_wire.specs.Digits.{digits_of}
use Rattle.eden_wire.specs.Names.{AreBytes}

abbrev values_of : ℕ → ℕ
values_of b = bit_or (b * 4096 % 65536) b / 16

abbrev computed : ℕ → ℕ
computed b = values_of b + 12336 + 39 * bit_and ((values_of b + 1542) / 16) 257

abbrev agree : ℕ → Bool
agree zero = true
agree (suc b) = (computed b == digits_of b) && agree b

pub computed_is : (b : ℕ) → b < 256 → computed b ≡ digits_of b
computed_is = (Decides-below_and (λ b. computed b == digits_of b) (λ b. computed b ≡ digits_of b) agree (λ b. Decides-eqb _ _) refl (λ _. refl) 256).0 refl

abbrev small_digits : ℕ → Bool
small_digits zero = true
small_digits (suc d) = nat_lt (slice_index lower_digits d) 256 && small_digits d

small_digit : (d : ℕ) → d < 16 → slice_index lower_digits d < 256
small_digit = (Decides-below_and (λ d. nat_lt (slice_index lower_digits d) 256) (λ d. slice_index lower_digits d < 256) small_digits (λ d. Decides-ltb _ _) refl (λ _. refl) 16).0 refl

-- the two bytes of both digits
pub halves : (p b : ℕ) → b < 256 → p ≡ digits_of b → (bit_and p 255 ≡ slice_index lower_digits (b / 16)) × (p / 256 ≡ slice_index lower_digits (b % 16))
halves p b small e =
    let high = small_digit (b / 16) (omega arith) in
    let low = small_digit (b % 16) (omega arith) in
    (and_mask p 8 ∙ omega (arith, e), omega (arith, e))

-- what the code computes of two digits
abbrev pub values_in : ℕ → ℕ
values_in p = bit_and p 3855 + 9 * bit_and (p / 64) 257

abbrev pub byte_in : ℕ → ℕ
byte_in p = bit_and (bit_or (values_in p * 16 % 65536) (values_in p / 256)) 255

abbrev back : ℕ → Bool
back zero = true
back (suc b) = (byte_in (digits_of b) == b) && back b

pub byte_back : (b : ℕ) → b < 256 → byte_in (digits_of b) ≡ b
byte_back = (Decides-below_and (λ b. byte_in (digits_of b) == b) (λ b. byte_in (digits_of b) ≡ b) back (λ b. Decides-eqb _ _) refl (λ _. refl) 256).0 refl

-- the digits of one byte in the text of bytes
pub digits_at : (bytes : List ℕ) (i : ℕ) → i < length bytes
    → (get_or (encode_lower bytes) (2 * i) 0 + 256 * get_or (encode_lower bytes) (2 * i + 1) 0) ≡ digits_of (get_or bytes i 0)
unfolding encode_with
digits_at [] i h = absurd (omega arith)
digits_at (b ∷ bytes) zero h = refl
digits_at (b ∷ bytes) (suc i) h =
    let low : 2 * suc i + 1 ≡ suc (suc (2 * i + 1)) = omega arith in
    let high : 2 * suc i ≡ suc (suc (2 * i)) = omega arith in
    rw (low, high) (digits_at bytes i (omega arith))

-- one byte more was read
pub read_more : (text read spelled : List ℕ) (i x : ℕ) → length text ≡ 2 * length read → i < length read → AreBytes spelled → text ≡ encode_lower spelled
    → ((b : ℕ) → b < 256 → get_or text (2 * i) 0 + 256 * get_or text (2 * i + 1) 0 ≡ digits_of b → x ≡ b)
    → take i read ≡ take i spelled → take (i + 1) (set read i x) ≡ take (i + 1) spelled
read_more text read spelled i x size inside small e is so_far =
    let long = ap length e ∙ length-encode_with lower_digits spelled in
    let within : i < length spelled = omega arith in
    let byte : x ≡ get_or spelled i 0 = is (get_or spelled i 0) (All-get_or (λ b. b < 256) spelled i 0 within (All-from_recursion (λ b. b < 256) spelled small))
    (ap (λ t. get_or t (2 * i) 0 + 256 * get_or t (2 * i + 1) 0) e ∙ digits_at spelled i within) in
    take_more_set read i x inside ∙ ap (λ l. l ++ x ∷ []) so_far ∙ ap (λ b. take i spelled ++ b ∷ []) byte ∙ sym (take_more spelled i 0 within)

pub read_all : (text read spelled : List ℕ) (i : ℕ) → length text ≡ 2 * length read → length read ≤ i → text ≡ encode_lower spelled → take i read ≡ take i spelled → read ≡ spelled
read_all text read spelled i size all e so_far =
    let long = ap length e ∙ length-encode_with lower_digits spelled in
    sym (take_all i read all) ∙ so_far ∙ take_all i spelled (omega arith)
