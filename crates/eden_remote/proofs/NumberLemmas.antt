-- Lemmas on the digits of a number.
use Rattle.std.proofs.Common.{◌≡◌, ℕ, zero, suc, ◌+◌, ◌-◌, ◌*◌, ◌^◌, ◌<◌, List, length, take, get_or, min, ap, ◌∙◌, arith}
use Rattle.std.specs.Fmt.{decimal}
use Rattle.std.specs.Int.{IsInRange}
use Rattle.std.specs.Str.Parse.{digits_value, AllDigits}
use Rattle.std.proofs.lemmas.Int.Digits.{digits_value_more, digits_more}
use Rattle.std.proofs.lemmas.Fmt.{decimal_nonempty, decimal_digit, digits_decimal, first_decimal, decimal-digits_value}
use Rattle.std.proofs.lemmas.Str.{digit_value_digit}
use Rattle.std.proofs.lemmas.Str.Parse.{IsNumeralModel, numerals_by_value, tells_digits}
use Rattle.eden_remote.specs.Protocol.{IsNumberText}

-- one digit more, of a number that counts up to a bound
pub capped_more : (text : List ℕ) (i n cap : ℕ) → i < length text → IsInRange 48 57 (get_or text i 0) → n ≡ min (digits_value 10 (take i text)) cap
    → min (n * 10 + (get_or text i 0 - 48)) cap ≡ min (digits_value 10 (take (i + 1) text)) cap
capped_more text i n cap h range e =
    let more = digits_value_more 10 text i h in
    let digit = digit_value_digit (get_or text i 0) range in
    let low = range.0 in
    omega arith

pub digits_on : (text : List ℕ) (i : ℕ) → i < length text → IsInRange 48 57 (get_or text i 0) → AllDigits 10 (take i text) → AllDigits 10 (take (i + 1) text)
digits_on text i h range digits =
    let digit = digit_value_digit (get_or text i 0) range in
    let low = range.0 in
    let high = range.1 in
    digits_more 10 text i h digits (omega arith)

own : IsNumeralModel (AllDigits 10) (digits_value 10)
own = numerals_by_value (AllDigits 10) tells_digits

-- the digits of a number that isn't over the bound are its text
pub number_text : (digits : List ℕ) (n cap : ℕ) → cap < 2 ^ 64 → IsNumberText digits → n ≡ min (digits_value 10 digits) cap → n < cap → decimal n ≡ digits
number_text digits n cap small number e below =
    let same : n ≡ digits_value 10 digits = omega arith in
    ap decimal same ∙ decimal-digits_value own digits number.digits number.some number.first (omega arith)

-- no zero leads but one alone
first_alone : (n : ℕ) → n < 2 ^ 64 → get_or (decimal n) 0 0 ≡ 48 → length (decimal n) ≡ 1
first_alone zero small h = ap length (decimal_digit 0 (omega arith))
first_alone (suc n) small h =
    let first = first_decimal (suc n) (omega arith) small in
    absurd (omega arith)

-- a number's text is its digits
pub text_number : (n : ℕ) → n < 2 ^ 64 → IsNumberText (decimal n)
text_number n small = record { some = decimal_nonempty n small; digits = digits_decimal own n small; first = first_alone n small }
