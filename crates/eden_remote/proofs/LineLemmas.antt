-- Lemmas on lines that ask.
use Rattle.std.proofs.Common.{◌≡◌, ◌≢◌, ℕ, ◌<◌, ◌≤◌, true, List, [], ◌∷◌, ◌++◌, length, take, drop, sym, ap, ◌∙◌, subst, append_assoc, length-append, arith}
use Rattle.std.proofs.Math.Seq.{take-append_seam}
use Rattle.std.proofs.lemmas.Bool.{false≢true}
use Rattle.std.proofs.lemmas.List.Elements.{All-head, All-tail}
use Rattle.std.proofs.lemmas.Str.{IsUtf8-from_ascii}
use Rattle.std.proofs.lemmas.Str.Ascii.{IsAscii-nil, IsAscii-cons}
use Rattle.std.specs.List.{AllPass}
use Rattle.std.specs.Str.{IsAscii, IsUtf8}
use Rattle.eden_model.specs.Bytes.{is_lower_hex_digit}
use Rattle.eden_object.specs.IdText.{IsIdText}
use Rattle.eden_remote.specs.Protocol.{IsOneLine, get_line}

abbrev IsLowerDigit : ℕ → Type 0
IsLowerDigit c = is_lower_hex_digit c ≡ true

digit_small : (c : ℕ) → IsLowerDigit c → c < 103
digit_small c h = grind (arith)

digit_not_10 : (c : ℕ) → IsLowerDigit c → c ≢ 10
digit_not_10 c h e = false≢true (subst IsLowerDigit e h)

-- an id's digits hold no line feed
pub lacks_digits : (s : List ℕ) → AllPass is_lower_hex_digit s → IsOneLine s
lacks_digits [] h = tt
lacks_digits (c ∷ s) h = (digit_not_10 c (All-head IsLowerDigit c s h), lacks_digits s (All-tail IsLowerDigit c s h))

ascii_digits : (s : List ℕ) → AllPass is_lower_hex_digit s → IsAscii s
ascii_digits [] h = IsAscii-nil
ascii_digits (c ∷ s) h =
    let small = digit_small c (All-head IsLowerDigit c s h) in
    IsAscii-cons c s (omega arith) (ascii_digits s (All-tail IsLowerDigit c s h))

-- they are text
pub text_digits : (s : List ℕ) → IsIdText s → IsUtf8 s
text_digits s h = IsUtf8-from_ascii s (ascii_digits s h.1)

-- where the digits lie in the line
pub line_digits : (line digits : List ℕ) → IsIdText digits → line ≡ get_line digits → take 40 (drop 4 line) ≡ digits
line_digits line digits h e = ap (λ l. take 40 (drop 4 l)) e ∙ subst (λ n. take n (digits ++ 10 ∷ []) ≡ digits) h.0 (take-append_seam digits (10 ∷ []))

-- a beginning of bytes without a line feed has none
front_lacks : (bytes more xs tail : List ℕ) → IsOneLine xs → length bytes ≤ length xs → bytes ++ more ≡ xs ++ tail → IsOneLine bytes
front_lacks [] more xs tail p n h = tt
front_lacks (b ∷ bytes) more [] tail p n h = absurd (omega arith)
front_lacks (b ∷ bytes) more (x ∷ xs) tail p n h = (λ e. p.0 cc, front_lacks bytes more xs tail p.1 (omega arith) cc)

-- two lists of one length before two others
pub one_front : (xs ys us vs : List ℕ) → length xs ≡ length us → xs ++ ys ≡ us ++ vs → xs ≡ us
one_front xs ys us vs n h = sym (take-append_seam xs ys) ∙ ap (take (length xs)) h ∙ ap (λ k. take k (us ++ vs)) n ∙ take-append_seam us vs

-- a short part of a line that asks has no line feed
pub part_lacks : (bytes digits more tail : List ℕ) → IsIdText digits → length bytes < 45 → bytes ++ more ≡ get_line digits ++ tail → IsOneLine bytes
part_lacks bytes digits more tail h short e =
    let word : List ℕ = 103 ∷ 101 ∷ 116 ∷ 32 ∷ digits in
    let size = h.0 in
    front_lacks bytes more word (10 ∷ tail) (omega arith, (omega arith, (omega arith, (omega arith, lacks_digits digits h.1)))) (omega arith) (e ∙ append_assoc word (10 ∷ []) tail)

-- as many bytes as such a line has are the line
pub whole_line : (bytes digits more tail : List ℕ) → IsIdText digits → length bytes ≡ 45 → bytes ++ more ≡ get_line digits ++ tail → bytes ≡ get_line digits
whole_line bytes digits more tail h whole e =
    let size = h.0 in
    let line : length (get_line digits) ≡ 45 = simp length-append (omega arith) in
    one_front bytes more (get_line digits) tail (whole ∙ sym line) e
