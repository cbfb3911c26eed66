-- Lemmas on bytes that stand for themselves, four by four.
use Rattle.std.proofs.Common.{◌≡◌, ℕ, ◌+◌, ◌≤◌, ◌==◌, ◌&&◌, Bool, true, false, List, cond, take, get_or, length, ap, ◌∙◌, refl, arith}
use Rattle.std.specs.List.{list_all}
use Rattle.std.proofs.lemmas.Bool.{and_parts, and_from}
use Rattle.std.proofs.lemmas.List.Folds.{list_all_more}
use Rattle.eden_wire.specs.Names.{is_plain}

pub is_one : (p : Bool) → (cond p 1 0 == 1) ≡ p
is_one true = refl
is_one false = refl

-- four flags are all set where their sum is four
pub all_four : (p q r s : Bool) → (cond p 1 0 + cond q 1 0 + cond r 1 0 + cond s 1 0 == 4) ≡ (p && q && r && s)
all_four p q r s = grind arith

one_more : (text : List ℕ) (i j : ℕ) → j ≡ i + 1 → j ≤ length text → list_all is_plain (take i text) ≡ true → is_plain (get_or text i 0) ≡ true
    → list_all is_plain (take j text) ≡ true
one_more text i j next within so one =
    ap (λ k. list_all is_plain (take k text)) next ∙ list_all_more is_plain text i 0 (omega (arith, next, within)) ∙ and_from _ _ so one

-- four bytes more stand for themselves
pub four_more : (text : List ℕ) (i : ℕ) → i + 4 ≤ length text → list_all is_plain (take i text) ≡ true
    → (is_plain (get_or text i 0) && is_plain (get_or text (i + 1) 0) && is_plain (get_or text (i + 2) 0) && is_plain (get_or text (i + 3) 0)) ≡ true
    → list_all is_plain (take (i + 4) text) ≡ true
four_more text i within so all =
    let a = is_plain (get_or text i 0) in
    let b = is_plain (get_or text (i + 1) 0) in
    let d = is_plain (get_or text (i + 2) 0) in
    let e = is_plain (get_or text (i + 3) 0) in
    let fourth = and_parts ((a && b) && d) e all in
    let third = and_parts (a && b) d fourth.0 in
    let second = and_parts a b third.0 in
    let one = one_more text i (i + 1) refl (omega (arith, within)) so second.0 in
    let two = one_more text (i + 1) (i + 2) (omega arith) (omega (arith, within)) one second.1 in
    let three = one_more text (i + 2) (i + 3) (omega arith) (omega (arith, within)) two third.1 in
    one_more text (i + 3) (i + 4) (omega arith) (omega (arith, within)) three fourth.1
