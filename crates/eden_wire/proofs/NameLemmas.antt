-- Lemmas on the text of a name: it spells one name.
use Rattle.std.proofs.Common.{◌≡◌, ◌==◌, ◌≢◌, ℕ, ◌+◌, ◌/◌, ◌%◌, ◌<◌, List, [], ◌∷◌, ◌++◌, length, Bool, true, false, cond, Decides, sym, ap, ◌∙◌, subst, refl, append_assoc, append-nil, arith}
use Rattle.std.proofs.lemmas.Bool.{false≢true, and_parts, or_from, ne_eqb}
use Rattle.std.proofs.lemmas.Bool.Decides.{nat_tests, same_from_decides}
use Rattle.std.proofs.lemmas.Slice.Eq.{bytes_eq-Decides}
use Rattle.std.specs.Prelude.{nat_lt}
use Rattle.std.specs.List.{list_all, list_any}
use Rattle.std.specs.Str.{bytes_eq}
use Rattle.eden_wire.specs.Names.{is_plain, byte_text, name_text, upper_digit, AreBytes}

plain_not_percent : (b : ℕ) → is_plain b ≡ true → b ≢ 37
plain_not_percent b plain e = false≢true (subst (λ v. is_plain v ≡ true) e plain)

digit_at : (p q : Bool) (d e : ℕ) → p ≡ nat_lt d 10 → q ≡ nat_lt e 10 → d < 16 → e < 16 → cond p (48 + d) (55 + d) ≡ cond q (48 + e) (55 + e) → d ≡ e
digit_at true true d e p q small little same = omega arith
digit_at false false d e p q small little same = omega arith
digit_at true false d e p q small little same = grind (arith, nat_tests)
digit_at false true d e p q small little same = grind (arith, nat_tests)

digit_same : (d e : ℕ) → d < 16 → e < 16 → upper_digit d ≡ upper_digit e → d ≡ e
digit_same d e small little same = digit_at (nat_lt d 10) (nat_lt e 10) d e refl refl small little same

-- two digits are one byte's
byte_same : (b c : ℕ) → b < 256 → c < 256 → upper_digit (b / 16) ≡ upper_digit (c / 16) → upper_digit (b % 16) ≡ upper_digit (c % 16) → b ≡ c
byte_same b c small little high low =
    let h : b / 16 ≡ c / 16 = digit_same (b / 16) (c / 16) (omega arith) (omega arith) high in
    let l : b % 16 ≡ c % 16 = digit_same (b % 16) (c % 16) (omega arith) (omega arith) low in
    omega arith

heads_at : (p q : Bool) (b c d e f g : ℕ) (x y : List ℕ) → (p ≡ true → b ≢ 37) → (q ≡ true → c ≢ 37) → (d ≡ f → e ≡ g → b ≡ c)
    → cond p (b ∷ []) (37 ∷ d ∷ e ∷ []) ++ x ≡ cond q (c ∷ []) (37 ∷ f ∷ g ∷ []) ++ y → (b ≡ c) × (x ≡ y)
heads_at true true b c d e f g x y not_b not_c same h =
    let head : b ≡ c = cc in
    let rest : x ≡ y = cc in
    (head, rest)
heads_at true false b c d e f g x y not_b not_c same h = absurd (not_b refl cc)
heads_at false true b c d e f g x y not_b not_c same h = absurd (not_c refl (sym cc))
heads_at false false b c d e f g x y not_b not_c same h =
    let high : d ≡ f = cc in
    let low : e ≡ g = cc in
    let rest : x ≡ y = cc in
    (same high low, rest)

-- no byte's text begins another's
pub heads : (b c : ℕ) (x y : List ℕ) → b < 256 → c < 256 → byte_text b ++ x ≡ byte_text c ++ y → (b ≡ c) × (x ≡ y)
heads b c x y small little h = heads_at (is_plain b) (is_plain c) b c (upper_digit (b / 16)) (upper_digit (b % 16)) (upper_digit (c / 16)) (upper_digit (c % 16)) x y (plain_not_percent b)
    (plain_not_percent c) (byte_same b c small little) h

some_at : (p : Bool) (b d e : ℕ) (x : List ℕ) → cond p (b ∷ []) (37 ∷ d ∷ e ∷ []) ++ x ≡ [] → ⊥
some_at true b d e x h = cc
some_at false b d e x h = cc

-- what is left of a name's text after the text of some bytes is the text of the bytes after them
pub spelled_rest : (done name rest : List ℕ) → AreBytes done → AreBytes name → name_text done ++ rest ≡ name_text name → (more : List ℕ) × AreBytes more × (rest ≡ name_text more)
    × (name ≡ done ++ more)
spelled_rest [] name rest bytes small h = (name, small, h, refl)
spelled_rest (b ∷ done) [] rest bytes small h = absurd
    (some_at (is_plain b) b (upper_digit (b / 16)) (upper_digit (b % 16)) (name_text done ++ rest) (sym (append_assoc (byte_text b) (name_text done) rest) ∙ h))
spelled_rest (b ∷ done) (c ∷ name) rest bytes small h =
    let both = heads b c (name_text done ++ rest) (name_text name) bytes.0 small.0 (sym (append_assoc (byte_text b) (name_text done) rest) ∙ h) in
    let on = spelled_rest done name rest bytes.1 small.1 both.1 in
    (on.0, on.1, on.2, ap (λ v. v ∷ name) (sym both.0) ∙ ap (λ l. b ∷ l) on.3)

none_left : (more : List ℕ) → [] ≡ name_text more → more ≡ []
none_left [] h = refl
none_left (b ∷ more) h = absurd (some_at (is_plain b) b (upper_digit (b / 16)) (upper_digit (b % 16)) (name_text more) (sym h))

-- a text spells one name
pub name_same : (m n : List ℕ) → AreBytes m → AreBytes n → name_text m ≡ name_text n → m ≡ n
name_same m n small little h =
    let on = spelled_rest m n [] small little (append-nil (name_text m) ∙ h) in
    sym (on.3 ∙ ap (λ l. m ++ l) (none_left on.0 on.2) ∙ append-nil m)

-- a text that goes on with what begins no byte's text spells no name
pub spells_nothing : (done name rest : List ℕ) → AreBytes done → AreBytes name → name_text done ++ rest ≡ name_text name → 0 < length rest
    → ((b : ℕ) (more : List ℕ) → b < 256 → rest ≡ byte_text b ++ more → ⊥) → ⊥
spells_nothing done name rest bytes small h some none = nothing (spelled_rest done name rest bytes small h).0 (spelled_rest done name rest bytes small h).1
    (spelled_rest done name rest bytes small h).2
  where
    nothing : (more : List ℕ) → AreBytes more → rest ≡ name_text more → ⊥
    nothing [] bytes e = let size = ap length e in omega arith
    nothing (b ∷ more) bytes e = none b (name_text more) bytes.0 e

pub are_bytes-append : (xs ys : List ℕ) → AreBytes xs → AreBytes ys → AreBytes (xs ++ ys)
are_bytes-append [] ys h k = k
are_bytes-append (x ∷ xs) ys h k = (h.0, are_bytes-append xs ys h.1 k)

-- equal exactly where others are
same_test : (a b c d : List ℕ) → (a ≡ b → c ≡ d) → (c ≡ d → a ≡ b) → bytes_eq a b ≡ bytes_eq c d
same_test a b c d forth back =
    let here = bytes_eq-Decides c d in
    let there : Decides (bytes_eq c d) (a ≡ b) = (λ e. back (here.0 e), λ e. here.1 (forth e)) in
    same_from_decides (bytes_eq a b) (bytes_eq c d) (bytes_eq-Decides a b) there

-- a text is that of a name exactly where the name is that
pub text_test : (m n : List ℕ) → AreBytes m → AreBytes n → bytes_eq (name_text m) (name_text n) ≡ bytes_eq m n
text_test m n small little = same_test (name_text m) (name_text n) m n (name_same m n small little) (ap name_text)

-- ---- bytes that stand for themselves

pub plain_text : (bytes : List ℕ) → list_all is_plain bytes ≡ true → name_text bytes ≡ bytes
plain_text [] h = refl
plain_text (b ∷ bytes) h =
    let parts = and_parts (is_plain b) (list_all is_plain bytes) h in
    rw parts.0 (ap (λ l. b ∷ l) (plain_text bytes parts.1))

pub plain_are_bytes : (bytes : List ℕ) → list_all is_plain bytes ≡ true → AreBytes bytes
plain_are_bytes [] h = tt
plain_are_bytes (b ∷ bytes) h =
    let parts = and_parts (is_plain b) (list_all is_plain bytes) h in
    (is_byte b parts.0, plain_are_bytes bytes parts.1)
  where
    is_byte : (b : ℕ) → is_plain b ≡ true → b < 256
    is_byte b plain = grind (arith, nat_tests)

-- what isn't plain isn't among them
pub plain_lack : (mark : ℕ) → is_plain mark ≡ false → (bytes : List ℕ) → list_all is_plain bytes ≡ true → list_any (λ b. b == mark) bytes ≡ false
plain_lack mark odd [] h = refl
plain_lack mark odd (b ∷ bytes) h =
    let parts = and_parts (is_plain b) (list_all is_plain bytes) h in
    or_from (b == mark) (list_any (λ b. b == mark) bytes) (ne_eqb b mark (λ e. false≢true (sym odd ∙ ap is_plain (sym e) ∙ parts.0))) (plain_lack mark odd bytes parts.1)
