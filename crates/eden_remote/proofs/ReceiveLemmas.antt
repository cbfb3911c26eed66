-- Lemmas on what was heard.
use Rattle.std.proofs.Common.{◌≡◌, ◌≢◌, ℕ, ◌<◌, ◌≤◌, List, [], ◌∷◌, ◌++◌, length, Result, Ok, Err, inl, inr, decimal, sym, ◌∙◌, subst, refl, append_assoc, append-nil, arith}
use Rattle.std.proofs.KnownBytes.{Consumes-trans}
use Rattle.std.proofs.lemmas.Str.Parse.{digit_from_value}
use Rattle.std.specs.Io.KnownBytes.{Consumes}
use Rattle.std.specs.Str.Parse.{AllDigits}
use Rattle.std.specs.declared.alloc.Global.{Global}
use Rattle.std.specs.declared.vec.Vec.{Vec}
use Rattle.eden_remote.proofs.LineLemmas.{one_front}
use Rattle.eden_remote.specs.Protocol.{Known, IsOneLine, IsFirstLine, object_line}
use Rattle.eden_remote.specs.Receiving.{IsNoAnswer, Refused, Hears, Says, HearsSome, HearsByte, HearsLine, HearsPart, HearsBytes}
use Rattle.eden_remote.specs.declared.refusal.Refusal.{Refusal}
use Rattle.eden_remote.specs.declared.refusal.Refusal.TheVariants as refusal

digits_lack : (s : List ℕ) → AllDigits 10 s → IsOneLine s
digits_lack [] h = tt
digits_lack (c ∷ s) h =
    let range = digit_from_value c h.0 in
    let low = range.0 in
    (omega arith, digits_lack s h.1)

-- a first line holds no line feed
pub first_lacks : (line : List ℕ) → IsFirstLine line → IsOneLine line
first_lacks line (inl e) = subst IsOneLine (sym e) (omega arith, (omega arith, (omega arith, (omega arith, (omega arith, (omega arith, (omega arith, tt)))))))
first_lacks line (inr (inl e)) = subst IsOneLine (sym e) (omega arith, (omega arith, (omega arith, (omega arith, (omega arith, tt)))))
first_lacks line (inr (inr h)) = subst IsOneLine (sym h.2) (omega arith, (omega arith, (omega arith, (omega arith, (omega arith, (omega arith, (omega arith, digits_lack h.0 h.1.digits)))))))

-- a line feed behind bytes that lack it
cut_beyond : (bytes more xs tail : List ℕ) → IsOneLine bytes → length xs < length bytes → bytes ++ more ≢ xs ++ 10 ∷ tail
cut_beyond [] more xs tail p n h = omega arith
cut_beyond (b ∷ bytes) more [] tail p n h = p.0 cc
cut_beyond (b ∷ bytes) more (x ∷ xs) tail p n h = cut_beyond bytes more xs tail p.1 (omega arith) cc

-- what stands before the first line feed is one line
pub one_line : (xs ys us vs : List ℕ) → IsOneLine xs → IsOneLine us → xs ++ 10 ∷ ys ≡ us ++ 10 ∷ vs → xs ≡ us
one_line xs ys us vs p q h =
    let no_less : length us < length xs → ⊥ = λ lt. cut_beyond xs (10 ∷ ys) us vs p lt h in
    let no_more : length xs < length us → ⊥ = λ lt. cut_beyond us (10 ∷ vs) xs ys q lt (sym h) in
    one_front xs (10 ∷ ys) us (10 ∷ vs) (omega arith) h

-- a line that is no first line begins no answer
pub no_answer : (line : List ℕ) → IsOneLine line → (IsFirstLine line → ⊥) → IsNoAnswer (line ++ 10 ∷ [])
no_answer line one h other more tail first short e =
    let same = one_line line more other tail one (first_lacks other first) (sym (append_assoc line (10 ∷ []) more) ∙ e) in
    h (subst IsFirstLine (sym same) first)

-- neither do 32 bytes without a line feed
pub no_line : (bytes : List ℕ) → IsOneLine bytes → length bytes ≡ 32 → IsNoAnswer bytes
no_line bytes one full other more tail first short e = cut_beyond bytes more other tail one (omega arith) e

-- the first line was read
pub line_heard : (a b : Known) (line : List ℕ) (r : Result ℕ Refusal) → IsOneLine line → Consumes a b (line ++ 10 ∷ []) → Says line r → HearsLine a b r
line_heard a b line (Ok n) one read says = (subst (λ l. Consumes a b (l ++ 10 ∷ [])) says.0 read, says.1)
line_heard a b line (Err refusal.Missing) one read says = subst (λ l. Consumes a b (l ++ 10 ∷ [])) says read
line_heard a b line (Err refusal.Fault) one read says = subst (λ l. Consumes a b (l ++ 10 ∷ [])) says read
line_heard a b line (Err refusal.TooLarge) one read says = (says.0, says.1, subst (λ l. Consumes a b (l ++ 10 ∷ [])) says.2 read)
line_heard a b line (Err refusal.NoAnswer) one read says = (line ++ 10 ∷ [], no_answer line one says, read)
line_heard a b line (Err refusal.Memory) one read says = absurd says
line_heard a b line (Err refusal.Ended) one read says = absurd says
line_heard a b line (Err refusal.Failed) one read says = absurd says

-- no byte came behind a beginning of a first line
pub byte_refused : (a b c : Known) (line : List ℕ) (e : Refusal) → Consumes a b line → IsOneLine line → length line < 32 → HearsByte b c (Err e) → Refused a c e
byte_refused a b c line refusal.Ended read one short h = (line, inl (one, short), subst (Consumes a c) (append-nil line) (Consumes-trans a b c line [] read h.0), h.1)
byte_refused a b c line refusal.Failed read one short h = (line, inl (one, short), subst (Consumes a c) (append-nil line) (Consumes-trans a b c line [] read h))
byte_refused a b c line refusal.Missing read one short h = absurd h
byte_refused a b c line refusal.Fault read one short h = absurd h
byte_refused a b c line refusal.TooLarge read one short h = absurd h
byte_refused a b c line refusal.Memory read one short h = absurd h
byte_refused a b c line refusal.NoAnswer read one short h = absurd h

-- no piece came behind a part
pub piece_refused : (a b c : Known) (part piece : List ℕ) (n : ℕ) (e : Refusal) → Consumes a b part → length part < n → HearsSome b c piece (Err e) → HearsPart a c n e
piece_refused a b c part piece n refusal.Ended read some h = (part, some, subst (Consumes a c) (append-nil part) (Consumes-trans a b c part [] read h.0), h.1)
piece_refused a b c part piece n refusal.Failed read some h = (part, some, subst (Consumes a c) (append-nil part) (Consumes-trans a b c part [] read h))
piece_refused a b c part piece n refusal.Missing read some h = absurd h
piece_refused a b c part piece n refusal.Fault read some h = absurd h
piece_refused a b c part piece n refusal.TooLarge read some h = absurd h
piece_refused a b c part piece n refusal.Memory read some h = absurd h
piece_refused a b c part piece n refusal.NoAnswer read some h = absurd h

-- the bytes that the first line says were read, or a part of them
pub answer_heard : (a b c : Known) (n : ℕ) (r : Result (Vec ℕ Global) Refusal) → Consumes a b (object_line (decimal n)) → n ≤ 1073741840 → HearsBytes b c n r → Hears a c r
answer_heard a b c n (Ok v) line small h = (subst (λ k. Consumes a c (object_line (decimal k) ++ v.items)) (sym h.1) (Consumes-trans a b c _ _ line h.0), subst (λ k. k ≤ 1073741840) (sym h.1) small)
answer_heard a b c n (Err refusal.Memory) line small h = (n, h.0, small, h.1, Consumes-trans a b c _ _ line h.2)
answer_heard a b c n (Err refusal.Ended) line small h = (object_line (decimal n) ++ h.0, inr (n, h.0, refl, h.1, small), Consumes-trans a b c _ _ line h.2, h.3)
answer_heard a b c n (Err refusal.Failed) line small h = (object_line (decimal n) ++ h.0, inr (n, h.0, refl, h.1, small), Consumes-trans a b c _ _ line h.2)
answer_heard a b c n (Err refusal.Missing) line small h = absurd h
answer_heard a b c n (Err refusal.Fault) line small h = absurd h
answer_heard a b c n (Err refusal.TooLarge) line small h = absurd h
answer_heard a b c n (Err refusal.NoAnswer) line small h = absurd h
