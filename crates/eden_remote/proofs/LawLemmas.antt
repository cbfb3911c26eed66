-- An answer is told from every other by its first line, and an object by its length.
use Rattle.std.proofs.Common.{◌≡◌, ℕ, ◌<◌, ◌^◌, List, [], ◌∷◌, ◌++◌, length, get_or, Ok, Err, ◌⊎◌, inl, inr, codes, decimal, sym, ap, ◌∙◌, refl, append_assoc, arith}
use Rattle.std.proofs.lemmas.Fmt.{decimal_injective}
use Rattle.std.proofs.lemmas.List.{append_cancel_left}
use Rattle.eden_model.specs.declared.fault.Cause.{Cause}
use Rattle.eden_model.specs.declared.fault.Cause.TheVariants as cause
use Rattle.eden_remote.specs.Protocol.{IsFirstLine, answer_text, object_text, object_line, missing_line, fault_line}
use Rattle.eden_remote.specs.Laws.{OneAnswer, OneObject}
use Rattle.eden_remote.proofs.LineLemmas.{one_front}
use Rattle.eden_remote.proofs.NumberLemmas.{text_number}
use Rattle.eden_remote.proofs.ReceiveLemmas.{first_lacks, one_line}

first_object : (framed : List ℕ) → length framed < 2 ^ 64 → IsFirstLine (codes "object " ++ decimal (length framed))
first_object framed small = inr (inr (decimal (length framed), text_number (length framed) small, refl))

object_parts : (framed x : List ℕ) → object_text framed ++ x ≡ (codes "object " ++ decimal (length framed)) ++ 10 ∷ (framed ++ x)
object_parts framed x = append_assoc (object_line (decimal (length framed))) framed x ∙ append_assoc (codes "object " ++ decimal (length framed)) (10 ∷ []) (framed ++ x)

-- two objects' answers
two_objects : (f g x y : List ℕ) → length f < 2 ^ 64 → length g < 2 ^ 64 → object_text f ++ x ≡ object_text g ++ y → (f ≡ g) × (x ≡ y)
two_objects f g x y small short e =
    let heads = one_line (codes "object " ++ decimal (length f)) (f ++ x) (codes "object " ++ decimal (length g)) (g ++ y)
    (first_lacks _ (first_object f small)) (first_lacks _ (first_object g short)) (sym (object_parts f x) ∙ e ∙ object_parts g y) in
    let digits = append_cancel_left (codes "object ") (decimal (length f)) (decimal (length g)) heads in
    let size = decimal_injective (length f) (length g) small short digits in
    let behind : f ++ x ≡ g ++ y = append_cancel_left (object_line (decimal (length g))) (f ++ x) (g ++ y)
    (ap (λ n. object_line (decimal n) ++ (f ++ x)) (sym size) ∙ sym (append_assoc (object_line (decimal (length f))) f x) ∙ e ∙ append_assoc (object_line (decimal (length g))) g y) in
    let same = one_front f x g y size behind in
    (same, append_cancel_left g x y (ap (λ l. l ++ x) (sym same) ∙ behind))

pub one_object_law : OneObject
one_object_law f g small short e = (two_objects f g [] [] small short (ap (λ l. l ++ []) e)).0

-- an answer without an object is one of two lines
two_lines : (e : Cause) → (answer_text (Err e) ≡ missing_line) ⊎ (answer_text (Err e) ≡ fault_line)
two_lines cause.Missing = inl refl
two_lines cause.Device = inr refl
two_lines cause.BadDigest = inr refl
two_lines cause.Malformed = inr refl
two_lines cause.WrongKind = inr refl
two_lines cause.TooLarge = inr refl
two_lines cause.Memory = inr refl

abbrev first : List ℕ → ℕ
first bytes = get_or bytes 0 0

-- an object's answer begins with another letter
no_line : (f s x y : List ℕ) → (s ≡ missing_line) ⊎ (s ≡ fault_line) → object_text f ++ x ≡ s ++ y → ⊥
no_line f s x y (inl p) h = omega (arith, ap first (h ∙ ap (λ l. l ++ y) p))
no_line f s x y (inr p) h = omega (arith, ap first (h ∙ ap (λ l. l ++ y) p))

one_of_lines : (s t x y : List ℕ) → (s ≡ missing_line) ⊎ (s ≡ fault_line) → (t ≡ missing_line) ⊎ (t ≡ fault_line) → s ++ x ≡ t ++ y → (s ≡ t) × (x ≡ y)
one_of_lines s t x y (inl p) (inl q) h = (p ∙ sym q, append_cancel_left missing_line x y (ap (λ l. l ++ x) (sym p) ∙ h ∙ ap (λ l. l ++ y) q))
one_of_lines s t x y (inl p) (inr q) h = absurd (omega (arith, ap first (ap (λ l. l ++ x) (sym p) ∙ h ∙ ap (λ l. l ++ y) q)))
one_of_lines s t x y (inr p) (inl q) h = absurd (omega (arith, ap first (ap (λ l. l ++ x) (sym p) ∙ h ∙ ap (λ l. l ++ y) q)))
one_of_lines s t x y (inr p) (inr q) h = (p ∙ sym q, append_cancel_left fault_line x y (ap (λ l. l ++ x) (sym p) ∙ h ∙ ap (λ l. l ++ y) q))

pub one_answer_law : OneAnswer
one_answer_law (Ok f) (Ok g) x y small short e =
    let same = two_objects f g x y small short e in
    (ap object_text same.0, same.1)
one_answer_law (Ok f) (Err d) x y small short e = absurd (no_line f (answer_text (Err d)) x y (two_lines d) e)
one_answer_law (Err c) (Ok g) x y small short e = absurd (no_line g (answer_text (Err c)) y x (two_lines c) (sym e))
one_answer_law (Err c) (Err d) x y small short e = one_of_lines (answer_text (Err c)) (answer_text (Err d)) x y (two_lines c) (two_lines d) e
