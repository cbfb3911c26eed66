-- Lemmas on the tests of an object.
use Rattle.std.proofs.Common.{◌≡◌, ◌≢◌, ◌↔◌, ℕ, ◌+◌, ◌^◌, ◌≤◌, Bool, true, false, not, List, length, drop, ◌-◌, Result, Ok, Err, sym, ap, ◌∙◌, subst, refl, arith, rules}
use denote.Enum.Bare.{sameb, same_true}
use Rattle.eden_object.specs.contracts.word.Word.{the_type}
use Rattle.eden_object.specs.declared.word.Word.TheVariants as word
use Rattle.std.specs.Result.{IsOk, IsErr}
use Rattle.std.specs.Bool.{Decides}
use Rattle.std.specs.Str.{bytes_eq}
use Rattle.std.proofs.lemmas.Slice.Eq.{bytes_eq-Decides}
use Rattle.sha1.specs.Sha1.{sha1}
use Rattle.eden_model.specs.declared.id.Id.{Id}
use Rattle.eden_model.specs.declared.id.ObjKind.{ObjKind}
use Rattle.eden_model.specs.declared.fault.Cause.{Cause}
use Rattle.eden_object.specs.declared.word.Word.{Word}
use Rattle.eden_object.specs.Frames.{frame, word_of}
use Rattle.eden_object.specs.Objects.{IsBody, IsBodyOf, IsFramed, IsObject, IsFirstCause, IsSound}
use Rattle.eden_object.specs.Objects.IsFirstCause.{too_many_bytes, other_digest, no_frame, too_long_body, other_word, no_body}
use Rattle.eden_object.proofs.FrameLemmas.{one_frame_law, frame_small, drop_frame}

pub object_small : (k : ObjKind) (framed : List ℕ) (o : IsFramed k framed) → length framed ≤ 2 ^ 30 + 16
object_small k framed o = let small = frame_small k o.body o.short in let size = ap length o.is in omega arith

-- the frame of an object
pub object_frame : (k : ObjKind) (framed : List ℕ) (o : IsFramed k framed) (w : Word) (body : List ℕ) → framed ≡ frame w body
    → (w ≡ word_of k) × (body ≡ o.body)
object_frame k framed o w body e = one_frame_law w (word_of k) body o.body (sym e ∙ o.is)

-- no object fails a test
pub no_cause : (id : Id) (k : ObjKind) (framed : List ℕ) (c : Cause) → IsFirstCause id k framed c → IsObject id k framed → ⊥
no_cause id k framed _ (too_many_bytes h) o = let small = object_small k framed o.object in omega arith
no_cause id k framed _ (other_digest h other) o = other o.digest
no_cause id k framed _ (no_frame h d none) o = none (word_of k) o.object.body o.object.is
no_cause id k framed _ (too_long_body h d w body e long) o =
    let size = ap length (object_frame k framed o.object w body e).1 in
    let short = o.object.short in
    omega arith
no_cause id k framed _ (other_word h d w body e short other) o = other (object_frame k framed o.object w body e).0
no_cause id k framed _ (no_body h d body e short none) o = none (subst (IsBody k) (sym (object_frame k framed o.object (word_of k) body e).1) o.object.grammar)

-- an answer that names a cause
pub refused : {T : Type 0} (id : Id) (k : ObjKind) (framed : List ℕ) (c : Cause) (r : Result T Cause) → IsErr r → IsFirstCause id k framed c
    → IsOk r ↔ IsObject id k framed
refused {T} id k framed c r err why = ((λ ok. absurd (neither r err ok)), (λ o. absurd (no_cause id k framed c why o)))
  where
    neither : (r : Result T Cause) → IsErr r → IsOk r → ⊥
    neither (Ok v) err ok = cc
    neither (Err e) err ok = cc

-- the bytes of a body
pub whole_frame : (id : Id) (k : ObjKind) (framed body : List ℕ) → IsBodyOf id k framed body → IsFramed k framed
whole_frame id k framed body h = record { body = body; is = h.is; short = h.short; grammar = h.grammar }

-- what is behind the header is the object's body
pub behind_header : (k : ObjKind) (items framed : List ℕ) (o : IsFramed k items) (n : ℕ) (w : Word) (body : List ℕ) → framed ≡ items
    → n ≡ length framed → framed ≡ frame w body → drop (n - length body) items ≡ o.body
behind_header k items framed o n w body same size e =
    let here = drop_frame items w body (sym same ∙ e) in
    let count : n ≡ length items = size ∙ ap length same in
    ap (λ m. drop (m - length body) items) count ∙ here ∙ (object_frame k items o w body (sym same ∙ e)).1

pub sound_behind : (k : ObjKind) (items bytes : List ℕ) (o : IsFramed k items) → bytes ≡ o.body → IsSound (record { kind = k; bytes = bytes })
sound_behind k items bytes o e = record { grammar = subst (IsBody k) (sym e) o.grammar; short = let size = ap length e in let short = o.short in omega arith }

-- an answer isn't both
pub both : (b : Bool) → b ≡ true → b ≡ false → ⊥
both b p q = cc

-- what the comparison of the digest with the id says
pub same_digest : (framed found id : List ℕ) (b : Bool) → b ≡ not (bytes_eq found id) → found ≡ sha1 framed
    → (b ≡ false → sha1 framed ≡ id) × (b ≡ true → sha1 framed ≢ id)
same_digest framed found id b e is = told (bytes_eq found id) (bytes_eq-Decides found id) e
  where
    told : (same : Bool) → Decides same (found ≡ id) → b ≡ not same → (b ≡ false → sha1 framed ≡ id) × (b ≡ true → sha1 framed ≢ id)
    told true d e = ((λ p. sym is ∙ d.0 refl), (λ p q. both b p e))
    told false d e = ((λ p. absurd (both b e p)), (λ p q. both true refl (sym (d.1 (is ∙ q)))))

-- what the comparison of two words says
pub same_word : (v w : Word) (b : Bool) → b ≡ not (sameb the_type v w) → (b ≡ false → v ≡ w) × (b ≡ true → v ≢ w)
same_word v w b e = (
  (λ p. same_true the_type (search rules) v w (positive (sameb the_type v w) (sym e ∙ p))),
  (λ p q. both (sameb the_type v w) (ap (λ u. sameb the_type u w) q ∙ itself w) (negative (sameb the_type v w) (sym e ∙ p))),
)
  where
    itself : (u : Word) → sameb the_type u u ≡ true
    itself word.Blob = refl
    itself word.Tree = refl
    itself word.Commit = refl
    itself word.Tag = refl

    positive : (a : Bool) → not a ≡ false → a ≡ true
    positive true h = refl
    positive false h = cc

    negative : (a : Bool) → not a ≡ true → a ≡ false
    negative true h = cc
    negative false h = refl

-- what is held of the bytes: the body, behind the header
pub held : (id : Id) (k : ObjKind) (framed items body : List ℕ) (n : ℕ) → IsBodyOf id k framed body → framed ≡ items → n ≡ length framed
    → IsSound (record { kind = k; bytes = drop (n - length body) items }) × (items ≡ frame (word_of k) (drop (n - length body) items))
held id k framed items body n h same size =
    let whole = whole_frame id k items body (subst (λ t. IsBodyOf id k t body) same h) in
    let behind = behind_header k items framed whole n (word_of k) body same size h.is in
    (sound_behind k items _ whole behind, whole.is ∙ ap (frame (word_of k)) (sym behind))
