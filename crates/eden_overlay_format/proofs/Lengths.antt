-- What the head of a file tells of its content's length.
use Rattle.std.proofs.Common.{◌≡◌, ◌≤◌, ◌<◌, ◌-◌, ◌⊎◌, ◌&&◌, ℕ, Bool, nat_le, true, false, leb, cond, List, length, take, drop, Option, Some, None, Ok, Err, inl, inr, refl, sym, ap, ◌∙◌, arith}
use Rattle.std.specs.Option.{is_none, option_or}
use Rattle.std.proofs.lemmas.Bool.{cases_lt, lt-ltb, leb-true, leb-false, le-leb, lt-leb}
use Rattle.std.proofs.lemmas.List.{length-drop, take-take, drop-take}
use Rattle.eden_overlay_format.specs.declared.header.Head.{Head}
use Rattle.eden_overlay_format.specs.declared.header.Identifier.{Identifier}
use Rattle.eden_overlay_format.specs.declared.header.Identifier.TheVariants as identifier
use Rattle.eden_overlay_format.specs.declared.refusal.Refusal.{Refusal}
use Rattle.eden_overlay_format.specs.declared.refusal.Refusal.TheVariants.{BadBody, BadDigest}
use Rattle.std.specs.Str.{bytes_eq}
use Rattle.eden_overlay_format.specs.Stored.{identifier_bytes, is_a, head_refusal, digest_refusal, header_refusal, body_in}
use Rattle.eden_overlay_format.specs.Numbers.{numbers_by, has_numbers}
use Rattle.eden_overlay_format.specs.Content.{content_most, IsHead, bounded, content_length}
use Rattle.eden_overlay_format.specs.Values.{content_in}
use Rattle.eden_overlay_format.specs.Laws.{HasBadDigest, LengthsTold, LengthsFound, LengthsRefused}
use Rattle.eden_overlay_format.proofs.Headers.{behind}
use Rattle.eden_overlay_format.proofs.Found.{contents_found, body_left, no_content, content_too_long}

-- ---- a head tells what the file does

-- of a file only the first 64 bytes are looked at
head_taken : (i : Identifier) (bytes : List ℕ) (len : ℕ) → head_refusal i (take 64 bytes) len ≡ head_refusal i bytes len
unfolding head_refusal
head_taken i bytes len =
    rw (take-take 4 64 bytes (omega arith), drop-take 4 60 bytes, take-take 4 60 (drop 4 bytes) (omega arith), drop-take 8 56 bytes, take-take 8 56 (drop 8 bytes) (omega arith)) refl

-- and of a short one its length
head_short : (i : Identifier) (first second : List ℕ) (len : ℕ) → len < 64 → head_refusal i first len ≡ head_refusal i second len
unfolding head_refusal
head_short i first second len short = rw (lt-ltb len 64 short) refl

module _ (head : Head) (bytes : List ℕ) (h : IsHead head bytes) where
  abbrev told : Option Refusal
  told = head_refusal identifier.File bytes (length bytes)

  same_head : head_refusal identifier.File head.first head.len ≡ told
  same_head = ap (head_refusal identifier.File head.first) h.len ∙ elim (cases_lt (length bytes) 64) [
    | inl short ↦ head_short identifier.File head.first bytes (length bytes) short
    | inr long ↦ ap (λ (f : List ℕ). head_refusal identifier.File f (length bytes)) (h.first long) ∙ head_taken identifier.File bytes (length bytes)
  ]

  same_length : content_length head.first head.len ≡ bounded told (length (drop 64 bytes))
  unfolding content_length
  same_length =
      ap (λ (o : Option Refusal). bounded o (head.len - 64)) same_head
      ∙ ap (bounded told) (ap (λ (n : ℕ). n - 64) h.len ∙ sym (length-drop 64 bytes))

-- ---- a head tells of numbers what the file does

-- the four bytes of a whole file
numbers_taken : (bytes : List ℕ) (len : ℕ) → numbers_by (take 64 bytes) len ≡ numbers_by bytes len
numbers_taken bytes len = ap (λ (four : List ℕ). nat_le 64 len && bytes_eq four (identifier_bytes identifier.Numbers)) (take-take 4 64 bytes (omega arith))

numbers_short : (first second : List ℕ) (len : ℕ) → len < 64 → numbers_by first len ≡ numbers_by second len
numbers_short first second len short =
    ap (λ (b : Bool). b && is_a identifier.Numbers first) (lt-leb 64 len short)
    ∙ sym (ap (λ (b : Bool). b && is_a identifier.Numbers second) (lt-leb 64 len short))

pub head_says : (head : Head) (bytes : List ℕ) → IsHead head bytes → numbers_by head.first head.len ≡ has_numbers bytes
head_says head bytes h = ap (numbers_by head.first) h.len ∙ elim (cases_lt (length bytes) 64) [
  | inl short ↦ numbers_short head.first bytes (length bytes) short
  | inr long ↦ ap (λ (f : List ℕ). numbers_by f (length bytes)) (h.first long) ∙ numbers_taken bytes (length bytes)
]

-- ---- what is told behind a good head, and behind a bad one

good_head : (o digest : Option Refusal) (text body : List ℕ) → cond (is_none (option_or o digest)) (Some text) None ≡ Some body → o ≡ None
good_head (Some e) digest text body is = absurd cc
good_head None digest text body is = refl

-- a body has a good head
headed : (bytes body : List ℕ) → body_in identifier.File bytes ≡ Some body → head_refusal identifier.File bytes (length bytes) ≡ None
unfolding body_in header_refusal
headed bytes body is = good_head (head_refusal identifier.File bytes (length bytes)) (digest_refusal bytes) (drop 64 bytes) body is

pub lengths_told : LengthsTold
lengths_told head bytes content h found =
    let file = (contents_found bytes content).0 found in
    same_length head bytes h
    ∙ ap (λ (o : Option Refusal). bounded o (length (drop 64 bytes))) (headed bytes content file.stored)
    ∙ ap (λ (b : List ℕ). bounded None (length b)) (behind identifier.File bytes content file.stored).1
    ∙ rw (le-leb (length content) content_most file.most) refl

in_bound : (b : Bool) (n len : ℕ) → cond b (Ok n) (Err BadBody) ≡ Ok len → (b ≡ true) × (len ≡ n)
in_bound true n len is = (refl, cc)
in_bound false n len is = absurd cc

bounded_ok : (o : Option Refusal) (n len : ℕ) → bounded o n ≡ Ok len → (o ≡ None) × ((n ≤ content_most) × (len ≡ n))
bounded_ok (Some e) n len is = absurd cc
bounded_ok None n len is = let b = in_bound (leb n content_most) n len is in (refl, (leb-true n content_most b.0, b.1))

out_of_bound : (b : Bool) (n : ℕ) (e : Refusal) → cond b (Ok n) (Err BadBody) ≡ Err e → (b ≡ false) × (e ≡ BadBody)
out_of_bound true n e is = absurd cc
out_of_bound false n e is = (refl, cc)

bounded_err : (o : Option Refusal) (n : ℕ) (e : Refusal) → bounded o n ≡ Err e → (o ≡ Some e) ⊎ ((o ≡ None) × ((content_most < n) × (e ≡ BadBody)))
bounded_err (Some f) n e is = inl cc
bounded_err None n e is = let b = out_of_bound (leb n content_most) n e is in inr (refl, (leb-false n content_most b.0, b.1))

-- ---- the digest

digest_alone : (known same : Bool) (e : Refusal) → cond known (cond same None (Some BadDigest)) None ≡ Some e → e ≡ BadDigest
digest_alone true true e is = absurd cc
digest_alone true false e is = cc
digest_alone false same e is = absurd cc

is_digest : (bytes : List ℕ) (e : Refusal) → digest_refusal bytes ≡ Some e → e ≡ BadDigest
unfolding digest_refusal
is_digest bytes e is = digest_alone _ _ e is

module _ (bytes : List ℕ) (good : head_refusal identifier.File bytes (length bytes) ≡ None) where
  -- behind a good head there is a body, or a wrong digest
  body_or_digest : (body_in identifier.File bytes ≡ Some (drop 64 bytes)) ⊎ HasBadDigest bytes
  unfolding body_in header_refusal
  body_or_digest = elim (digest_refusal bytes) as (λ d. digest_refusal bytes ≡ d → (body_in identifier.File bytes ≡ Some (drop 64 bytes)) ⊎ HasBadDigest bytes) [
    | None ↦ λ is. inl (rw (good, is) refl)
    | Some e ↦ λ is. inr (rw (good, is) (ap (λ (r : Refusal). Some r) (is_digest bytes e is)))
  ] refl

pub lengths_found : LengthsFound
lengths_found head bytes len h is =
    let b = bounded_ok _ (length (drop 64 bytes)) len (sym (same_length head bytes h) ∙ is) in (
      b.1.1,
      elim (body_or_digest bytes b.0) [
        | inl stored ↦ inl ((contents_found bytes (drop 64 bytes)).1 (record { stored = stored; most = b.1.0 }))
        | inr wrong ↦ inr wrong
      ],
    )

-- what a head says is wrong comes first
first_wrong : (bytes : List ℕ) (e : Refusal) → head_refusal identifier.File bytes (length bytes) ≡ Some e → header_refusal identifier.File bytes ≡ Some e
unfolding header_refusal
first_wrong bytes e is = rw is refl

pub lengths_refused : LengthsRefused
lengths_refused head bytes e h is = elim (bounded_err _ (length (drop 64 bytes)) e (sym (same_length head bytes h) ∙ is)) [
  | inl wrong ↦ inl (no_content bytes e (first_wrong bytes e wrong))
  | inr long ↦ elim (body_or_digest bytes long.0) [
    | inl stored ↦ inl (content_too_long bytes (drop 64 bytes) stored long.1.0, long.1.1 ∙ sym (body_left identifier.File bytes (drop 64 bytes) stored))
    | inr wrong ↦ inr (long.1.1, wrong)
  ]
]

-- where no length is told there is no content
pub lengths_none : (head : Head) (bytes : List ℕ) (e : Refusal) → IsHead head bytes → content_length head.first head.len ≡ Err e → content_in bytes ≡ None
lengths_none head bytes e h is = elim (lengths_refused head bytes e h is) [
  | inl refuses ↦ refuses.0
  | inr wrong ↦ (no_content bytes BadDigest wrong.1).0
]
