-- Headers: what was written is found, and one identifier alone.
use Rattle.std.proofs.Common.{◌≡◌, ◌≤◌, ◌+◌, ◌-◌, ℕ, Bool, true, false, nat_lt, cond, List, ◌++◌, length, take, drop, replicate, get_or, Option, Some, None, refl, sym, ap, ◌∙◌, arith}
use Rattle.std.specs.Option.{is_none, option_or}
use Rattle.std.specs.Str.{bytes_eq}
use Rattle.std.proofs.lemmas.Bool.{le-ltb, ltb-false}
use Rattle.std.proofs.lemmas.Option.{cond_some}
use Rattle.std.proofs.lemmas.Slice.Eq.{bytes_eq-Decides}
use Rattle.std.proofs.lemmas.List.{length-append, length-drop, append_assoc, take_at, drop_at}
use Rattle.sha1.specs.Sha1.{sha1, digest_bytes}
use Rattle.eden_overlay_format.specs.declared.header.Identifier.{Identifier}
use Rattle.eden_overlay_format.specs.declared.header.Identifier.TheVariants as identifier
use Rattle.eden_overlay_format.specs.declared.refusal.Refusal.{Refusal}
use Rattle.eden_overlay_format.specs.declared.refusal.Refusal.TheVariants.{Short, BadIdentifier}
use Rattle.eden_overlay_format.specs.Stored.{identifier_bytes, version_bytes, length_bytes, version_refusal, head_refusal, digest_refusal, header, header_refusal, body_in, stored_as}
use Rattle.eden_overlay_format.specs.Laws.{WrittenFound, OneIdentifier}

pub digest_length : (m : List ℕ) → length (sha1 m) ≡ 20
unfolding sha1 digest_bytes
digest_length m = refl

same_bytes : (xs ys : List ℕ) → xs ≡ ys → bytes_eq xs ys ≡ true
same_bytes xs ys e = (bytes_eq-Decides xs ys).1 e

-- ---- what is written is found

-- a header with nothing wrong
well_headed : (i : Identifier) (bytes : List ℕ) → 64 ≤ length bytes → take 4 bytes ≡ identifier_bytes i → take 4 (drop 4 bytes) ≡ version_bytes 2
    → take 8 (drop 8 bytes) ≡ length_bytes (length bytes - 64) → take 20 (drop 16 bytes) ≡ sha1 (drop 64 bytes) → body_in i bytes ≡ Some (drop 64 bytes)
unfolding body_in header_refusal head_refusal digest_refusal
well_headed i bytes long named known told digest =
    rw (
      le-ltb (length bytes) 64 long,
      same_bytes (take 4 bytes) (identifier_bytes i) named,
      same_bytes (take 4 (drop 4 bytes)) (version_bytes 2) known,
      same_bytes (take 8 (drop 8 bytes)) (length_bytes (length bytes - 64)) told,
      same_bytes (take 20 (drop 16 bytes)) (sha1 (drop 64 bytes)) digest,
    ) refl

-- the digest, the zeros and the body, behind the first 16 bytes
module _ (body : List ℕ) where
  abbrev digest_zeros : List ℕ
  digest_zeros = sha1 body ++ replicate 28 0

  zeros_length : length digest_zeros ≡ 48
  zeros_length = length-append (sha1 body) (replicate 28 0) ∙ ap (λ (n : ℕ). n + 28) (digest_length body)

  found_digest : take 20 (digest_zeros ++ body) ≡ sha1 body
  found_digest = ap (take 20) (append_assoc (sha1 body) (replicate 28 0) body) ∙ take_at (sha1 body) (replicate 28 0 ++ body) 20 (digest_length body)

  found_body : drop 48 (digest_zeros ++ body) ≡ body
  found_body = drop_at digest_zeros body 48 zeros_length

  found_length : 48 ≤ length (digest_zeros ++ body)
  found_length = omega (arith, length-append digest_zeros body, zeros_length)

pub written_found : WrittenFound
unfolding header
written_found identifier.File body =
    let file = header identifier.File body ++ body in
    let behind : drop 64 file ≡ body = found_body body in
    let told : length file - 64 ≡ length body = sym (length-drop 64 file) ∙ ap length behind in
    well_headed identifier.File file (omega (arith, found_length body)) refl refl (ap length_bytes (sym told)) (found_digest body ∙ ap sha1 (sym behind))
    ∙ ap (λ (b : List ℕ). Some b) behind
written_found identifier.Directory body =
    let file = header identifier.Directory body ++ body in
    let behind : drop 64 file ≡ body = found_body body in
    let told : length file - 64 ≡ length body = sym (length-drop 64 file) ∙ ap length behind in
    well_headed identifier.Directory file (omega (arith, found_length body)) refl refl (ap length_bytes (sym told)) (found_digest body ∙ ap sha1 (sym behind))
    ∙ ap (λ (b : List ℕ). Some b) behind
written_found identifier.Numbers body =
    let file = header identifier.Numbers body ++ body in
    let behind : drop 64 file ≡ body = found_body body in
    let told : length file - 64 ≡ length body = sym (length-drop 64 file) ∙ ap length behind in
    well_headed identifier.Numbers file (omega (arith, found_length body)) refl refl (ap length_bytes (sym told)) (found_digest body ∙ ap sha1 (sym behind))
    ∙ ap (λ (b : List ℕ). Some b) behind

-- a file whose header is written behind its body
pub sealed : (i : Identifier) (items body new : List ℕ) → items ≡ replicate 64 0 ++ body → new ≡ stored_as i (drop 64 items) → new ≡ stored_as i body
sealed i items body new e h = h ∙ ap (λ (all : List ℕ). stored_as i (drop 64 all)) e ∙ ap (stored_as i) (drop_at (replicate 64 0) body 64 refl)

-- ---- what is found

-- a file that has a body passed the test of its identifier
passed : (short named : Bool) (rest digest : Option Refusal) (text body : List ℕ)
    → cond (is_none (option_or (cond short (Some Short) (cond named rest (Some BadIdentifier))) digest)) (Some text) None ≡ Some body → (short ≡ false) × (named ≡ true)
passed true named rest digest text body e = absurd cc
passed false true rest digest text body e = (refl, refl)
passed false false rest digest text body e = absurd cc

module _ (i : Identifier) (bytes body : List ℕ) (found : body_in i bytes ≡ Some body) where
  abbrev tested : (nat_lt (length bytes) 64 ≡ false) × (bytes_eq (take 4 bytes) (identifier_bytes i) ≡ true)
  unfolding body_in header_refusal head_refusal
  tested =
      passed (nat_lt (length bytes) 64) (bytes_eq (take 4 bytes) (identifier_bytes i)) (version_refusal bytes (length bytes)) (digest_refusal bytes) (drop 64 bytes) body found

  pub identified : take 4 bytes ≡ identifier_bytes i
  identified = (bytes_eq-Decides (take 4 bytes) (identifier_bytes i)).0 tested.1

  -- and is long enough
  pub behind : (64 ≤ length bytes) × (drop 64 bytes ≡ body)
  unfolding body_in
  behind = (ltb-false (length bytes) 64 tested.0, (cond_some (is_none (header_refusal i bytes)) (drop 64 bytes) body found).1)

-- the last of the four bytes tells them apart
abbrev last_byte : Identifier → ℕ
last_byte i = get_or (identifier_bytes i) 3 0

told_apart : (i j : Identifier) → last_byte i ≡ last_byte j → i ≡ j
told_apart identifier.File identifier.File e = refl
told_apart identifier.File identifier.Directory e = absurd (omega (arith, e))
told_apart identifier.File identifier.Numbers e = absurd (omega (arith, e))
told_apart identifier.Directory identifier.File e = absurd (omega (arith, e))
told_apart identifier.Directory identifier.Directory e = refl
told_apart identifier.Directory identifier.Numbers e = absurd (omega (arith, e))
told_apart identifier.Numbers identifier.File e = absurd (omega (arith, e))
told_apart identifier.Numbers identifier.Directory e = absurd (omega (arith, e))
told_apart identifier.Numbers identifier.Numbers e = refl

pub one_identifier : OneIdentifier
one_identifier i j bytes body other h k =
    told_apart i j (ap (λ (four : List ℕ). get_or four 3 0) (sym (identified i bytes body h) ∙ identified j bytes other k))
