-- A file is one of numbers where it isn't refused for its length or its identifier.
use Rattle.std.proofs.Common.{◌≡◌, ◌≢◌, ◌⊎◌, ◌&&◌, ◌≤◌, ◌<◌, ℕ, Bool, true, false, cond, List, length, Some, None, inl, inr, refl, ap, ◌∙◌}
use Rattle.std.specs.Option.{option_or, unwrap_or}
use Rattle.std.proofs.lemmas.Bool.{cases_lt, lt-ltb, le-ltb, lt-leb, le-leb}
use Rattle.eden_overlay_format.specs.declared.header.Identifier.TheVariants as identifier
use Rattle.eden_overlay_format.specs.declared.refusal.Refusal.{Refusal}
use Rattle.eden_overlay_format.specs.declared.refusal.Refusal.TheVariants.{Short, BadIdentifier, BadVersion, BadLength, BadDigest, BadBody}
use Rattle.eden_overlay_format.specs.Stored.{is_a, head_refusal, digest_refusal, header_refusal, first_refusal}
use Rattle.eden_overlay_format.specs.Numbers.{has_numbers}

-- it is refused for neither
abbrev IsLater : Refusal → Type 0
IsLater e = (e ≢ Short) × (e ≢ BadIdentifier)

-- what is behind the identifier is refused otherwise
later : (second long first digest : Bool) → IsLater (unwrap_or
    (option_or (cond second (cond long None (Some BadLength)) (cond first None (Some BadVersion))) (cond second (cond digest None (Some BadDigest)) None)) BadBody)
later true true first true = (λ is. cc, λ is. cc)
later true true first false = (λ is. cc, λ is. cc)
later true false first digest = (λ is. cc, λ is. cc)
later false long true digest = (λ is. cc, λ is. cc)
later false long false digest = (λ is. cc, λ is. cc)

-- by what its first four bytes are
module _ (bytes : List ℕ) (long : 64 ≤ length bytes) where
  behind : (a : Bool) → is_a identifier.Numbers bytes ≡ a
      → ((a ≡ true) × IsLater (first_refusal identifier.Numbers bytes)) ⊎ ((a ≡ false) × (first_refusal identifier.Numbers bytes ≡ BadIdentifier))
  unfolding header_refusal head_refusal digest_refusal
  behind true is = inl (refl, rw (le-ltb (length bytes) 64 long, is) (later _ _ _ _))
  behind false is = inr (refl, rw (le-ltb (length bytes) 64 long, is) refl)

  known : has_numbers bytes ≡ is_a identifier.Numbers bytes
  known = ap (λ (b : Bool). b && is_a identifier.Numbers bytes) (le-leb 64 (length bytes) long)

too_short : (bytes : List ℕ) → length bytes < 64 → (has_numbers bytes ≡ false) × (first_refusal identifier.Numbers bytes ≡ Short)
unfolding header_refusal head_refusal
too_short bytes short = (
  ap (λ (b : Bool). b && is_a identifier.Numbers bytes) (lt-leb 64 (length bytes) short),
  rw (lt-ltb (length bytes) 64 short) refl,
)

-- what the first refusal tells of a file: whether it is one of numbers
pub record Tells (bytes : List ℕ) (e : Refusal) : Type 0 where
  pub without : (e ≡ Short) ⊎ (e ≡ BadIdentifier) → has_numbers bytes ≡ false
  pub with : e ≢ Short → e ≢ BadIdentifier → has_numbers bytes ≡ true

pub first_tells : (bytes : List ℕ) → Tells bytes (first_refusal identifier.Numbers bytes)
first_tells bytes = elim (cases_lt (length bytes) 64) [
  | inl short ↦ (let is = too_short bytes short in record { without = λ _. is.0; with = λ other _. absurd (other is.1) })
  | inr long ↦ elim (behind bytes long (is_a identifier.Numbers bytes) refl) [
    | inl is ↦ record {
      without = λ early. elim early [ inl a ↦ absurd (is.1.0 a) | inr b ↦ absurd (is.1.1 b) ];
      with = λ _ _. known bytes long ∙ is.0;
    }
    | inr is ↦ record {
      without = λ _. known bytes long ∙ is.0;
      with = λ _ other. absurd (other is.1);
    }
  ]
]
