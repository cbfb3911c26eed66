-- The laws of what is found in a cache.
use Rattle.std.proofs.Common.{◌≡◌, ℕ, zero, suc, ◌<◌, ◌≤◌, inl, inr, List, ◌∷◌, length, take, Some, sym, ap, ◌∙◌, subst, arith}
use Rattle.std.specs.Map.{lookup, remove_entry}
use Rattle.std.proofs.lemmas.Bool.{cases_order}
use Rattle.std.proofs.lemmas.List.{length-take}
use Rattle.eden_model.specs.declared.id.Key.{Key}
use Rattle.eden_model.specs.contracts.id.KeyEq.TheImpl.Laws.{laws-law}
use Rattle.eden_object.specs.Objects.{Body}
use Rattle.eden_cache.specs.Bounded.{newest, KeepsBounds, IsLongestFront}
use Rattle.eden_model.specs.Keys.{same_key, same_id}
use Rattle.eden_cache.specs.Laws.{OneFront, FindsNoOther, FindsNoOtherSize, UseFindsTheSame, UseFindsTheSameSize}
use Rattle.eden_model.proofs.CallerLemmas.{same_key-Decides, same_id-Decides}
use Rattle.eden_cache.proofs.Found.{lookup-take, lookup-newest, lookup-promoted}

-- a front that keeps its bounds is no longer than the longest
no_longer : (entries bytes : ℕ) (all kept others : List (Key × Body)) → IsLongestFront entries bytes all kept → IsLongestFront entries bytes all others → length kept < length others → ⊥
no_longer entries bytes all kept others front other longer =
    let within : length others ≤ length all = omega (arith, ap length other.front, length-take (length others) all) in
    elim other.fits [
      | inl keeps ↦ front.longest (length others) longer within (subst (KeepsBounds entries bytes) other.front keeps)
      | inr alone ↦ omega (arith, front.some)
    ]

pub one_front : OneFront
one_front entries bytes all kept others front other = elim (cases_order (length kept) (length others)) [
  | inl same ↦ front.front ∙ ap (λ n. take n all) same ∙ sym other.front
  | inr (inl longer) ↦ absurd (no_longer entries bytes all kept others front other longer)
  | inr (inr longer) ↦ absurd (no_longer entries bytes all others kept other front longer)
]

found_first : (n : ℕ) (k : Key) (b : Body) (es : List (Key × Body)) → 0 < n → lookup (same_key k) (take n ((k, b) ∷ es)) ≡ Some b
found_first zero k b es h = absurd (omega arith)
found_first (suc n) k b es h = let itself = laws-law.refl k in rw itself

-- the object of a put is found under its key
pub finds_what_was_put : (entries bytes : ℕ) (k : Key) (b : Body) (es kept : List (Key × Body)) → IsLongestFront entries bytes (newest same_key k b es) kept → lookup (same_key k) kept ≡ Some b
finds_what_was_put entries bytes k b es kept front =
    subst (λ (l : List (Key × Body)). lookup (same_key k) l ≡ Some b) (sym front.front) (found_first (length kept) k b (remove_entry (same_key k) es) front.some)

pub finds_no_other : FindsNoOther
finds_no_other entries bytes k b es kept front j a found =
    let in_front = subst (λ (l : List (Key × Body)). lookup (same_key j) l ≡ Some a) front.front found in
    lookup-newest same_key (λ a b. (same_key-Decides a b).0) j k b es a (lookup-take (same_key j) (length kept) (newest same_key k b es) a in_front)

pub finds_no_other_size : FindsNoOtherSize
finds_no_other_size most id n es j m found = lookup-newest same_id (λ a b. (same_id-Decides a b).0) j id n es m (lookup-take (same_id j) most (newest same_id id n es) m found)

pub use_finds_the_same : UseFindsTheSame
use_finds_the_same k j es = lookup-promoted same_key (λ a b. (same_key-Decides a b).0) j k es

pub use_finds_the_same_size : UseFindsTheSameSize
use_finds_the_same_size k j es = lookup-promoted same_id (λ a b. (same_id-Decides a b).0) j k es
