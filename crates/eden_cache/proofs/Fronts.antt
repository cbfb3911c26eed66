-- The longest front within bounds, as objects leave one by one.
use Rattle.std.proofs.Common.{◌≡◌, ℕ, zero, suc, ◌+◌, ◌-◌, ◌<◌, ◌≤◌, ◌⊎◌, inl, inr, List, [], ◌∷◌, length, take, slice_get, refl, sym, ap, ◌∙◌, subst, min, arith}
use Rattle.std.proofs.Math.Seq.{take-length}
use Rattle.std.proofs.lemmas.List.{length-take, length-take-le}
use Rattle.eden_model.specs.declared.id.Key.{Key}
use Rattle.eden_object.specs.Objects.{Body}
use Rattle.eden_cache.specs.Bounded.{weight_of, weight_gone, KeepsBounds, IsLongestFront}
use Rattle.eden_cache.proofs.Weights.{weight_of-take, weight_of-cons}

-- what is left of all, while objects leave: a front, not empty, of that weight, and each longer front is too heavy
pub record IsLeft (all : List (Key × Body)) (bytes weight : ℕ) (left : List (Key × Body)) : Type 0 where
  pub front : left ≡ take (length left) all
  pub some : 0 < length left
  pub sum : weight ≡ weight_of left
  pub heavy : (n : ℕ) → length left < n → n ≤ length all → bytes < weight_of (take n all)

take-take : (m n : ℕ) (es : List (Key × Body)) → m ≤ n → take m (take n es) ≡ take m es
take-take zero n es h = refl
take-take (suc m) zero es h = absurd (omega arith)
take-take (suc m) (suc n) [] h = refl
take-take (suc m) (suc n) (e ∷ es) h = ap (λ l. e ∷ l) (take-take m n es (omega arith))

pub IsLeft-all : (all : List (Key × Body)) (bytes weight : ℕ) → 0 < length all → weight ≡ weight_of all → IsLeft all bytes weight all
IsLeft-all all bytes weight some sum = record { front = sym (take-length all); some = some; sum = sum; heavy = λ n more within. absurd (omega arith) }

at_or_above : (k n : ℕ) → n ≤ k → (k ≡ n) ⊎ (n < k)
at_or_above zero zero h = inl refl
at_or_above zero (suc n) h = absurd (omega arith)
at_or_above (suc k) zero h = inr (omega arith)
at_or_above (suc k) (suc n) h = elim (at_or_above k n (omega arith)) [ inl e ↦ inl (ap suc e) | inr l ↦ inr (omega arith) ]

-- the last one leaves, where there are more and they are too heavy
pub IsLeft-fewer : (all : List (Key × Body)) (bytes weight : ℕ) (left : List (Key × Body)) → IsLeft all bytes weight left
    → bytes < weight → 1 < length left → IsLeft all bytes (weight - weight_gone (slice_get left (length left - 1))) (take (length left - 1) left)
IsLeft-fewer all bytes weight left so_far over more =
    let n : ℕ = length left - 1 in
    let count : length (take n left) ≡ n = length-take-le n left (omega arith) in
    let lighter : weight_of (take n left) + weight_gone (slice_get left n) ≡ weight_of left = weight_of-take left n (omega arith) in
    record {
      front = ap (take n) so_far.front ∙ take-take n (length left) all (omega arith) ∙ ap (λ k. take k all) (sym count);
      some = omega arith;
      sum = omega (arith, so_far.sum);
      heavy = λ k longer within. elim (at_or_above k (length left) (omega arith)) [
        | inl same ↦ subst (λ j. bytes < weight_of (take j all)) (sym same) (subst (λ (l : List (Key × Body)). bytes < weight_of l) so_far.front (omega (arith, so_far.sum)))
        | inr above ↦ so_far.heavy k above within
      ];
    }

-- nothing more has to leave
pub IsLongestFront-left : (entries bytes weight : ℕ) (all left : List (Key × Body)) → IsLeft all bytes weight left → length all ≤ entries → (weight ≤ bytes) ⊎ (length left ≤ 1)
    → IsLongestFront entries bytes all left
IsLongestFront-left entries bytes weight all left so_far few done =
    let within : length left ≤ length all = subst (λ (n : ℕ). n ≤ length all) (sym (ap length so_far.front ∙ length-take (length left) all)) (omega arith) in
    record {
      front = so_far.front;
      some = so_far.some;
      fits = elim done [
        | inl light ↦ inl (record { few = omega arith; light = omega (arith, so_far.sum) })
        | inr alone ↦ inr (omega (arith, so_far.some))
      ];
      longest = λ n longer at_most keeps. omega (arith, so_far.heavy n longer at_most, keeps.light);
    }

-- ---- a put: what it leaves before objects leave is cut at the bound of entries

pub IsLongestFront-cut : (entries bytes : ℕ) (all kept : List (Key × Body)) → IsLongestFront entries bytes (take entries all) kept → IsLongestFront entries bytes all kept
IsLongestFront-cut entries bytes all kept front =
    let cut : length kept ≤ min entries (length all) = subst (λ (n : ℕ). n ≤ min entries (length all)) (sym (ap length front.front ∙ length-take (length kept) (take entries all)))
    (omega (arith, length-take entries all)) in
    record {
      front = front.front ∙ take-take (length kept) entries all (omega arith);
      some = front.some;
      fits = front.fits;
      longest = λ n longer within keeps.
          let count : length (take n all) ≡ n = length-take-le n all within in
          let few : n ≤ entries = omega (arith, keeps.few) in
          front.longest n longer (omega (arith, length-take entries all)) (subst (KeepsBounds entries bytes) (sym (take-take n entries all few)) keeps);
    }

-- what is kept is light, where the bound and the first object are
pub light_front : (entries bytes most : ℕ) (e : Key × Body) (es kept : List (Key × Body)) → IsLongestFront entries bytes (e ∷ es) kept → bytes ≤ most → length e.1.bytes ≤ most → weight_of kept ≤ most
light_front entries bytes most e es kept front limit first = elim front.fits [
  | inl keeps ↦ omega (arith, keeps.light)
  | inr alone ↦
      let one : kept ≡ take 1 (e ∷ es) = front.front ∙ ap (λ n. take n (e ∷ es)) alone in
      subst (λ (l : List (Key × Body)). weight_of l ≤ most) (sym one) (omega (arith, weight_of-cons e []))
]
