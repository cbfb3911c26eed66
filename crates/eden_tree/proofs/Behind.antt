-- The rows behind a name.
use Rattle.std.proofs.Common.{◌≡◌, ℕ, zero, suc, ◌+◌, ◌<◌, ◌≤◌, Bool, true, false, cond, List, [], ◌∷◌, length, drop, filter, get_or, refl, sym, ap, ◌∙◌, subst, inl, inr, arith}
use Rattle.std.specs.declared.cmp.Ordering.TheVariants.{Less, Equal}
use Rattle.std.specs.Ordering.{is_lt}
use Rattle.std.proofs.lemmas.Bool.{cases_lt}
use Rattle.eden_model.specs.Trees.{Name}
use Rattle.eden_model.specs.Operations.{name_lt}
use Rattle.eden_model.specs.Named.{AreRising}
use Rattle.eden_tree.specs.Directory.{Row}
use Rattle.eden_tree.specs.Places.{IsPlaceOf, IsGap}
use Rattle.eden_tree.proofs.NameOrder.{order, lt-less, lt-equal, lt-greater, equal-≡}
use Rattle.eden_tree.proofs.RowLemmas.{rises}

-- what fails a test stands before a place, and what passes it from there on
cut_filter : {X : Type 0} (p : X → Bool) (xs : List X) (k : ℕ) → ((j : ℕ) (d : X) → j < k → j < length xs → p (get_or xs j d) ≡ false)
    → ((j : ℕ) (d : X) → k ≤ j → j < length xs → p (get_or xs j d) ≡ true) → drop k xs ≡ filter p xs
cut_filter p [] zero fails passes = refl
cut_filter p [] (suc k) fails passes = refl
cut_filter p (x ∷ xs) zero fails passes =
    ap (λ l. x ∷ l) (cut_filter p xs zero (λ j d lt within. absurd (omega (arith, lt))) (λ j d le within. passes (suc j) d (omega arith) (omega (arith, within))))
    ∙ sym (ap (λ (b : Bool). cond b (x ∷ filter p xs) (filter p xs)) (passes zero x (omega arith) (omega arith)))
cut_filter p (x ∷ xs) (suc k) fails passes =
    cut_filter p xs k (λ j d lt within. fails (suc j) d (omega (arith, lt)) (omega (arith, within))) (λ j d le within. passes (suc j) d (omega (arith, le)) (omega (arith, within)))
    ∙ sym (ap (λ (b : Bool). cond b (x ∷ filter p xs) (filter p xs)) (fails zero x (omega arith) (omega arith)))

module _ (es : List (Name × Row)) (n : Name) (i : ℕ) where
  abbrev Cut : ℕ → Type 0
  Cut k = drop k es ≡ filter (λ r. name_lt n r.0) es

  pub behind_gap : IsGap es n i → Cut i
  behind_gap h = cut_filter (λ (r : Name × Row). name_lt n r.0) es i (λ j d lt within. lt-less (get_or es j d).0 n (h.less_before j d lt))
      (λ j d le within. lt-greater (get_or es j d).0 n (h.greater_from j d le within))

  pub behind_at : AreRising (λ r. r.0) es → IsPlaceOf es n i → Cut (i + 1)
  behind_at rising h = cut_filter (λ (r : Name × Row). name_lt n r.0) es (i + 1) fails passes
    where
      there : (d : Name × Row) → (get_or es i d).0 ≡ n
      there d = equal-≡ (get_or es i d).0 n (h.same d)

      fails : (j : ℕ) (d : Name × Row) → j < i + 1 → j < length es → name_lt n (get_or es j d).0 ≡ false
      fails j d lt within = elim (cases_lt j i) [
        | inl before ↦ lt-less (get_or es j d).0 n (subst (λ m. order (get_or es j d).0 m ≡ Less) (there d) (rises es j i d rising before h.in_range))
        | inr from ↦ subst (λ k. name_lt n (get_or es k d).0 ≡ false) {x = i} (omega (arith, from, lt)) (lt-equal (get_or es i d).0 n (h.same d))
      ]

      passes : (j : ℕ) (d : Name × Row) → i + 1 ≤ j → j < length es → name_lt n (get_or es j d).0 ≡ true
      passes j d le within = ap is_lt (subst (λ m. order m (get_or es j d).0 ≡ Less) (there d) (rises es i j d rising (omega (arith, le)) within))
