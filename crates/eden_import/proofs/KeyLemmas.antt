-- Lemmas on keys and lists of keys.
use Rattle.std.proofs.Common.{◌≡◌, ◌≤◌, ◌+◌, ℕ, Bool, true, false, not, ◌&&◌, ◌||◌, cond, List, [], ◌∷◌, ◌++◌, length, refl, sym, ap, ◌∙◌, subst, arith}
use Rattle.std.specs.Cmp.{IsEquivalence, decided}
use Rattle.std.specs.List.{IsDistinct, AllByRecursion, filter}
use Rattle.std.proofs.lemmas.Bool.{or_parts}
use Rattle.std.proofs.lemmas.List.Folds.{list_any-append}
use Rattle.std.proofs.lemmas.List.Elements.{filter-append}
use Rattle.std.proofs.lemmas.Map.Made.{is_member-filter}
use Rattle.eden_model.specs.declared.id.Key.{Key}
use Rattle.eden_model.specs.Keys.{same_key}
use Rattle.eden_model.proofs.CallerLemmas.{same_key-Decides}
use Rattle.eden_import.specs.Keys.{has_key, without_key}

pub same_key-equiv : IsEquivalence same_key
same_key-equiv = decided same_key same_key-Decides

pub same_key-refl : (k : Key) → same_key k k ≡ true
same_key-refl k = same_key-equiv.refl k

-- ---- with one key taken out

pub has_key-append : (k : Key) (xs ys : List Key) → has_key k (xs ++ ys) ≡ (has_key k xs || has_key k ys)
has_key-append k xs ys = list_any-append (same_key k) xs ys

pub has_key-without : (j k : Key) (xs : List Key) → has_key j (without_key k xs) ≡ (has_key j xs && not (same_key k j))
has_key-without j k xs = is_member-filter same_key-equiv (λ x. not (same_key k x)) j (λ x e. ap (λ y. not (same_key k y)) ((same_key-Decides j x).0 e)) xs

-- a key that isn't there needs no taking out
pub without_absent : (k : Key) (xs : List Key) → has_key k xs ≡ false → without_key k xs ≡ xs
without_absent k [] h = refl
without_absent k (x ∷ xs) h =
    let parts = or_parts (same_key k x) (has_key k xs) h in
    ap (λ b. cond (not b) (x ∷ without_key k xs) (without_key k xs)) parts.0 ∙ ap (λ l. x ∷ l) (without_absent k xs parts.1)

length-cond-le : (b : Bool) (x : Key) (ys : List Key) (n : ℕ) → length ys ≤ n → length (cond b (x ∷ ys) ys) ≤ n + 1
length-cond-le true x ys n h = omega arith
length-cond-le false x ys n h = omega arith

pub length-without-le : (k : Key) (xs : List Key) → length (without_key k xs) ≤ length xs
length-without-le k [] = omega arith
length-without-le k (x ∷ xs) = let step = length-cond-le (not (same_key k x)) x (without_key k xs) (length xs) (length-without-le k xs) in omega arith

-- ---- keys that differ

all_filter : (P : Key → Type 0) (p : Key → Bool) (xs : List Key) → AllByRecursion P xs → AllByRecursion P (filter p xs)
all_filter P p [] h = h
all_filter P p (x ∷ xs) h = step (p x) (all_filter P p xs h.1)
  where
    step : (b : Bool) → AllByRecursion P (filter p xs) → AllByRecursion P (cond b (x ∷ filter p xs) (filter p xs))
    step true k = (h.0, k)
    step false k = k

distinct_filter : (p : Key → Bool) (xs : List Key) → IsDistinct same_key xs → IsDistinct same_key (filter p xs)
unfolding IsDistinct
distinct_filter p [] h = h
distinct_filter p (x ∷ xs) h = step (p x) (distinct_filter p xs h.1)
  where
    step : (b : Bool) → IsDistinct same_key (filter p xs) → IsDistinct same_key (cond b (x ∷ filter p xs) (filter p xs))
    step true k = (all_filter (λ y. same_key x y ≡ false) p xs h.0, k)
    step false k = k

-- in two lists whose keys all differ, a key of the one isn't in the other
pub apart : (k : Key) (xs ys : List Key) → IsDistinct same_key (xs ++ ys) → has_key k xs ≡ true → has_key k ys ≡ false
unfolding IsDistinct
apart k [] ys h p = cc
apart k (x ∷ xs) ys h p = at (same_key k x) refl (apart k xs ys h.1)
  where
    none : (zs : List Key) → AllByRecursion (λ y. same_key x y ≡ false) zs → same_key k x ≡ true → has_key k zs ≡ false
    none [] a e = refl
    none (z ∷ zs) a e =
        let same : same_key k z ≡ false = same_key-equiv.congr k x z e ∙ a.0 in
        ap (λ b. b || has_key k zs) same ∙ none zs a.1 e

    behind : (zs : List Key) → AllByRecursion (λ y. same_key x y ≡ false) (zs ++ ys) → AllByRecursion (λ y. same_key x y ≡ false) ys
    behind [] a = a
    behind (z ∷ zs) a = behind zs a.1

    at : (b : Bool) → same_key k x ≡ b → (has_key k xs ≡ true → has_key k ys ≡ false) → has_key k ys ≡ false
    at true e f = none ys (behind xs h.0) e
    at false e f = f (sym (ap (λ b. b || has_key k xs) e) ∙ p)

pub distinct_without_left : (k : Key) (xs ys : List Key) → IsDistinct same_key (xs ++ ys) → has_key k ys ≡ false → IsDistinct same_key (without_key k xs ++ ys)
distinct_without_left k xs ys h absent =
    let P : List Key → Type 0 = λ l. IsDistinct same_key (without_key k xs ++ l) in
    subst P (without_absent k ys absent) (subst (IsDistinct same_key) (filter-append (λ j. not (same_key k j)) xs ys) (distinct_filter (λ j. not (same_key k j)) (xs ++ ys) h))

pub distinct_without_right : (k : Key) (xs ys : List Key) → IsDistinct same_key (xs ++ ys) → has_key k xs ≡ false → IsDistinct same_key (xs ++ without_key k ys)
distinct_without_right k xs ys h absent =
    let P : List Key → Type 0 = λ l. IsDistinct same_key (l ++ without_key k ys) in
    subst P (without_absent k xs absent) (subst (IsDistinct same_key) (filter-append (λ j. not (same_key k j)) xs ys) (distinct_filter (λ j. not (same_key k j)) (xs ++ ys) h))
