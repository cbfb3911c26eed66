-- Each name before the next is each name before all that follow.
use Rattle.std.proofs.Common.{◌≡◌, ℕ, zero, suc, ◌+◌, ◌<◌, Bool, true, false, List, [], ◌∷◌, length, map, get_or, refl, sym, arith}
use Rattle.std.specs.Bool.{IsTrue}
use Rattle.std.specs.declared.cmp.Ordering.{Ordering}
use Rattle.std.specs.declared.cmp.Ordering.TheVariants.{Less, Equal, Greater}
use Rattle.std.specs.Ordering.{nat_cmp, is_lt}
use Rattle.std.specs.Cmp.Lexicographic.{slice_cmp}
use Rattle.std.specs.List.{AllByRecursion, AllAdjacentBelow, IsAllAdjacentAnswer}
use Rattle.std.specs.List.Sorted.{IsStrictlySortedBy}
use Rattle.std.proofs.lemmas.Bool.{and_from}
use Rattle.std.proofs.lemmas.Cmp.{nat_list_cmp_total}
use Rattle.eden_model.specs.Named.{AreRising}
use Rattle.eden_overlay_format.specs.declared.stored_entry.StoredEntry.{StoredEntry}
use Rattle.eden_overlay_format.specs.Values.{is_rising}
use Rattle.eden_overlay_format.proofs.Agreement.{both}

-- in strictly rising order of their names
abbrev pub IsRising : List StoredEntry → Type 0
IsRising es = AreRising (λ (e : StoredEntry). e.name) es

abbrev pub comes_before : StoredEntry → StoredEntry → Bool
comes_before x y = is_lt (slice_cmp nat_cmp x.name y.name)

less_is : (o : Ordering) → is_lt o ≡ true → o ≡ Less
less_is Less e = refl
less_is Equal e = absurd cc
less_is Greater e = absurd cc

below_all : (x y : List ℕ) (zs : List (List ℕ)) → slice_cmp nat_cmp x y ≡ Less → AllByRecursion (λ z. slice_cmp nat_cmp y z ≡ Less) zs → AllByRecursion (λ z. slice_cmp nat_cmp x z ≡ Less) zs
below_all x y [] h all = tt
below_all x y (z ∷ zs) h all = (nat_list_cmp_total.trans x y z h all.0, below_all x y zs h all.1)

-- ---- the test

pub rises : (es : List StoredEntry) → is_rising es ≡ true → IsRising es
unfolding IsStrictlySortedBy
rises [] e = tt
rises (x ∷ []) e = (tt, tt)
rises (x ∷ y ∷ es) e =
    let found = both (comes_before x y) (is_rising (y ∷ es)) e in
    let first = less_is (slice_cmp nat_cmp x.name y.name) found.0 in
    let others = rises (y ∷ es) found.1 in
    ((first, below_all x.name y.name (map (λ (e : StoredEntry). e.name) es) first others.0), others)

pub told : (es : List StoredEntry) → IsRising es → is_rising es ≡ true
unfolding IsStrictlySortedBy
told [] h = refl
told (x ∷ []) h = refl
told (x ∷ y ∷ es) h =
    let less : slice_cmp nat_cmp x.name y.name ≡ Less = h.0.0 in
    let first : comes_before x y ≡ true = rw less refl in
    and_from (comes_before x y) (is_rising (y ∷ es)) first (told (y ∷ es) h.1)

not_rising : (es : List StoredEntry) (b : Bool) → is_rising es ≡ b → ¬ IsRising es → b ≡ false
not_rising es true e none = absurd (none (rises es e))
not_rising es false e none = refl

pub told_not : (es : List StoredEntry) → ¬ IsRising es → is_rising es ≡ false
told_not es none = not_rising es (is_rising es) refl none

-- ---- neighbours

all_before : (es : List StoredEntry) → AllAdjacentBelow (λ x y. true ≡ comes_before x y) es (length es) → is_rising es ≡ true
all_before [] h = refl
all_before (x ∷ []) h = refl
all_before (x ∷ y ∷ es) h =
    let others = all_before (y ∷ es) (λ k d lt. let e : suc k + 1 ≡ suc (k + 1) = omega arith in rw e at (h (suc k) d (omega arith))) in
    and_from (comes_before x y) (is_rising (y ∷ es)) (sym (h 0 x (omega arith))) others

neighbour : (es : List StoredEntry) (k : ℕ) (d : StoredEntry) → is_rising es ≡ true → k + 1 < length es → comes_before (get_or es k d) (get_or es (k + 1) d) ≡ true
neighbour [] k d h lt = absurd (omega arith)
neighbour (x ∷ []) k d h lt = absurd (omega arith)
neighbour (x ∷ y ∷ es) zero d h lt = (both (comes_before x y) (is_rising (y ∷ es)) h).0
neighbour (x ∷ y ∷ es) (suc k) d h lt =
    let e : suc k + 1 ≡ suc (k + 1) = omega arith in
    rw e (neighbour (y ∷ es) k d (both (comes_before x y) (is_rising (y ∷ es)) h).1 (omega arith))

-- what a search of neighbours out of order answers
pub rising_answer : (es : List StoredEntry) (r : Bool) → IsAllAdjacentAnswer (λ x y b. b ≡ comes_before x y) es r → (IsTrue r → IsRising es) × (IsRising es → IsTrue r)
rising_answer es true h = (λ t. rises es (all_before es h), λ rising. refl)
rising_answer [] false h = absurd (omega (arith, h.1))
rising_answer (x ∷ es) false h = (λ t. absurd cc, λ rising. let before = neighbour (x ∷ es) h.0 x (told (x ∷ es) rising) h.1 in let not_before = h.2 x in absurd cc)
