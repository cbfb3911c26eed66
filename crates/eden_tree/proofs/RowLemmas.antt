-- What an edit at a name's place does to rows.
use Rattle.std.proofs.Common.{◌≡◌, ℕ, zero, suc, ◌+◌, ◌<◌, ◌≤◌, Bool, true, false, cond, List, [], ◌∷◌, length, get_or, set, Some, None, IsSome, refl, sym, ap, ◌∙◌, subst, inl, inr, arith}
use Rattle.std.specs.declared.cmp.Ordering.TheVariants.{Less, Equal, Greater}
use Rattle.std.specs.Cmp.Lexicographic.{nat_list_cmp_total}
use Rattle.std.specs.List.{insert, remove, slice_get}
use Rattle.std.specs.List.Sorted.{IsStrictlySortedBy}
use Rattle.std.specs.Map.{keys_of}
use Rattle.std.specs.Str.{bytes_eq}
use Rattle.std.proofs.lemmas.List.{get_or_default}
use Rattle.std.proofs.lemmas.Bool.{cases_lt}
use Rattle.eden_model.specs.Trees.{Name}
use Rattle.eden_model.specs.Operations.{name_lt}
use Rattle.eden_tree.specs.Directory.{Row}
use Rattle.eden_tree.specs.Rows.{find_row, put_row, drop_row, change_row, set_row, set_at, AreRows}
use Rattle.eden_model.specs.Named.{AreRising}
use Rattle.eden_tree.specs.Places.{IsPlaceOf, IsGap}
use Rattle.eden_tree.proofs.Rising.{IsBelow, first_below, others, none_rise, joined}
use Rattle.eden_tree.proofs.NameOrder.{order, same-less, same-equal, same-greater, lt-less, lt-greater, greater-less, less-greater, equal-≡, lt-≡, beyond}

abbrev Named : Type 0
Named = Name × Row

IsBelow-trans : (a b : Name) (es : List Named) → order a b ≡ Less → IsBelow b es → IsBelow a es
IsBelow-trans a b [] h p = tt
IsBelow-trans a b (e ∷ es) h p = (nat_list_cmp_total.trans a b e.0 h p.0, IsBelow-trans a b es h p.1)

IsBelow-get : (n : Name) (es : List Named) (k : ℕ) (d : Named) → IsBelow n es → k < length es → order n (get_or es k d).0 ≡ Less
IsBelow-get n [] k d p h = absurd (omega arith)
IsBelow-get n (e ∷ es) zero d p h = p.0
IsBelow-get n (e ∷ es) (suc k) d p h = IsBelow-get n es k d p.1 (omega arith)

pub rises : (es : List Named) (j k : ℕ) (d : Named) → AreRising (λ r. r.0) es → j < k → k < length es → order (get_or es j d).0 (get_or es k d).0 ≡ Less
rises [] j k d p h g = absurd (omega arith)
rises (e ∷ es) zero zero d p h g = absurd (omega arith)
rises (e ∷ es) zero (suc k) d p h g = IsBelow-get e.0 es k d (first_below e es p) (omega arith)
rises (e ∷ es) (suc j) zero d p h g = absurd (omega arith)
rises (e ∷ es) (suc j) (suc k) d p h g = rises es j k d (others e es p) (omega arith) (omega arith)

-- ---- a binary search

pub less_through : (es : List Named) (n : Name) (mid : ℕ) (x : Named) → AreRising (λ r. r.0) es → mid < length es → order (get_or es mid x).0 n ≡ Less
    → (j : ℕ) (d : Named) → j < mid + 1 → order (get_or es j d).0 n ≡ Less
less_through es n mid x p lt h j d below =
    let here : order (get_or es mid d).0 n ≡ Less = rw (get_or_default es mid d x lt) h in
    elim (cases_lt j mid) [
      | inl before ↦ nat_list_cmp_total.trans (get_or es j d).0 (get_or es mid d).0 n (rises es j mid d p before lt) here
      | inr from ↦ subst (λ k. order (get_or es k d).0 n ≡ Less) {x = mid} (omega arith) here
    ]

pub greater_through : (es : List Named) (n : Name) (mid : ℕ) (x : Named) → AreRising (λ r. r.0) es → mid < length es → order (get_or es mid x).0 n ≡ Greater
    → (j : ℕ) (d : Named) → mid ≤ j → j < length es → order (get_or es j d).0 n ≡ Greater
greater_through es n mid x p lt h j d from within =
    let here : order (get_or es mid d).0 n ≡ Greater = rw (get_or_default es mid d x lt) h in
    elim (cases_lt mid j) [
      | inl before ↦ less-greater n (get_or es j d).0 (nat_list_cmp_total.trans n (get_or es mid d).0 (get_or es j d).0 (greater-less (get_or es mid d).0 n here) (rises es mid j d p before within))
      | inr at_most ↦ subst (λ k. order (get_or es k d).0 n ≡ Greater) {x = mid} (omega arith) here
    ]

pub at_here : (es : List Named) (n : Name) (mid : ℕ) (x : Named) → mid < length es → order (get_or es mid x).0 n ≡ Equal → (d : Named) → order (get_or es mid d).0 n ≡ Equal
at_here es n mid x lt h d = rw (get_or_default es mid d x lt) h

-- ---- places

before_at : (e : Named) (es : List Named) (n : Name) (i : ℕ) → AreRising (λ r. r.0) (e ∷ es) → IsPlaceOf (e ∷ es) n (suc i) → order e.0 n ≡ Less
before_at e es n i p h = subst (λ m. order e.0 m ≡ Less) (equal-≡ (get_or es i e).0 n (h.same e)) (rises (e ∷ es) 0 (suc i) e p (omega arith) h.in_range)

at_tail : (e : Named) (es : List Named) (n : Name) (i : ℕ) → IsPlaceOf (e ∷ es) n (suc i) → IsPlaceOf es n i
at_tail e es n i h = record { in_range = omega (arith, h.in_range); same = h.same }

gap_tail : (e : Named) (es : List Named) (n : Name) (i : ℕ) → IsGap (e ∷ es) n (suc i) → IsGap es n i
gap_tail e es n i h = record {
  in_range = omega (arith, h.in_range);
  less_before = λ j d lt. h.less_before (suc j) d (omega arith);
  greater_from = λ j d le lt. h.greater_from (suc j) d (omega arith) (omega arith);
}

gap_below : (es : List Named) (n : Name) → AreRising (λ r. r.0) es → IsGap es n zero → IsBelow n es
gap_below [] n p h = tt
gap_below (e ∷ es) n p h = let less = greater-less e.0 n (h.greater_from 0 e (omega arith) (omega arith)) in (less, IsBelow-trans n e.0 es less (first_below e es p))

-- a test that came out, in a choice
chosen : {C : Type 0} (b : Bool) (x y : C) → b ≡ true → cond b x y ≡ x
chosen b x y h = ap (λ t. cond t x y) h

passed : {C : Type 0} (b : Bool) (x y : C) → b ≡ false → cond b x y ≡ y
passed b x y h = ap (λ t. cond t x y) h

pub find_row-below : (n : Name) (es : List Named) → IsBelow n es → find_row n es ≡ None
find_row-below n [] p = refl
find_row-below n (e ∷ es) p = passed _ _ _ (same-greater e.0 n (less-greater n e.0 p.0)) ∙ find_row-below n es p.1

pub find_row-at : (es : List Named) (n : Name) (i : ℕ) (d : Named) → AreRising (λ r. r.0) es → IsPlaceOf es n i → find_row n es ≡ Some (get_or es i d).1
find_row-at [] n i d p h = absurd (omega (arith, h.in_range))
find_row-at (e ∷ es) n zero d p h = chosen _ _ _ (same-equal e.0 n (h.same d))
find_row-at (e ∷ es) n (suc i) d p h = passed _ _ _ (same-less e.0 n (before_at e es n i p h)) ∙ find_row-at es n i d (others e es p) (at_tail e es n i h)

pub find_row-gap : (es : List Named) (n : Name) (i : ℕ) → AreRising (λ r. r.0) es → IsGap es n i → find_row n es ≡ None
find_row-gap es n zero p h = find_row-below n es (gap_below es n p h)
find_row-gap [] n (suc i) p h = refl
find_row-gap (e ∷ es) n (suc i) p h = passed _ _ _ (same-less e.0 n (h.less_before 0 e (omega arith))) ∙ find_row-gap es n i (others e es p) (gap_tail e es n i h)

pub key-at : (es : List Named) (n : Name) (i : ℕ) → IsPlaceOf es n i → slice_get (keys_of es) i ≡ Some n
key-at [] n i h = absurd (omega (arith, h.in_range))
key-at (e ∷ es) n zero h = ap Some (equal-≡ e.0 n (h.same e))
key-at (e ∷ es) n (suc i) h = key-at es n i (at_tail e es n i h)

-- ---- insert

pub insert-gap : (es : List Named) (n : Name) (x : Row) (i : ℕ) → IsGap es n i → insert es i (n, x) ≡ put_row n x es
insert-gap [] n x zero h = refl
insert-gap [] n x (suc i) h = refl
insert-gap (e ∷ es) n x zero h = sym (chosen _ _ _ (lt-greater e.0 n (h.greater_from 0 e (omega arith) (omega arith))))
insert-gap (e ∷ es) n x (suc i) h = ap (λ l. e ∷ l) (insert-gap es n x i (gap_tail e es n i h)) ∙ sym (passed _ _ _ (lt-less e.0 n (h.less_before 0 e (omega arith))))

IsBelow-put_row : (m n : Name) (x : Row) (es : List Named) → order m n ≡ Less → IsBelow m es → IsBelow m (put_row n x es)
IsBelow-put_row m n x [] h p = (h, tt)
IsBelow-put_row m n x (e ∷ es) h p = elim (name_lt n e.0) as (λ b. IsBelow m (cond b ((n, x) ∷ (e ∷ es)) (e ∷ put_row n x es))) [ true ↦ (h, p) | false ↦ (p.0, IsBelow-put_row m n x es h p.1) ]

-- the names still rise
pub AreRising-put_row : (n : Name) (x : Row) (es : List Named) → find_row n es ≡ None → AreRising (λ r. r.0) es → AreRising (λ r. r.0) (put_row n x es)
AreRising-put_row n x [] h p = joined (n, x) [] tt none_rise
AreRising-put_row n x (e ∷ es) h p =
    elim (bytes_eq n e.0) as (λ b. bytes_eq n e.0 ≡ b → cond b (Some e.1) (find_row n es) ≡ None → AreRising (λ r. r.0) (put_row n x (e ∷ es))) [
      | true ↦ λ s k. absurd (cc)
      | false ↦ λ s k. elim (name_lt n e.0) as (λ b. name_lt n e.0 ≡ b → AreRising (λ r. r.0) (cond b ((n, x) ∷ (e ∷ es)) (e ∷ put_row n x es))) [
        | true ↦ λ l. joined (n, x) (e ∷ es) (lt-≡ n e.0 l, IsBelow-trans n e.0 es (lt-≡ n e.0 l) (first_below e es p)) p
        | false ↦ λ l. joined e (put_row n x es) (IsBelow-put_row e.0 n x es (beyond n e.0 l s) (first_below e es p)) (AreRising-put_row n x es k (others e es p))
      ] refl
    ] refl h

pub length-put_row : (n : Name) (x : Row) (es : List Named) → length (put_row n x es) ≡ suc (length es)
length-put_row n x [] = refl
length-put_row n x (e ∷ es) = elim (name_lt n e.0) as (λ b. length (cond b ((n, x) ∷ (e ∷ es)) (e ∷ put_row n x es)) ≡ suc (suc (length es))) [ true ↦ refl | false ↦ ap suc (length-put_row n x es) ]

-- ---- remove

pub remove-at : (es : List Named) (n : Name) (i : ℕ) → AreRising (λ r. r.0) es → IsPlaceOf es n i → remove es i ≡ drop_row n es
remove-at [] n i p h = absurd (omega (arith, h.in_range))
remove-at (e ∷ es) n zero p h = sym (chosen _ _ _ (same-equal e.0 n (h.same e)))
remove-at (e ∷ es) n (suc i) p h = ap (λ l. e ∷ l) (remove-at es n i (others e es p) (at_tail e es n i h)) ∙ sym (passed _ _ _ (same-less e.0 n (before_at e es n i p h)))

pub drop_row-absent : (n : Name) (es : List Named) → find_row n es ≡ None → drop_row n es ≡ es
drop_row-absent n [] h = refl
drop_row-absent n (e ∷ es) h =
    elim (bytes_eq n e.0) as (λ b. cond b (Some e.1) (find_row n es) ≡ None → cond b es (e ∷ drop_row n es) ≡ e ∷ es) [
      | true ↦ λ k. absurd (cc)
      | false ↦ λ k. ap (λ l. e ∷ l) (drop_row-absent n es k)
    ] h

IsBelow-drop_row : (m n : Name) (es : List Named) → IsBelow m es → IsBelow m (drop_row n es)
IsBelow-drop_row m n [] p = tt
IsBelow-drop_row m n (e ∷ es) p = elim (bytes_eq n e.0) as (λ b. IsBelow m (cond b es (e ∷ drop_row n es))) [ true ↦ p.1 | false ↦ (p.0, IsBelow-drop_row m n es p.1) ]

pub AreRising-drop_row : (n : Name) (es : List Named) → AreRising (λ r. r.0) es → AreRising (λ r. r.0) (drop_row n es)
AreRising-drop_row n [] p = none_rise
AreRising-drop_row n (e ∷ es) p = elim (bytes_eq n e.0) as
    (λ b. AreRising (λ r. r.0) (cond b es (e ∷ drop_row n es))) [
      | true ↦ others e es p
      | false ↦ joined e (drop_row n es) (IsBelow-drop_row e.0 n es (first_below e es p))
          (AreRising-drop_row n es (others e es p))
    ]

pub length-drop_row : (n : Name) (es : List Named) → IsSome (find_row n es) → suc (length (drop_row n es)) ≡ length es
length-drop_row n [] h = absurd (cc)
length-drop_row n (e ∷ es) h =
    elim (bytes_eq n e.0) as (λ b. IsSome (cond b (Some e.1) (find_row n es)) → suc (length (cond b es (e ∷ drop_row n es))) ≡ suc (length es)) [
      | true ↦ λ k. refl
      | false ↦ λ k. ap suc (length-drop_row n es k)
    ] h

-- ---- change

pub set-at : (es : List Named) (n : Name) (i : ℕ) (d : Named) (x : Row) → AreRising (λ r. r.0) es → IsPlaceOf es n i → set es i ((get_or es i d).0, x) ≡ set_row n x es
set-at [] n i d x p h = absurd (omega (arith, h.in_range))
set-at (e ∷ es) n zero d x p h = sym (chosen _ _ _ (same-equal e.0 n (h.same d)))
set-at (e ∷ es) n (suc i) d x p h = ap (λ l. e ∷ l) (set-at es n i d x (others e es p) (at_tail e es n i h)) ∙ sym (passed _ _ _ (same-less e.0 n (before_at e es n i p h)))

pub set-set_at : (es : List Named) (i : ℕ) (d : Named) (x : Row) → set es i ((get_or es i d).0, x) ≡ set_at i x es
set-set_at [] i d x = refl
set-set_at (e ∷ es) zero d x = refl
set-set_at (e ∷ es) (suc i) d x = ap (λ l. e ∷ l) (set-set_at es i d x)

-- a change keeps the names
pub keys_of-change_row : (n : Name) (f : Row → Row) (es : List Named) → keys_of (change_row n f es) ≡ keys_of es
keys_of-change_row n f [] = refl
keys_of-change_row n f (e ∷ es) = elim (bytes_eq n e.0) as
    (λ b. keys_of (cond b ((e.0, f e.1) ∷ es) (e ∷ change_row n f es)) ≡ e.0 ∷ keys_of es) [ true ↦ refl | false ↦ ap (λ l. e.0 ∷ l) (keys_of-change_row n f es) ]

pub keys_of-set_at : (i : ℕ) (x : Row) (es : List Named) → keys_of (set_at i x es) ≡ keys_of es
keys_of-set_at i x [] = refl
keys_of-set_at zero x (e ∷ es) = refl
keys_of-set_at (suc i) x (e ∷ es) = ap (λ l. e.0 ∷ l) (keys_of-set_at i x es)

pub change_row-absent : (n : Name) (f : Row → Row) (es : List Named) → find_row n es ≡ None → change_row n f es ≡ es
change_row-absent n f [] h = refl
change_row-absent n f (e ∷ es) h =
    elim (bytes_eq n e.0) as (λ b. cond b (Some e.1) (find_row n es) ≡ None → cond b ((e.0, f e.1) ∷ es) (e ∷ change_row n f es) ≡ e ∷ es) [
      | true ↦ λ k. absurd (cc)
      | false ↦ λ k. ap (λ l. e ∷ l) (change_row-absent n f es k)
    ] h

-- changing an entry is putting the changed one in its place
pub change_row-found : (n : Name) (f : Row → Row) (x : Row) (es : List Named) → find_row n es ≡ Some x → change_row n f es ≡ set_row n (f x) es
change_row-found n f x [] h = refl
change_row-found n f x (e ∷ es) h =
    elim (bytes_eq n e.0) as (λ b. cond b (Some e.1) (find_row n es) ≡ Some x → cond b ((e.0, f e.1) ∷ es) (e ∷ change_row n f es) ≡ cond b ((e.0, f x) ∷ es) (e ∷ set_row n (f x) es)) [
      | true ↦ λ k. let is : e.1 ≡ x = cc in ap (λ y. (e.0, f y) ∷ es) is
      | false ↦ λ k. ap (λ l. e ∷ l) (change_row-found n f x es k)
    ] h

-- the entry that is there, put back, changes nothing
pub set_row-same : (n : Name) (x : Row) (es : List Named) → find_row n es ≡ Some x → set_row n x es ≡ es
set_row-same n x [] h = refl
set_row-same n x (e ∷ es) h =
    elim (bytes_eq n e.0) as (λ b. cond b (Some e.1) (find_row n es) ≡ Some x → cond b ((e.0, x) ∷ es) (e ∷ set_row n x es) ≡ e ∷ es) [
      | true ↦ λ k. let is : e.1 ≡ x = cc in ap (λ y. (e.0, y) ∷ es) (sym is)
      | false ↦ λ k. ap (λ l. e ∷ l) (set_row-same n x es k)
    ] h

-- ---- positions

pub slice_get-get_or : (es : List Named) (i : ℕ) (d : Named) → i < length es → slice_get es i ≡ Some (get_or es i d)
slice_get-get_or [] i d h = absurd (omega arith)
slice_get-get_or (e ∷ es) zero d h = refl
slice_get-get_or (e ∷ es) (suc i) d h = slice_get-get_or es i d (omega arith)

pub slice_get-beyond : (es : List Named) (i : ℕ) → length es ≤ i → slice_get es i ≡ None
slice_get-beyond [] i h = refl
slice_get-beyond (e ∷ es) zero h = absurd (omega arith)
slice_get-beyond (e ∷ es) (suc i) h = slice_get-beyond es i (omega arith)

-- ---- what every directory keeps

pub length-keys : (es : List Named) → length (keys_of es) ≡ length es
length-keys [] = refl
length-keys (e ∷ es) = ap suc (length-keys es)

-- rows of the same names
pub AreRows-renamed : (es fs : List Named) → keys_of fs ≡ keys_of es → AreRows es → AreRows fs
AreRows-renamed es fs same p = record {
  rising = subst (IsStrictlySortedBy order) (sym same) p.rising;
  few = omega (arith, p.few, length-keys es, length-keys fs, ap length same);
}

pub AreRows-put_row : (n : Name) (x : Row) (es : List Named) → find_row n es ≡ None → length es < 4294967295 → AreRows es → AreRows (put_row n x es)
AreRows-put_row n x es h l p = record { rising = AreRising-put_row n x es h p.rising; few = omega (arith, length-put_row n x es) }

length-drop_row-le : (n : Name) (es : List Named) → length (drop_row n es) ≤ length es
length-drop_row-le n [] = omega arith
length-drop_row-le n (e ∷ es) = elim (bytes_eq n e.0) as (λ b. length (cond b es (e ∷ drop_row n es)) ≤ suc (length es)) [ true ↦ omega arith | false ↦ omega (arith, length-drop_row-le n es) ]

pub AreRows-drop_row : (n : Name) (es : List Named) → AreRows es → AreRows (drop_row n es)
AreRows-drop_row n es p = record { rising = AreRising-drop_row n es p.rising; few = omega (arith, length-drop_row-le n es, p.few) }

-- ---- the entry at a name's place, which was read as x

module _ (es : List Named) (n : Name) (i : ℕ) (x : Named) (p : AreRows es) (h : IsPlaceOf es n i) (is : x ≡ get_or es i x) where
  pub found_here : find_row n es ≡ Some x.1
  found_here = find_row-at es n i x p.rising h ∙ ap (λ y. Some y.1) (sym is)

  pub set_here : (v : Row) → set es i (x.0, v) ≡ set_row n v es
  set_here v = subst (λ (y : Named). set es i (y.0, v) ≡ set_row n v es) (sym is) (set-at es n i x v p.rising h)

  pub rows_here : (v : Row) → AreRows (set es i (x.0, v))
  rows_here v = subst AreRows (sym (set_here v)) (AreRows-renamed es (set_row n v es) (keys_of-change_row n (λ _. v) es) p)

-- ---- the entry at a position

module _ (es : List Named) (i : ℕ) (x : Named) (is : x ≡ get_or es i x) where
  pub set_there : (v : Row) → set es i (x.0, v) ≡ set_at i v es
  set_there v = subst (λ (y : Named). set es i (y.0, v) ≡ set_at i v es) (sym is) (set-set_at es i x v)

  pub rows_there : (v : Row) → AreRows es → AreRows (set es i (x.0, v))
  rows_there v p = subst AreRows (sym (set_there v)) (AreRows-renamed es (set_at i v es) (keys_of-set_at i v es) p)

  pub found_there : i < length es → slice_get es i ≡ Some x
  found_there h = slice_get-get_or es i x h ∙ ap Some (sym is)
