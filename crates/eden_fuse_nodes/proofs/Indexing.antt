-- What each change of both maps leaves of their invariant.
use Rattle.std.proofs.Common.{◌≡◌, ◌≢◌, ◌<◌, ◌≤◌, ◌-◌, ◌==◌, ◌⊎◌, ◌∙◌, ⊎_elim, inl, inr, ℕ, nat_le, Bool, true, false, Option, Some, None, refl, sym, ap, subst, arith, if◌then◌else◌}
use Rattle.std.proofs.lemmas.Bool.{cases_Bool, cases_eq, eq-eqb, ne_eqb, false_from_ne_true, false≢true, leb-false}
use Rattle.std.proofs.lemmas.Option.{none-some, same_Some}
use Rattle.eden_fuse_nodes.specs.declared.place.Place.{Place}
use Rattle.eden_fuse_nodes.specs.declared.known.Known.{Known}
use Rattle.eden_fuse_nodes.specs.Tables.{root, place_in, standing, nowhere, moved, once_more, less, dropped}
use Rattle.eden_fuse_nodes.specs.Indexing.{IsIndexed, without_place}

-- a function of numbers that was changed at one of them
module _ {X : Type 0} (old new : ℕ → X) (id : ℕ) (x : X) (h : (i : ℕ) → new i ≡ (if i == id then x else old i)) where
  pub new_number : new id ≡ x
  new_number = h id ∙ rw (eq-eqb id id refl) refl

  pub old_number : (i : ℕ) → i ≢ id → new i ≡ old i
  old_number i n = h i ∙ rw (ne_eqb i id n) refl

-- a test of places that tells equal ones
pub record IsExact (eq : Place → Place → Bool) : Type 0 where
  pub only : (p q : Place) → eq p q ≡ true → p ≡ q
  pub again : (p : Place) → eq p p ≡ true

-- what may be known of a node: it isn't the root, its number was given, and it was told of
abbrev pub IsTold : ℕ → ℕ → Option Known → Type 0
IsTold next id y = (k : Known) → y ≡ Some k → (root < id) × (id < next) × (0 < k.count)

pub told_standing : (n next id : ℕ) (p : Place) → root < id → id < next → 0 < n → IsTold next id (standing n p)
told_standing n next id p a b d k e = (a, b, subst (λ (c : Known). 0 < c.count) (same_Some _ k e) d)

pub told_moved : (next id : ℕ) (o : Option Known) (p : Place) → IsTold next id o → IsTold next id (moved p o)
told_moved next id None p h k e = absurd (none-some k e)
told_moved next id (Some j) p h k e = let t = h j refl in (t.0, t.1, subst (λ (c : Known). 0 < c.count) (same_Some _ k e) t.2)

pub told_nowhere : (next id : ℕ) (o : Option Known) → IsTold next id o → IsTold next id (nowhere o)
told_nowhere next id None h k e = absurd (none-some k e)
told_nowhere next id (Some j) h k e = let t = h j refl in (t.0, t.1, subst (λ (c : Known). 0 < c.count) (same_Some _ k e) t.2)

pub told_once : (next id : ℕ) (o : Option Known) → IsTold next id o → IsTold next id (once_more o)
told_once next id None h k e = absurd (none-some k e)
told_once next id (Some j) h k e = let t = h j refl in (t.0, t.1, subst (λ (c : Known). 0 < c.count) (same_Some _ k e) (omega arith))

-- a node that is forgotten some times, and one that is forgotten as often as it was told of
abbrev kept_of : Bool → ℕ → Known → Option Known
kept_of b n k = if b then None else Some (record { count = k.count - n; place = k.place })

told_kept : (next id n : ℕ) (j : Known) (b : Bool) → (b ≡ false → n < j.count) → IsTold next id (Some j) → IsTold next id (kept_of b n j)
told_kept next id n j true more h k e = absurd (none-some k e)
told_kept next id n j false more h k e =
    let t = h j refl in
    let some : n < j.count = more refl in
    (t.0, t.1, subst (λ (c : Known). 0 < c.count) (same_Some _ k e) (omega (arith, some)))

pub told_less : (next id n : ℕ) (o : Option Known) → IsTold next id o → IsTold next id (less n o)
told_less next id n None h k e = absurd (none-some k e)
told_less next id n (Some j) h k e = told_kept next id n j (nat_le j.count n) (λ f. leb-false j.count n f) h k e

place_kept : (n : ℕ) (j : Known) (b : Bool) → (if b then Some j else None) ≡ None → place_in (kept_of b n j) ≡ j.place
place_kept n j true e = absurd (none-some j (sym e))
place_kept n j false e = refl

pub less_kept : (n : ℕ) (o : Option Known) → dropped n o ≡ None → place_in (less n o) ≡ place_in o
less_kept n None e = refl
less_kept n (Some j) e = place_kept n j (nat_le j.count n) e

place_gone : (n : ℕ) (j k : Known) (b : Bool) → (if b then Some j else None) ≡ Some k → (kept_of b n j ≡ None) × (Some j ≡ Some k)
place_gone n j k true e = (refl, e)
place_gone n j k false e = absurd (none-some k e)

pub less_gone : (n : ℕ) (o : Option Known) (k : Known) → dropped n o ≡ Some k → (less n o ≡ None) × (o ≡ Some k)
less_gone n None k e = absurd (none-some k e)
less_gone n (Some j) k e = place_gone n j k (nat_le j.count n) e

-- one node of all
pub at_one : (f : Option Known → Option Known) (old new : ℕ → Option Known) (id : ℕ) → ((i : ℕ) → new i ≡ (if i == id then f (old i) else old i))
    → (i : ℕ) → new i ≡ (if i == id then f (old id) else old i)
at_one f old new id h i = ⊎_elim
    (λ s. h i ∙ ap (λ j. if i == id then f (old j) else old i) s)
    (λ n. let is : new i ≡ old i = h i ∙ rw (ne_eqb i id n) refl in is ∙ rw (ne_eqb i id n) refl)
    (cases_eq i id)

-- nothing changes
module _ (at at' : Place → Option ℕ) (known known' : ℕ → Option Known) (next : ℕ) (x : IsIndexed at known next) where
  pub unchanged : ((q : Place) → at' q ≡ at q) → ((i : ℕ) → known' i ≡ known i) → IsIndexed at' known' next
  unchanged ha hk = record {
    stands = λ q i e. ap place_in (hk i) ∙ x.stands q i (sym (ha q) ∙ e);
    found = λ q i e. ha q ∙ x.found q i (sym (ap place_in (hk i)) ∙ e);
    told = λ i k e. x.told i k (sym (hk i) ∙ e);
    first = x.first;
  }

module _ (eq : Place → Place → Bool) (exact : IsExact eq) where
  pub by_place : (p q : Place) → (p ≡ q) ⊎ (p ≢ q)
  by_place p q = ⊎_elim (λ t. inl (exact.only p q t)) (λ f. inr (λ s. false≢true (sym f ∙ subst (λ r. eq p r ≡ true) s (exact.again p)))) (cases_Bool (eq p q))

  -- a place that had no node is cleared
  pub nothing_cleared : (at at' : Place → Option ℕ) (p : Place) → at p ≡ None → ((q : Place) → at' q ≡ (if eq p q then None else at q)) → (q : Place) → at' q ≡ at q
  nothing_cleared at at' p bare h q = ⊎_elim
      (λ t. let is : at' q ≡ None = h q ∙ rw t refl in is ∙ sym bare ∙ ap at (exact.only p q t))
      (λ f. h q ∙ rw f refl)
      (cases_Bool (eq p q))

  -- a function of places that was changed at one of them
  module _ {X : Type 0} (old new : Place → X) (p : Place) (x : X) (h : (q : Place) → new q ≡ (if eq p q then x else old q)) where
    pub new_place : new p ≡ x
    new_place = h p ∙ rw (exact.again p) refl

    pub old_place : (q : Place) → p ≢ q → new q ≡ old q
    old_place q n = h q ∙ rw (false_from_ne_true (eq p q) (λ t. n (exact.only p q t))) refl

  module _ (at at' : Place → Option ℕ) (known known' : ℕ → Option Known) (next next' id : ℕ) (y : Option Known) (x : IsIndexed at known next)
      (hk : (i : ℕ) → known' i ≡ (if i == id then y else known i)) (told : IsTold next' id y) (given : next ≤ next') where
    all_told : (i : ℕ) (k : Known) → known' i ≡ Some k → (root < i) × (i < next') × (0 < k.count)
    all_told i k e = ⊎_elim
        (λ s. let t = told k (sym (new_number known known' id y hk) ∙ ap known' (sym s) ∙ e) in (omega (arith, s, t.0), omega (arith, s, t.1), t.2))
        (λ n. let t = x.told i k (sym (old_number known known' id y hk i n) ∙ e) in (t.0, omega (arith, t.1, given), t.2))
        (cases_eq i id)

    -- a node stands at a place, where none stood, and stood nowhere
    pub put : (p : Place) → ((q : Place) → at' q ≡ (if eq p q then Some id else at q)) → place_in y ≡ Some p → at p ≡ None → place_in (known id) ≡ None
        → IsIndexed at' known' next'
    put p ha py bare alone =
        let is_new = new_number known known' id y hk in
        let is_old = old_number known known' id y hk in
        let there = new_place at at' p (Some id) ha in
        let elsewhere = old_place at at' p (Some id) ha in
        record {
          stands = λ q i e. ⊎_elim
              (λ s. let me : id ≡ i = same_Some id i (sym there ∙ ap at' s ∙ e) in
              ap (λ j. place_in (known' j)) (sym me) ∙ ap place_in is_new ∙ py ∙ ap (λ r. Some r) s)
              (λ n. let was = x.stands q i (sym (elsewhere q n) ∙ e) in
              ap place_in (is_old i (λ s. none-some q (sym alone ∙ ap (λ j. place_in (known j)) (sym s) ∙ was))) ∙ was)
              (by_place p q);
          found = λ q i e. ⊎_elim
              (λ s. let same : p ≡ q = same_Some p q (sym py ∙ sym (ap place_in is_new) ∙ ap (λ j. place_in (known' j)) (sym s) ∙ e) in
              ap at' (sym same) ∙ there ∙ ap (λ j. Some j) (sym s))
              (λ n. let was = x.found q i (sym (ap place_in (is_old i n)) ∙ e) in
              elsewhere q (λ s. none-some i (sym bare ∙ ap at s ∙ was)) ∙ was)
              (cases_eq i id);
          told = all_told;
          first = omega (arith, x.first, given);
        }

    -- a node that stood at a place stands nowhere
    pub taken : (p : Place) → ((q : Place) → at' q ≡ (if eq p q then None else at q)) → place_in y ≡ None → at p ≡ Some id → IsIndexed at' known' next'
    taken p ha py here =
        let is_new = new_number known known' id y hk in
        let is_old = old_number known known' id y hk in
        let there = new_place at at' p None ha in
        let elsewhere = old_place at at' p None ha in
        let stood = x.stands p id here in
        record {
          stands = λ q i e. ⊎_elim
              (λ s. absurd (none-some i (sym there ∙ ap at' s ∙ e)))
              (λ n. let was = x.stands q i (sym (elsewhere q n) ∙ e) in
              ap place_in (is_old i (λ s. n (same_Some p q (sym stood ∙ ap (λ j. place_in (known j)) (sym s) ∙ was)))) ∙ was)
              (by_place p q);
          found = λ q i e. ⊎_elim
              (λ s. absurd (none-some q (sym py ∙ sym (ap place_in is_new) ∙ ap (λ j. place_in (known' j)) (sym s) ∙ e)))
              (λ n. let was = x.found q i (sym (ap place_in (is_old i n)) ∙ e) in
              elsewhere q (λ s. n (same_Some i id (sym was ∙ ap at (sym s) ∙ here))) ∙ was)
              (cases_eq i id);
          told = all_told;
          first = omega (arith, x.first, given);
        }

    -- a node stands where it stood
    pub stays : ((q : Place) → at' q ≡ at q) → place_in y ≡ place_in (known id) → IsIndexed at' known' next'
    stays ha py =
        let is_new = new_number known known' id y hk in
        let is_old = old_number known known' id y hk in
        let place : (i : ℕ) → place_in (known' i) ≡ place_in (known i)
        = λ i. ⊎_elim
        (λ s. ap (λ j. place_in (known' j)) s ∙ ap place_in is_new ∙ py ∙ ap (λ j. place_in (known j)) (sym s))
        (λ n. ap place_in (is_old i n))
        (cases_eq i id) in
        record {
          stands = λ q i e. place i ∙ x.stands q i (sym (ha q) ∙ e);
          found = λ q i e. ha q ∙ x.found q i (sym (place i) ∙ e);
          told = all_told;
          first = omega (arith, x.first, given);
        }

    -- a node that isn't known any more stands nowhere, wherever it stood
    pub left : (o : Option Place) → place_in (known id) ≡ o → ((q : Place) → at' q ≡ without_place eq o at q) → place_in y ≡ None → IsIndexed at' known' next'
    left None stood ha py = stays ha (py ∙ sym stood)
    left (Some p) stood ha py = taken p ha py (x.found p id stood)
