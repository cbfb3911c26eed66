-- Each step keeps what every queue keeps.
use Rattle.std.proofs.Common.{◌≡◌, ◌≤◌, ◌<◌, ◌-◌, ℕ, zero, suc, Bool, true, false, not, ◌&&◌, ◌||◌, cond, List, [], ◌∷◌, ◌++◌, length, replicate, Option, Some, None, nat_lt, slice_get, length-append}
use Rattle.std.proofs.Common.{append_assoc, ltb-true, lt-ltb, refl, sym, ap, ◌∙◌, subst, ⊎_elim, arith}
use Rattle.std.proofs.Math.ListN.{set, length-set}
use Rattle.std.specs.List.{IsDistinct}
use Rattle.std.specs.Option.{IfSome}
use Rattle.std.proofs.lemmas.Bool.{cases_Bool, or_cases, or_left, or_right, and_parts, and_from, not-true, not_from_false, both_ways}
use Rattle.std.proofs.lemmas.Map.Keys.{IsDistinct-push, IsDistinct-tail}
use Rattle.eden_model.specs.declared.id.Key.{Key}
use Rattle.eden_model.specs.Keys.{same_key}
use Rattle.eden_import.specs.Keys.{has_key, without_key}
use Rattle.eden_import.specs.Queue.{Queue, Mark, IsQueue, IsPassCount, IsFlightCount, IsPass, WantsNoOther, want_of, stands, wants_key, is_wanted, empty_queue}
use Rattle.eden_import.specs.Queue.{after_want, unqueue_unwanted, after_take}
use Rattle.eden_import.specs.Queue.{end_wants, after_done}
use Rattle.eden_model.proofs.CallerLemmas.{same_key-Decides}
use Rattle.eden_import.proofs.KeyLemmas.{same_key-equiv, has_key-append, has_key-without, without_absent, length-without-le, apart, distinct_without_left, distinct_without_right}
use Rattle.eden_import.proofs.WantLemmas.{is_wanted-set_some, is_wanted-set_none, is_wanted-set_none_le, is_wanted-end_wants, length-end_wants, length-le_from_wanted}

-- ---- how many keys are queued

distinct_behind : (xs ys : List Key) → IsDistinct same_key (xs ++ ys) → IsDistinct same_key ys
distinct_behind [] ys h = h
distinct_behind (x ∷ xs) ys h = distinct_behind xs ys (IsDistinct-tail same_key x (xs ++ ys) h)

-- no more keys are queued than there are passes
pub length-queue-le : (q : Queue) → IsQueue q → length q.queue ≤ q.passes
length-queue-le q h =
    let few = length-le_from_wanted q.queue q.wants (distinct_behind q.flight q.queue h.once) h.wanted in
    let seats = h.each_pass_wants in
    omega arith

-- ---- no step

length-replicate-none : {X : Type 0} (n : ℕ) (x : X) → length (replicate n x) ≡ n
length-replicate-none zero x = refl
length-replicate-none (suc n) x = omega (arith, length-replicate-none n x)

not_wanted : (k : Key) (n : ℕ) → is_wanted k (replicate n None) ≡ false
not_wanted k zero = refl
not_wanted k (suc n) = not_wanted k n

pub empty_keeps : (n m : ℕ) → IsPassCount n → IsFlightCount m → IsQueue (empty_queue n m)
unfolding IsDistinct
empty_keeps n m passes flights = record {
  some_passes = passes;
  some_flights = flights;
  once = tt;
  wanted = λ k h. cc;
  awaited = λ k h. absurd (both_ways (is_wanted k (replicate n None)) (not_wanted k n) h);
  within_flights = omega arith;
  each_pass_wants = length-replicate-none n None;
  each_pass_has_mark = length-replicate-none n None;
}

-- another queue and other wants, beside the same flight
requeue : (q : Queue) (ks : List Key) (ws : List (Option Key)) → IsQueue q → length ws ≡ q.passes → IsDistinct same_key (q.flight ++ ks)
    → ((j : Key) → has_key j ks ≡ true → is_wanted j ws ≡ true) → ((j : Key) → is_wanted j ws ≡ true → (has_key j q.flight || has_key j ks) ≡ true)
    → IsQueue (record q { queue = ks; wants = ws })
requeue q ks ws h seats once wanted awaited = record {
  some_passes = h.some_passes;
  some_flights = h.some_flights;
  once = once;
  wanted = wanted;
  awaited = awaited;
  within_flights = h.within_flights;
  each_pass_wants = seats;
  each_pass_has_mark = h.each_pass_has_mark;
}

-- ---- `want`

-- a pass that wants no other key's old want
old_want : (j k : Key) (o : Option Key) → IfSome o (λ x. x ≡ k) → wants_key j o ≡ true → same_key j k ≡ true
old_want j k None alone t = cc
old_want j k (Some x) alone t = ap (same_key j) (sym alone) ∙ t

place : (p n m : ℕ) → 1 ≤ p → p ≤ n → m ≡ n → p - 1 < m
place p n m low high e = omega arith

joins : (a b c : Bool) → (a || b) ≡ true → (a || (b || c)) ≡ true
joins true b c h = refl
joins false true c h = refl
joins false false c h = cc

joins_last : (a b c : Bool) → c ≡ true → (a || (b || (c || false))) ≡ true
joins_last true b c h = refl
joins_last false true c h = refl
joins_last false false c h = ap (λ x. x || false) h

or_false : (a : Bool) → (a || false) ≡ true → a ≡ true
or_false true h = refl
or_false false h = h

pub want_keeps : (k : Key) (p : ℕ) (q : Queue) → IsQueue q → IsPass p q → WantsNoOther k p q → IsQueue (after_want k p q)
want_keeps k p q h s alone = at (stands k q) refl
  where
    now : (j : Key) → is_wanted j (set q.wants (p - 1) (Some k)) ≡ (is_wanted j q.wants || same_key j k)
    now j = is_wanted-set_some j k q.wants (p - 1) (place p q.passes (length q.wants) s.0 s.1 h.each_pass_wants) (old_want j k (want_of p q) alone)

    seats : length (set q.wants (p - 1) (Some k)) ≡ q.passes
    seats = length-set q.wants (p - 1) (Some k) ∙ h.each_pass_wants

    at : (b : Bool) → stands k q ≡ b → IsQueue (record q { queue = cond b q.queue (q.queue ++ k ∷ []); wants = set q.wants (p - 1) (Some k) })
    at true e =
        requeue q q.queue (set q.wants (p - 1) (Some k)) h seats h.once
        (λ j m. now j ∙ or_left (is_wanted j q.wants) (same_key j k) (h.wanted j m))
        (λ j m. ⊎_elim (h.awaited j) (λ same. ap (λ x. stands x q) ((same_key-Decides j k).0 same) ∙ e) (or_cases (is_wanted j q.wants) (same_key j k) (sym (now j) ∙ m)))
    at false e =
        requeue q (q.queue ++ k ∷ []) (set q.wants (p - 1) (Some k)) h seats
        (subst (IsDistinct same_key) (append_assoc q.flight q.queue (k ∷ [])) (IsDistinct-push same_key-equiv (q.flight ++ q.queue) k h.once (has_key-append k q.flight q.queue ∙ e)))
        (λ j m. now j
        ∙ ⊎_elim
        (λ a. or_left (is_wanted j q.wants) (same_key j k) (h.wanted j a))
        (λ b. or_right (is_wanted j q.wants) (same_key j k) (or_false (same_key j k) b))
        (or_cases (has_key j q.queue) (same_key j k || false) (sym (has_key-append j q.queue (k ∷ [])) ∙ m)))
        (λ j m. ap (λ b. has_key j q.flight || b) (has_key-append j q.queue (k ∷ []))
        ∙ ⊎_elim
        (λ a. joins (has_key j q.flight) (has_key j q.queue) (same_key j k || false) (h.awaited j a))
        (λ b. joins_last (has_key j q.flight) (has_key j q.queue) (same_key j k) b)
        (or_cases (is_wanted j q.wants) (same_key j k) (sym (now j) ∙ m)))

-- the same, by what was found of the key
pub want_joined : (k : Key) (p : ℕ) (q : Queue) → IsQueue q → IsPass p q → WantsNoOther k p q → stands k q ≡ true → IsQueue (record q { wants = set q.wants (p - 1) (Some k) })
want_joined k p q h s alone e =
    let P : Bool → Type 0 = λ b. IsQueue (record q { queue = cond b q.queue (q.queue ++ k ∷ []); wants = set q.wants (p - 1) (Some k) }) in
    subst P e (want_keeps k p q h s alone)

pub want_queued : (k : Key) (p : ℕ) (q : Queue) (ks : List Key) → IsQueue q → IsPass p q → WantsNoOther k p q → stands k q ≡ false → ks ≡ q.queue ++ k ∷ []
    → IsQueue (record q { queue = ks; wants = set q.wants (p - 1) (Some k) })
want_queued k p q ks h s alone e is =
    let P : Bool → Type 0 = λ b. IsQueue (record q { queue = cond b q.queue (q.queue ++ k ∷ []); wants = set q.wants (p - 1) (Some k) }) in
    let Q : List Key → Type 0 = λ l. IsQueue (record q { queue = l; wants = set q.wants (p - 1) (Some k) }) in
    subst Q (sym is) (subst P e (want_keeps k p q h s alone))

-- so there is room in the queue for one more key
pub want_room : (k : Key) (p : ℕ) (q : Queue) → IsQueue q → IsPass p q → WantsNoOther k p q → stands k q ≡ false → length q.queue < q.passes
want_room k p q h s alone e =
    let new : Queue = record q { queue = q.queue ++ k ∷ []; wants = set q.wants (p - 1) (Some k) } in
    let few = length-queue-le new (want_queued k p q (q.queue ++ k ∷ []) h s alone e refl) in
    omega (arith, length-append q.queue (k ∷ []), few)

-- ---- `leave`

-- a want for the key is for no other
other_want : (j k : Key) (o : Option Key) → wants_key k o ≡ true → same_key k j ≡ false → wants_key j o ≡ false
other_want j k None t e = refl
other_want j k (Some x) t e =
    let same : k ≡ x = (same_key-Decides k x).0 t in
    ap (same_key j) (sym same) ∙ same_key-equiv.symm j k ∙ e

kept_awaited : (f b s : Bool) → (f || b) ≡ true → s ≡ false → (f || (b && not s)) ≡ true
kept_awaited true b s h e = refl
kept_awaited false true s h e = ap (λ x. not x) e
kept_awaited false false s h e = cc

kept_awaited_left : (f b s : Bool) → (f || b) ≡ true → s ≡ false → ((f && not s) || b) ≡ true
kept_awaited_left true b s h e = ap (λ x. not x || b) e
kept_awaited_left false b s h e = h

-- a queued key isn't in flight
pub not_in_flight : (k : Key) (q : Queue) → IsQueue q → has_key k q.queue ≡ true → has_key k q.flight ≡ false
not_in_flight k q h p = ⊎_elim (λ t. absurd (both_ways (has_key k q.queue) (apart k q.flight q.queue h.once t) p)) (λ f. f) (cases_Bool (has_key k q.flight))

without_keeps_once : (k : Key) (q : Queue) → IsQueue q → IsDistinct same_key (q.flight ++ without_key k q.queue)
without_keeps_once k q h =
    let P : List Key → Type 0 = λ l. IsDistinct same_key (q.flight ++ l) in
    ⊎_elim
    (λ t. distinct_without_right k q.flight q.queue h.once (not_in_flight k q h t))
    (λ f. subst P (sym (without_absent k q.queue f)) h.once)
    (cases_Bool (has_key k q.queue))

unwant_keeps : (k : Key) (p : ℕ) (q : Queue) → IsQueue q → wants_key k (want_of p q) ≡ true → IsQueue (unqueue_unwanted k (set q.wants (p - 1) None) q)
unwant_keeps k p q h t = at (is_wanted k (set q.wants (p - 1) None)) refl
  where
    others : (j : Key) → same_key k j ≡ false → is_wanted j (set q.wants (p - 1) None) ≡ is_wanted j q.wants
    others j e = is_wanted-set_none j q.wants (p - 1) (other_want j k (want_of p q) t e)

    seats : length (set q.wants (p - 1) None) ≡ q.passes
    seats = length-set q.wants (p - 1) None ∙ h.each_pass_wants

    at : (b : Bool) → is_wanted k (set q.wants (p - 1) None) ≡ b → IsQueue (record q { queue = cond b q.queue (without_key k q.queue); wants = set q.wants (p - 1) None })
    at true e =
        requeue q q.queue (set q.wants (p - 1) None) h seats h.once
        (λ j m. ⊎_elim (λ same. ap (λ x. is_wanted x (set q.wants (p - 1) None)) (sym ((same_key-Decides k j).0 same)) ∙ e) (λ other. others j other ∙ h.wanted j m) (cases_Bool (same_key k j)))
        (λ j m. h.awaited j (is_wanted-set_none_le j q.wants (p - 1) m))
    at false e =
        requeue q (without_key k q.queue) (set q.wants (p - 1) None) h seats (without_keeps_once k q h)
        (λ j m.
        let parts = and_parts (has_key j q.queue) (not (same_key k j)) (sym (has_key-without j k q.queue) ∙ m) in
        others j (not-true (same_key k j) parts.1) ∙ h.wanted j parts.0)
        (λ j m. ap (λ b. has_key j q.flight || b) (has_key-without j k q.queue)
        ∙ kept_awaited (has_key j q.flight) (has_key j q.queue) (same_key k j) (h.awaited j (is_wanted-set_none_le j q.wants (p - 1) m))
        (⊎_elim
        (λ same. absurd (both_ways (is_wanted k (set q.wants (p - 1) None)) e (ap (λ x. is_wanted x (set q.wants (p - 1) None)) ((same_key-Decides k j).0 same) ∙ m)))
        (λ other. other)
        (cases_Bool (same_key k j))))

-- the same, by whether another pass wants the key
pub leave_wanted : (k : Key) (p : ℕ) (q : Queue) → IsQueue q → wants_key k (want_of p q) ≡ true → is_wanted k (set q.wants (p - 1) None) ≡ true
    → IsQueue (record q { wants = set q.wants (p - 1) None })
leave_wanted k p q h t e =
    let P : Bool → Type 0 = λ b. IsQueue (record q { queue = cond b q.queue (without_key k q.queue); wants = set q.wants (p - 1) None }) in
    subst P e (unwant_keeps k p q h t)

pub leave_dropped : (k : Key) (p : ℕ) (q : Queue) (ks : List Key) → IsQueue q → wants_key k (want_of p q) ≡ true → is_wanted k (set q.wants (p - 1) None) ≡ false → ks ≡ without_key k q.queue
    → IsQueue (record q { queue = ks; wants = set q.wants (p - 1) None })
leave_dropped k p q ks h t e is =
    let P : Bool → Type 0 = λ b. IsQueue (record q { queue = cond b q.queue (without_key k q.queue); wants = set q.wants (p - 1) None }) in
    let Q : List Key → Type 0 = λ l. IsQueue (record q { queue = l; wants = set q.wants (p - 1) None }) in
    subst Q (sym is) (subst P e (unwant_keeps k p q h t))

-- ---- `take`

moved : (a b c : Bool) → (a || (b || c)) ≡ true → ((a || (b || false)) || c) ≡ true
moved true b c h = refl
moved false true c h = refl
moved false false c h = h

take_fields : (ks fs : List Key) (ws : List (Option Key)) (ms : List (Option Mark)) (n m : ℕ) (b : Bool) → nat_lt (length fs) m ≡ b
    → IsQueue (record { queue = ks; flight = fs; wants = ws; marks = ms; passes = n; flights = m })
    → IsQueue (after_take (cond b (slice_get ks 0) None) (record { queue = ks; flight = fs; wants = ws; marks = ms; passes = n; flights = m }))
take_fields ks fs ws ms n m false e h = h
take_fields [] fs ws ms n m true e h = h
take_fields (k ∷ ks) fs ws ms n m true e h = record {
  some_passes = h.some_passes;
  some_flights = h.some_flights;
  once = subst (IsDistinct same_key) (sym (append_assoc fs (k ∷ []) ks)) h.once;
  wanted = λ j p. h.wanted j (or_right (same_key j k) (has_key j ks) p);
  awaited = λ j p. ap (λ b. b || has_key j ks) (has_key-append j fs (k ∷ [])) ∙ moved (has_key j fs) (same_key j k) (has_key j ks) (h.awaited j p);
  within_flights = omega (arith, length-append fs (k ∷ []), ltb-true (length fs) m e);
  each_pass_wants = h.each_pass_wants;
  each_pass_has_mark = h.each_pass_has_mark;
}

-- a key is taken
pub take_moves : (k : Key) (rest now : List Key) (q : Queue) → IsQueue q → length q.flight < q.flights → q.queue ≡ k ∷ rest → now ≡ q.flight ++ k ∷ []
    → IsQueue (record q { queue = rest; flight = now })
take_moves k rest now q h few is moved =
    let Q : List Key → Type 0 = λ l. IsQueue (record q { queue = l }) in
    let P : List Key → Type 0 = λ l. IsQueue (record q { queue = rest; flight = l }) in
    let old : IsQueue (record q { queue = k ∷ rest }) = subst Q is h in
    subst P (sym moved) (take_fields (k ∷ rest) q.flight q.wants q.marks q.passes q.flights true (lt-ltb (length q.flight) q.flights few) old)

-- ---- `done`

pub land_keeps : (k : Key) (q : Queue) → IsQueue q → has_key k q.flight ≡ true → IsQueue (after_done k q)
land_keeps k q h t = record {
  some_passes = h.some_passes;
  some_flights = h.some_flights;
  once = distinct_without_left k q.flight q.queue h.once absent;
  wanted = λ j m.
      is_wanted-end_wants j k q.wants
      ∙ and_from (is_wanted j q.wants) (not (same_key k j)) (h.wanted j m)
      (not_from_false (same_key k j)
      (⊎_elim (λ same. absurd (both_ways (has_key k q.queue) absent (ap (λ x. has_key x q.queue) ((same_key-Decides k j).0 same) ∙ m))) (λ other. other) (cases_Bool (same_key k j))));
  awaited = λ j m.
      let parts = and_parts (is_wanted j q.wants) (not (same_key k j)) (sym (is_wanted-end_wants j k q.wants) ∙ m) in
      ap (λ b. b || has_key j q.queue) (has_key-without j k q.flight)
      ∙ kept_awaited_left (has_key j q.flight) (has_key j q.queue) (same_key k j) (h.awaited j parts.0) (not-true (same_key k j) parts.1);
  within_flights = let few = h.within_flights in omega (arith, length-without-le k q.flight);
  each_pass_wants = length-end_wants k q.wants ∙ h.each_pass_wants;
  each_pass_has_mark = h.each_pass_has_mark;
}
  where
    absent : has_key k q.queue ≡ false
    absent = apart k q.flight q.queue h.once t

pub land_drops : (k : Key) (q : Queue) (fs : List Key) (ws : List (Option Key)) → IsQueue q → has_key k q.flight ≡ true → fs ≡ without_key k q.flight → ws ≡ end_wants k q.wants
    → IsQueue (record q { flight = fs; wants = ws })
land_drops k q fs ws h t is ends =
    let P : List Key → Type 0 = λ l. IsQueue (record q { flight = l; wants = ws }) in
    let Q : List (Option Key) → Type 0 = λ l. IsQueue (record q { flight = without_key k q.flight; wants = l }) in
    subst P (sym is) (subst Q (sym ends) (land_keeps k q h t))
