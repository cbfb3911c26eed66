-- What follows from the definitions of the joined queue.
use Rattle.std.proofs.Common.{◌≡◌, ◌≤◌, ◌<◌, ◌+◌, ◌-◌, ◌==◌, ℕ, zero, suc, Bool, true, false, ◌&&◌, ◌||◌, cond, List, [], ◌∷◌, ◌++◌, length, get_or, Option, Some, None, eqb-true, refl, sym, ap, ◌∙◌}
use Rattle.std.proofs.Common.{arith}
use Rattle.std.proofs.Math.ListN.{set, get_or-map}
use Rattle.std.proofs.lemmas.Bool.{eqb-false}
use Rattle.std.proofs.lemmas.List.{get_or-set_same, get_or-set_other}
use Rattle.std.proofs.lemmas.List.Folds.{list_any_at}
use Rattle.std.proofs.lemmas.Map.Made.{AllPairs-from_IsDistinct, is_member-Decides}
use Rattle.eden_model.specs.declared.id.Key.{Key}
use Rattle.eden_model.specs.declared.fault.Cause.{Cause}
use Rattle.eden_import.specs.Queue.{Mark, want_of, wants_key, is_wanted, unqueue_unwanted, put_marks}
use Rattle.eden_import.specs.Laws.{HasIsContains, EachStandsOnce, QueuedAreWanted, WantedStand, OneWants, OneLeaves, AllAreMet, WantersAreMarked, OneForgets}
use Rattle.eden_model.proofs.CallerLemmas.{same_key-Decides}
use Rattle.eden_import.proofs.KeyLemmas.{same_key-refl}

pub has_is_contains : HasIsContains
has_is_contains ks k = is_member-Decides same_key-Decides ks k

pub each_stands_once : EachStandsOnce
each_stands_once q h = AllPairs-from_IsDistinct same_key-Decides (q.flight ++ q.queue) h.once

-- ---- which pass wants a key

wanted_key : (k : Key) (w : Option Key) → wants_key k w ≡ true → w ≡ Some k
wanted_key k None e = cc
wanted_key k (Some j) e = ap Some (sym ((same_key-Decides k j).0 e))

place_of_want : (k : Key) (ws : List (Option Key)) → is_wanted k ws ≡ true → (i : ℕ) × (i < length ws) × (get_or ws i None ≡ Some k)
place_of_want k [] e = cc
place_of_want k (w ∷ ws) e = at (wants_key k w) refl e (place_of_want k ws)
  where
    at : (b : Bool) → wants_key k w ≡ b → (b || is_wanted k ws) ≡ true → (is_wanted k ws ≡ true → (i : ℕ) × (i < length ws) × (get_or ws i None ≡ Some k)) → (i : ℕ) × (i < suc (length ws))
        × (get_or (w ∷ ws) i None ≡ Some k)
    at true t e behind = (0, omega arith, wanted_key k w t)
    at false t e behind = let found = behind e in (suc found.0, omega (arith, found.1), found.2)

pub queued_are_wanted : QueuedAreWanted
queued_are_wanted q k h t =
    let found = place_of_want k q.wants (h.wanted k t) in
    let within : found.0 < length q.wants = found.1 in
    let seats = h.each_pass_wants in
    let back : found.0 + 1 - 1 ≡ found.0 = omega arith in
    (found.0 + 1, (omega arith, omega arith), ap (λ i. get_or q.wants i None) back ∙ found.2)

seat_within : (p n m : ℕ) → 1 ≤ p → p ≤ n → m ≡ n → p - 1 < m
seat_within p n m low high e = omega arith

pub wanted_stand : WantedStand
wanted_stand q k p h s is =
    h.awaited k (list_any_at (wants_key k) q.wants (p - 1) None (seat_within p q.passes (length q.wants) s.0 s.1 h.each_pass_wants) (ap (wants_key k) is ∙ same_key-refl k))

-- ---- the steps, pass by pass

one_seat : (i j : ℕ) → 1 ≤ i → 1 ≤ j → i - 1 ≡ j - 1 → i ≡ j
one_seat i j a b e = omega arith

-- one place of a list with a place for each pass is written
write_one : {X : Type 0} (xs : List X) (n p r : ℕ) (x d : X) → length xs ≡ n → 1 ≤ p → p ≤ n → 1 ≤ r → get_or (set xs (p - 1) x) (r - 1) d ≡ cond (r == p) x (get_or xs (r - 1) d)
write_one {X} xs n p r x d long low high positive = at (r == p) refl
  where
    at : (b : Bool) → (r == p) ≡ b → get_or (set xs (p - 1) x) (r - 1) d ≡ cond b x (get_or xs (r - 1) d)
    at true e =
        let same : r ≡ p = eqb-true r p e in
        ap (λ i. get_or (set xs (p - 1) x) (i - 1) d) same ∙ get_or-set_same xs (p - 1) x d (seat_within p n (length xs) low high long)
    at false e =
        let other : r ≡ p → ⊥ = eqb-false r p e in
        get_or-set_other xs (p - 1) (r - 1) x d (λ s. other (one_seat r p positive low s))

pub one_wants : OneWants
one_wants q k p r h s t = write_one q.wants q.passes p r (Some k) None h.each_pass_wants s.0 s.1 t.0

pub one_leaves : OneLeaves
one_leaves q k p r h s t = at (wants_key k (want_of p q)) (r == p) (write_one q.wants q.passes p r None None h.each_pass_wants s.0 s.1 t.0)
  where
    at : (b e : Bool) → get_or (set q.wants (p - 1) None) (r - 1) None ≡ cond e None (want_of r q)
        → want_of r (cond b (unqueue_unwanted k (set q.wants (p - 1) None) q) q) ≡ cond (e && b) None (want_of r q)
    at true true w = w
    at true false w = w
    at false true w = refl
    at false false w = refl

pub all_are_met : AllAreMet
all_are_met q k c r = (get_or-map (λ w. cond (wants_key k w) None w) q.wants (r - 1) None, refl)

marked_at : (k : Key) (c : Cause) (ws : List (Option Key)) (ms : List (Option Mark)) (i : ℕ) → length ms ≡ length ws → i < length ws
    → get_or (put_marks k c ws ms) i None ≡ cond (wants_key k (get_or ws i None)) (Some (k, c)) (get_or ms i None)
marked_at k c [] ms i e h = absurd (omega arith)
marked_at k c (w ∷ ws) [] i e h = absurd (omega arith)
marked_at k c (w ∷ ws) (m ∷ ms) zero e h = refl
marked_at k c (w ∷ ws) (m ∷ ms) (suc i) e h = marked_at k c ws ms i (omega arith) (omega arith)

pub wanters_are_marked : WantersAreMarked
wanters_are_marked q k c r h t = marked_at k c q.wants q.marks (r - 1) (h.each_pass_has_mark ∙ sym h.each_pass_wants) (seat_within r q.passes (length q.wants) t.0 t.1 h.each_pass_wants)

pub one_forgets : OneForgets
one_forgets q p r h s t = write_one q.marks q.passes p r None None h.each_pass_has_mark s.0 s.1 t.0
