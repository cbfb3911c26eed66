-- Lemmas on wants.
use Rattle.std.proofs.Common.{◌≡◌, ◌<◌, ◌≤◌, ◌+◌, ℕ, zero, suc, Bool, true, false, not, ◌&&◌, ◌||◌, cond, List, [], ◌∷◌, ◌++◌, length, get_or, take, drop, add-one, Option, Some, None, refl, sym, ap}
use Rattle.std.proofs.Common.{◌∙◌, subst, arith}
use Rattle.std.proofs.Math.ListN.{set}
use Rattle.std.specs.List.{IsDistinct}
use Rattle.std.proofs.lemmas.Map.Made.{length-le_from_is_member}
use Rattle.eden_model.specs.declared.id.Key.{Key}
use Rattle.eden_model.specs.declared.fault.Cause.{Cause}
use Rattle.eden_model.specs.Keys.{same_key}
use Rattle.eden_import.specs.Keys.{has_key}
use Rattle.eden_import.specs.Queue.{Mark, wants_key, is_wanted, end_wants, put_marks}
use Rattle.eden_model.proofs.CallerLemmas.{same_key-Decides}
use Rattle.eden_import.proofs.KeyLemmas.{same_key-equiv}

-- a want for the key in the place of one that was for it or for none
pub is_wanted-set_some : (j k : Key) (ws : List (Option Key)) (i : ℕ) → i < length ws → (wants_key j (get_or ws i None) ≡ true → same_key j k ≡ true)
    → is_wanted j (set ws i (Some k)) ≡ (is_wanted j ws || same_key j k)
is_wanted-set_some j k [] i h old = absurd (omega arith)
is_wanted-set_some j k (w ∷ ws) zero h old = here (wants_key j w) (same_key j k) (is_wanted j ws) old
  where
    here : (a b c : Bool) → (a ≡ true → b ≡ true) → (b || c) ≡ ((a || c) || b)
    here true true c f = refl
    here true false c f = let e = f refl in cc
    here false true true f = refl
    here false true false f = refl
    here false false true f = refl
    here false false false f = refl
is_wanted-set_some j k (w ∷ ws) (suc i) h old = ap (λ b. wants_key j w || b) (is_wanted-set_some j k ws i (omega arith) old) ∙ regroup (wants_key j w) (is_wanted j ws) (same_key j k)
  where
    regroup : (a b c : Bool) → (a || (b || c)) ≡ ((a || b) || c)
    regroup true b c = refl
    regroup false b c = refl

-- no want in the place of one that wasn't for the key
pub is_wanted-set_none : (j : Key) (ws : List (Option Key)) (i : ℕ) → wants_key j (get_or ws i None) ≡ false → is_wanted j (set ws i None) ≡ is_wanted j ws
is_wanted-set_none j [] i other = refl
is_wanted-set_none j (w ∷ ws) zero other = sym (ap (λ b. b || is_wanted j ws) other)
is_wanted-set_none j (w ∷ ws) (suc i) other = ap (λ b. wants_key j w || b) (is_wanted-set_none j ws i other)

-- no want anywhere is for more keys than before
pub is_wanted-set_none_le : (j : Key) (ws : List (Option Key)) (i : ℕ) → is_wanted j (set ws i None) ≡ true → is_wanted j ws ≡ true
is_wanted-set_none_le j [] i h = h
is_wanted-set_none_le j (w ∷ ws) zero h = here (wants_key j w) (is_wanted j ws) h
  where
    here : (a b : Bool) → b ≡ true → (a || b) ≡ true
    here true b e = refl
    here false b e = e
is_wanted-set_none_le j (w ∷ ws) (suc i) h = at (wants_key j w) (is_wanted-set_none_le j ws i) h
  where
    at : (a : Bool) → (is_wanted j (set ws i None) ≡ true → is_wanted j ws ≡ true) → (a || is_wanted j (set ws i None)) ≡ true → (a || is_wanted j ws) ≡ true
    at true f e = refl
    at false f e = f e

-- the wants that are left once those of a key ended
pub is_wanted-end_wants : (j k : Key) (ws : List (Option Key)) → is_wanted j (end_wants k ws) ≡ (is_wanted j ws && not (same_key k j))
is_wanted-end_wants j k [] = refl
is_wanted-end_wants j k (w ∷ ws) = ap (λ b. wants_key j (cond (wants_key k w) None w) || b) (is_wanted-end_wants j k ws) ∙ at w
  where
    tell : (x : Key) (a b c d : Bool) → same_key k x ≡ a → same_key j x ≡ b → same_key k j ≡ d → (wants_key j (cond a None (Some x)) || (c && not d)) ≡ ((b || c) && not d)
    tell x true true true true p q r = refl
    tell x true true false true p q r = refl
    tell x true false true true p q r = refl
    tell x true false false true p q r = refl
    tell x true true c false p q r =
        let e : j ≡ x = (same_key-Decides j x).0 q in
        let f : same_key k j ≡ true = ap (same_key k) e ∙ p in cc
    tell x true false true false p q r = refl
    tell x true false false false p q r = refl
    tell x false true c true p q r =
        let e : j ≡ x = (same_key-Decides j x).0 q in
        let f : same_key k j ≡ false = ap (same_key k) e ∙ p in cc
    tell x false true true false p q r = ap (λ b. b || true) q
    tell x false true false false p q r = ap (λ b. b || false) q
    tell x false false true true p q r = ap (λ b. b || false) q
    tell x false false false true p q r = ap (λ b. b || false) q
    tell x false false true false p q r = ap (λ b. b || true) q
    tell x false false false false p q r = ap (λ b. b || false) q

    at : (v : Option Key) → (wants_key j (cond (wants_key k v) None v) || (is_wanted j ws && not (same_key k j))) ≡ ((wants_key j v || is_wanted j ws) && not (same_key k j))
    at None = refl
    at (Some x) = tell x (same_key k x) (same_key j x) (is_wanted j ws) (same_key k j) refl refl refl

pub length-end_wants : (k : Key) (ws : List (Option Key)) → length (end_wants k ws) ≡ length ws
length-end_wants k [] = refl
length-end_wants k (w ∷ ws) = omega (arith, length-end_wants k ws)

-- ---- the loops

cond-cons : {X : Type 0} (b : Bool) (x : X) (ys zs : List X) → cond b (x ∷ ys) (x ∷ zs) ≡ x ∷ cond b ys zs
cond-cons true x ys zs = refl
cond-cons false x ys zs = refl

cond-head : {X : Type 0} (b : Bool) (x y : X) (zs : List X) → cond b (x ∷ zs) (y ∷ zs) ≡ cond b x y ∷ zs
cond-head true x y zs = refl
cond-head false x y zs = refl

-- the wants of the first i passes ended where they were for the key
abbrev ended : Key → ℕ → List (Option Key) → List (Option Key)
ended k i ws = end_wants k (take i ws) ++ drop i ws

ended_suc : (k : Key) (ws : List (Option Key)) (i : ℕ) → i < length ws → cond (wants_key k (get_or (ended k i ws) i None)) (set (ended k i ws) i None) (ended k i ws) ≡ ended k (suc i) ws
ended_suc k [] i h = absurd (omega arith)
ended_suc k (w ∷ ws) zero h = cond-head (wants_key k w) None w ws
ended_suc k (w ∷ ws) (suc i) h =
    let x = cond (wants_key k w) None w in
    cond-cons (wants_key k (get_or (ended k i ws) i None)) x (set (ended k i ws) i None) (ended k i ws)
    ∙ ap (λ (l : List (Option Key)). x ∷ l) (ended_suc k ws i (omega arith))

-- one more want is looked at
pub ended_more : (k : Key) (ws now : List (Option Key)) (i : ℕ) → i < length ws → now ≡ ended k i ws → cond (wants_key k (get_or now i None)) (set now i None) now ≡ ended k (i + 1) ws
ended_more k ws now i h is =
    let P : List (Option Key) → Type 0 = λ l. cond (wants_key k (get_or l i None)) (set l i None) l ≡ ended k (i + 1) ws in
    subst P (sym is) (rw add-one (ended_suc k ws i h))

-- the first i passes have their new marks
abbrev marked : Key → Cause → ℕ → List (Option Key) → List (Option Mark) → List (Option Mark)
marked k c i ws ms = put_marks k c (take i ws) (take i ms) ++ drop i ms

marked_suc : (k : Key) (c : Cause) (ws : List (Option Key)) (ms : List (Option Mark)) (i : ℕ) → i < length ws → length ms ≡ length ws
    → cond (wants_key k (get_or ws i None)) (set (marked k c i ws ms) i (Some (k, c))) (marked k c i ws ms) ≡ marked k c (suc i) ws ms
marked_suc k c [] ms i h e = absurd (omega arith)
marked_suc k c (w ∷ ws) [] i h e = absurd (omega arith)
marked_suc k c (w ∷ ws) (m ∷ ms) zero h e = cond-head (wants_key k w) (Some (k, c)) m ms
marked_suc k c (w ∷ ws) (m ∷ ms) (suc i) h e =
    let x = cond (wants_key k w) (Some (k, c)) m in
    cond-cons (wants_key k (get_or ws i None)) x (set (marked k c i ws ms) i (Some (k, c))) (marked k c i ws ms)
    ∙ ap (λ (l : List (Option Mark)). x ∷ l) (marked_suc k c ws ms i (omega arith) (omega arith))

pub marked_more : (k : Key) (c : Cause) (ws : List (Option Key)) (ms now : List (Option Mark)) (i : ℕ) → i < length ws → length ms ≡ length ws → now ≡ marked k c i ws ms
    → cond (wants_key k (get_or ws i None)) (set now i (Some (k, c))) now ≡ marked k c (i + 1) ws ms
marked_more k c ws ms now i h e is =
    let P : List (Option Mark) → Type 0 = λ l. cond (wants_key k (get_or ws i None)) (set l i (Some (k, c))) l ≡ marked k c (i + 1) ws ms in
    subst P (sym is) (rw add-one (marked_suc k c ws ms i h e))

-- ---- keys that differ and are all wanted are no more than the wants

wanted_keys : List (Option Key) → List Key
wanted_keys [] = []
wanted_keys (None ∷ ws) = wanted_keys ws
wanted_keys (Some k ∷ ws) = k ∷ wanted_keys ws

has_key-wanted_keys : (k : Key) (ws : List (Option Key)) → has_key k (wanted_keys ws) ≡ is_wanted k ws
unfolding wanted_keys
has_key-wanted_keys k [] = refl
has_key-wanted_keys k (None ∷ ws) = has_key-wanted_keys k ws
has_key-wanted_keys k (Some j ∷ ws) = ap (λ b. same_key k j || b) (has_key-wanted_keys k ws)

length-wanted_keys-le : (ws : List (Option Key)) → length (wanted_keys ws) ≤ length ws
unfolding wanted_keys
length-wanted_keys-le [] = omega arith
length-wanted_keys-le (None ∷ ws) = omega (arith, length-wanted_keys-le ws)
length-wanted_keys-le (Some k ∷ ws) = omega (arith, length-wanted_keys-le ws)

pub length-le_from_wanted : (ks : List Key) (ws : List (Option Key)) → IsDistinct same_key ks → ((k : Key) → has_key k ks ≡ true → is_wanted k ws ≡ true) → length ks ≤ length ws
length-le_from_wanted ks ws h w =
    let below = length-le_from_is_member same_key-equiv ks (wanted_keys ws) h (λ k p. has_key-wanted_keys k ws ∙ w k p) in
    omega (arith, length-wanted_keys-le ws)
