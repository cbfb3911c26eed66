-- The seats of the passes: one is written.
use Rattle.std.proofs.Common.{◌≡◌, ◌≤◌, ◌<◌, ◌+◌, ◌-◌, ◌==◌, ℕ, zero, suc, Bool, true, false, cond, List, [], ◌∷◌, length, get_or, Option, Some, None, IfSome, eqb-true, refl, ap, ◌∙◌, subst, arith}
use Rattle.std.proofs.Math.ListN.{set}
use Rattle.eden_model.specs.declared.request.Request.{Request}
use Rattle.eden_mount.specs.declared.seats.Pending.{Pending}
use Rattle.std.specs.List.{count_by}
use Rattle.std.specs.Option.{is_some}
use Rattle.std.proofs.lemmas.Bool.{eqb-false}
use Rattle.std.proofs.lemmas.List.{get_or-set_same, get_or-set_other}
use Rattle.std.proofs.lemmas.List.Sums.{sum_by-set}
use Rattle.std.proofs.lemmas.Option.{slice_get_read, get_or_from_slice_get}

one_seat : (i j : ℕ) → 1 ≤ i → 1 ≤ j → i - 1 ≡ j - 1 → i ≡ j
one_seat i j a b e = omega arith

within : (p n m : ℕ) → 1 ≤ p → p ≤ n → m ≡ n → p - 1 < m
within p n m low high e = omega arith

pub write_one : {X : Type 0} (xs : List X) (n p r : ℕ) (x d : X) → length xs ≡ n → 1 ≤ p → p ≤ n → 1 ≤ r → get_or (set xs (p - 1) x) (r - 1) d ≡ cond (r == p) x (get_or xs (r - 1) d)
write_one {X} xs n p r x d long low high positive = at (r == p) refl
  where
    at : (b : Bool) → (r == p) ≡ b → get_or (set xs (p - 1) x) (r - 1) d ≡ cond b x (get_or xs (r - 1) d)
    at true e =
        let same : r ≡ p = eqb-true r p e in
        ap (λ i. get_or (set xs (p - 1) x) (i - 1) d) same ∙ get_or-set_same xs (p - 1) x d (within p n (length xs) low high long)
    at false e =
        let other : r ≡ p → ⊥ = eqb-false r p e in
        get_or-set_other xs (p - 1) (r - 1) x d (λ s. other (one_seat r p positive low s))

-- ---- how many are taken

pub within_if_some : {X : Type 0} (xs : List (Option X)) (i : ℕ) (x : X) → get_or xs i None ≡ Some x → i < length xs
within_if_some [] i x e = absurd (cc e)
within_if_some (y ∷ xs) zero x e = omega arith
within_if_some (y ∷ xs) (suc i) x e = omega (arith, within_if_some xs i x e)

pub count_taken : {X : Type 0} (xs : List (Option X)) (i : ℕ) (x : X) → i < length xs → get_or xs i None ≡ None → count_by is_some (set xs i (Some x)) ≡ count_by is_some xs + 1
count_taken {X} xs i x h e =
    let f : Option X → ℕ = λ o. cond (is_some o) 1 0 in
    let moved = sum_by-set f xs i (Some x) None h in
    let none : f (get_or xs i None) ≡ 0 = ap f e in
    omega (arith, moved, none)

pub count_freed : {X : Type 0} (xs : List (Option X)) (i : ℕ) (x : X) → get_or xs i None ≡ Some x → count_by is_some (set xs i None) + 1 ≡ count_by is_some xs
count_freed {X} xs i x e =
    let f : Option X → ℕ = λ o. cond (is_some o) 1 0 in
    let moved = sum_by-set f xs i None None (within_if_some xs i x e) in
    let one : f (get_or xs i None) ≡ 1 = ap f e in
    omega (arith, moved, one)

-- ---- what was read of a seat

pub seat_read : {X : Type 0} (xs : List (Option X)) (i : ℕ) (o : Option X) → i < length xs → o ≡ get_or xs i o → get_or xs i None ≡ o
seat_read xs i o h e = get_or_from_slice_get xs i o None (slice_get_read xs (length xs) i o refl h e)

pub seat_taken : {X : Type 0} (xs : List (Option X)) (i : ℕ) (o : Option X) → i < length xs → o ≡ get_or xs i o → is_some o ≡ true → (x : X) × (get_or xs i None ≡ Some x)
seat_taken xs i None h e t = absurd (cc t)
seat_taken xs i (Some x) h e t = (x, seat_read xs i (Some x) h e)

pub seat_free : {X : Type 0} (xs : List (Option X)) (i : ℕ) (o : Option X) → i < length xs → o ≡ get_or xs i o → is_some o ≡ false → get_or xs i None ≡ None
seat_free xs i None h e t = seat_read xs i None h e
seat_free xs i (Some x) h e t = absurd (cc t)

-- what was read of a request that is there
pub asked_there : (xs ys : List (Option Pending)) (i : ℕ) (s : Pending) (q : Request) → ys ≡ xs → get_or xs i None ≡ Some s → IfSome (get_or ys i None) (λ p. q ≡ p.request) → q ≡ s.request
asked_there xs ys i s q same at is =
    let Is : Option Pending → Type 0 = λ o. IfSome o (λ p. q ≡ p.request) in
    subst Is at (subst (λ (zs : List (Option Pending)). Is (get_or zs i None)) same is)
