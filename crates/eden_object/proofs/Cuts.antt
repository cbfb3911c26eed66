-- Lists that are cut at a separator.
use Rattle.std.proofs.Common.{◌≡◌, ◌≢◌, ℕ, ◌+◌, ◌-◌, ◌<◌, List, [], ◌∷◌, ◌++◌, length, take, drop, get_or, sym, ap, ◌∙◌, subst, refl, arith}
use Rattle.std.specs.List.{AllByRecursion}
use Rattle.std.proofs.lemmas.List.{length-take-le, take_more, drop_more, take_rest, take-append-drop}

-- no such element among them
abbrev pub Lacks : ℕ → List ℕ → Type 0
Lacks c xs = AllByRecursion (λ b. b ≢ c) xs

-- what is cut at the first separator is cut one way
pub one_cut : (c : ℕ) (xs ys us vs : List ℕ) → Lacks c xs → Lacks c us → xs ++ c ∷ ys ≡ us ++ c ∷ vs → (xs ≡ us) × (ys ≡ vs)
one_cut c [] ys [] vs p q h = (refl, cc)
one_cut c [] ys (u ∷ us) vs p q h = absurd (q.0 cc)
one_cut c (x ∷ xs) ys [] vs p q h = absurd (p.0 cc)
one_cut c (x ∷ xs) ys (u ∷ us) vs p q h =
    let rest = one_cut c xs ys us vs p.1 q.1 cc in
    let same = rest.0 in
    (cc, rest.1)

-- what lacks it has no cut
pub no_cut : (c : ℕ) (bytes xs ys : List ℕ) → Lacks c bytes → bytes ≡ xs ++ c ∷ ys → ⊥
no_cut c [] [] ys p h = cc
no_cut c [] (x ∷ xs) ys p h = cc
no_cut c (b ∷ bytes) [] ys p h = p.0 cc
no_cut c (b ∷ bytes) (x ∷ xs) ys p h = no_cut c bytes xs ys p.1 cc

-- lists of one length before two rests
pub one_front : (xs ys us vs : List ℕ) → length xs ≡ length us → xs ++ ys ≡ us ++ vs → (xs ≡ us) × (ys ≡ vs)
one_front [] ys [] vs n h = (refl, h)
one_front [] ys (u ∷ us) vs n h = absurd (omega arith)
one_front (x ∷ xs) ys [] vs n h = absurd (omega arith)
one_front (x ∷ xs) ys (u ∷ us) vs n h =
    let rest = one_front xs ys us vs (omega arith) cc in
    let same = rest.0 in
    (cc, rest.1)

-- one element more
pub Lacks-push : (c : ℕ) (xs : List ℕ) (x : ℕ) → Lacks c xs → x ≢ c → Lacks c (xs ++ x ∷ [])
Lacks-push c [] x p n = (n, tt)
Lacks-push c (y ∷ xs) x p n = (p.0, Lacks-push c xs x p.1 n)

pub Lacks-take_more : (c : ℕ) (xs : List ℕ) (i : ℕ) → i < length xs → get_or xs i 0 ≢ c → Lacks c (take i xs) → Lacks c (take (i + 1) xs)
Lacks-take_more c xs i h n p = subst (Lacks c) (sym (take_more xs i 0 h)) (Lacks-push c (take i xs) (get_or xs i 0) p n)

-- the list is cut at that place
pub cut_here : (c : ℕ) (xs : List ℕ) (i : ℕ) → i < length xs → get_or xs i 0 ≡ c → xs ≡ take i xs ++ c ∷ take (length xs - (i + 1)) (drop (i + 1) xs)
cut_here c xs i h e =
    let rest = drop_more xs i 0 h in
    let all = take_rest xs (i + 1) in
    let tail : drop i xs ≡ c ∷ take (length xs - (i + 1)) (drop (i + 1) xs) = cc in
    sym (take-append-drop i xs) ∙ ap (λ r. take i xs ++ r) tail

pub cut_after : (n : ℕ) (xs front rest : List ℕ) → front ≡ take n xs → rest ≡ drop n xs → length rest + n ≡ length xs
    → (length front ≡ n) × (xs ≡ front ++ rest)
cut_after n xs front rest p q h = (ap length p ∙ length-take-le n xs (omega arith), sym (take-append-drop n xs) ∙ ap (λ t. t ++ drop n xs) (sym p) ∙ ap (λ t. front ++ t) (sym q))
