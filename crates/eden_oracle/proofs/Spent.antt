-- Numbers of which one more is given and spent.
use Rattle.std.proofs.Common.{◌≡◌, ℕ, ◌<◌, List, [], ◌∷◌, ◌++◌, refl, ◌∙◌, ap, Some, Bool, true, false, cond, eqb, nat_lt}
use Rattle.std.specs.Prelude.{◌||◌}
use Rattle.std.proofs.Math.Path.{fun_ext}
use Rattle.std.proofs.lemmas.Bool.{lt-ltb}
use Rattle.eden_model.specs.Operations.{put}
use Rattle.eden_model.specs.Numbers.{Numbering, Numbers, with_stat}
use Rattle.eden_model.specs.Trees.{Path}
use Rattle.eden_oracle.specs.Numbers.{Kept, is_among, is_spent, numbers_of}
use Rattle.eden_oracle.specs.Rows.{tree_of}

later : (a b c t : Bool) → t ≡ cond b true c → cond a true t ≡ cond b true (cond a true c)
later true true c t e = refl
later true false c t e = refl
later false b c t e = e

among_more : (ms : List ℕ) (m n : ℕ) → is_among (ms ++ m ∷ []) n ≡ cond (eqb n m) true (is_among ms n)
among_more [] m n = refl
among_more (x ∷ ms) m n = later (eqb n x) (eqb n m) (is_among ms n) (is_among (ms ++ m ∷ []) n) (among_more ms m n)

or_under : (b c d : Bool) → (cond b true c || d) ≡ cond b true (c || d)
or_under true c d = refl
or_under false c d = refl

abbrev also : ℕ → (ℕ → Bool) → ℕ → Bool
also m used = λ n. cond (eqb n m) true (used n)

used_more : (given : List (Path × ℕ)) (ms : List ℕ) (next m : ℕ)
    → is_spent (record { given = given; next = next; spent = ms ++ m ∷ [] }) ≡ also m (is_spent (record { given = given; next = next; spent = ms }))
used_more given ms next m = fun_ext (λ n. ap (λ (b : Bool). b || nat_lt n next) (among_more ms m n) ∙ or_under (eqb n m) (is_among ms n) (nat_lt n next))

-- one number more, at that path
pub given_more : (k l : Kept) (p : Path) (n : ℕ) → tree_of l.given ≡ put (tree_of k.given) p (Some n) → l.next ≡ k.next → l.spent ≡ k.spent ++ n ∷ []
    → numbers_of l ≡ with_stat (Some (record { path = p; number = n })) (numbers_of k)
given_more k l p n given next spent =
    let at : Numbering = put (tree_of k.given) p (Some n) in
    let one : (g : Numbering) → (u : ℕ → Bool) → Numbers = λ g u. record { given = g; used = u } in
    ap (λ (g : Numbering). one g (is_spent l)) given
    ∙ ap (λ (m : ℕ). one at (is_spent (record { given = l.given; next = m; spent = l.spent }))) next
    ∙ ap (λ (ms : List ℕ). one at (is_spent (record { given = l.given; next = k.next; spent = ms }))) spent
    ∙ ap (one at) (used_more l.given k.spent k.next n)

or_true : (b c : Bool) → c ≡ true → (b || c) ≡ true
or_true true c e = refl
or_true false c e = e

-- all below the next one are spent
pub below_spent : (k : Kept) (m : ℕ) → m < k.next → is_spent k m ≡ true
below_spent k m below = or_true (is_among k.spent m) (nat_lt m k.next) (lt-ltb _ _ below)
