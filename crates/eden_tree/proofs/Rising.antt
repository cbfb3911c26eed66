-- Rows whose names rise, one row at a time.
use Rattle.std.proofs.Common.{◌≡◌, ℕ, zero, suc, ◌+◌, ◌<◌, List, [], ◌∷◌, length, get_or, subst, arith}
use Rattle.std.specs.declared.cmp.Ordering.TheVariants.{Less}
use Rattle.std.specs.Cmp.Lexicographic.{nat_list_cmp_total}
use Rattle.std.specs.List.{AllByRecursion}
use Rattle.std.specs.List.Sorted.{IsStrictlySortedBy}
use Rattle.std.specs.Map.{keys_of}
use Rattle.std.proofs.lemmas.Map.Keys.{sorted_head, sorted_tail, sorted_from_all_adjacent, Less-from_sorted}
use Rattle.eden_model.specs.Trees.{Name}
use Rattle.eden_tree.specs.Directory.{Row}
use Rattle.eden_model.specs.Named.{AreRising}
use Rattle.eden_tree.proofs.NameOrder.{order}

-- the name is below each name of the rows
abbrev pub IsBelow : Name → List (Name × Row) → Type 0
IsBelow n es = AllByRecursion (λ m. order n m ≡ Less) (keys_of es)

pub first_below : (e : Name × Row) (es : List (Name × Row)) → AreRising (λ r. r.0) (e ∷ es) → IsBelow e.0 es
first_below e es p = sorted_head order e.0 (keys_of es) p

pub others : (e : Name × Row) (es : List (Name × Row)) → AreRising (λ r. r.0) (e ∷ es) → AreRising (λ r. r.0) es
others e es p = sorted_tail order e.0 (keys_of es) p

pub none_rise : AreRising (λ (r : Name × Row). r.0) []
none_rise = sorted_from_all_adjacent nat_list_cmp_total [] [] (λ k l. absurd (omega arith))

adjacent : (n m d : Name) (ks : List Name) → order n m ≡ Less → IsStrictlySortedBy order (m ∷ ks) → (k : ℕ) → k + 1 < length (n ∷ m ∷ ks)
    → order (get_or (n ∷ m ∷ ks) k d) (get_or (n ∷ m ∷ ks) (k + 1) d) ≡ Less
adjacent n m d ks h p zero l = h
adjacent n m d ks h p (suc k) l = subst (λ i. order (get_or (m ∷ ks) k d) (get_or (n ∷ m ∷ ks) i d) ≡ Less) {x = suc (k + 1)} {y = suc k + 1} (omega arith)
    (Less-from_sorted order (m ∷ ks) k (k + 1) d p (omega arith) (omega arith))

pub joined : (e : Name × Row) (es : List (Name × Row)) → IsBelow e.0 es → AreRising (λ r. r.0) es → AreRising (λ r. r.0) (e ∷ es)
joined e [] h p = sorted_from_all_adjacent nat_list_cmp_total (e.0 ∷ []) e.0 (λ k l. absurd (omega arith))
joined e (f ∷ es) h p = sorted_from_all_adjacent nat_list_cmp_total (e.0 ∷ f.0 ∷ keys_of es) e.0 (adjacent e.0 f.0 e.0 (keys_of es) h.0 p)
