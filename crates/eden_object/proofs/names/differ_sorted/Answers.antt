use Rattle.std.proofs.Common.{sym, ◌∙◌, refl, arith}
use Rattle.std.proofs.lemmas.List.Sorted.{IsPermutation-sym}
use Rattle.std.proofs.lemmas.Map.Keys.{IsDistinct-IsPermutation}
use Rattle.eden_object.proofs.SortLemmas.{sorted_distinct, bytes_eq-flips, alike_apart}
use Rattle.eden_object.proofs.names.differ_sorted.Goals as goal

pub returns-then-eq : goal.returns-then-eq
returns-then-eq c = (
  (λ e. cc),
  (λ h.
      let apart = alike_apart (λ n. n.now) c.sort_unstable.new.self.items c.pairs.i c.index.result.now c.index-in-pairs.result.now in
      absurd (apart (omega arith) (omega arith) c.index.ensures c.index-in-pairs.ensures (sym c.eq.ensures ∙ c.if-eq.true)
      (IsDistinct-IsPermutation _ (λ m n. bytes_eq-flips m.now n.now) _ _ c.sort_unstable.ensures.permutation h))),
)

pub returns : goal.returns
returns c = (
  (λ e. IsDistinct-IsPermutation _ (λ m n. bytes_eq-flips m.now n.now) _ _ (IsPermutation-sym _ _ c.sort_unstable.ensures.permutation)
      (sorted_distinct (λ n. n.now) c.sort_unstable.new.self.items c.sort_unstable.ensures.sorted (λ k d less. c.pairs.invariant k (omega arith) d))),
  (λ h. refl),
)
