-- Back in the directory above.
use Rattle.std.proofs.Common.{◌≡◌, ◌-◌, ℕ, [], ◌∷◌, ◌++◌, length, take, ap, ◌∙◌, arith, length-append}
use Rattle.std.proofs.Math.Seq.{take-append_seam}
use Rattle.eden_model.specs.Trees.{Name, Path}

pub one_up : (all front : Path) (name : Name) (n : ℕ) → all ≡ front ++ name ∷ [] → length all ≡ n → take (n - 1) all ≡ front
one_up all front name n is len =
    let long = length-append front (name ∷ []) in
    let whole = ap length is in
    let count : n - 1 ≡ length front = omega (arith, whole, len, long) in
    ap (λ (k : ℕ). take k all) count ∙ ap (take (length front)) is ∙ take-append_seam front (name ∷ [])
