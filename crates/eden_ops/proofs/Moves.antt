-- Numbers that go along to another path.
use Rattle.std.proofs.Common.{◌≡◌, ◌++◌, ℕ, Option, Some, None, refl}
use Rattle.eden_model.specs.Numbers.{Numbering}
use Rattle.eden_model.specs.Operations.{move}
use Rattle.eden_model.specs.Paths.{behind_of}
use Rattle.eden_model.specs.Trees.{Path, grafted}

grafted_both : (o : Option Path) (X Y : Numbering) (e f : Option ℕ) → ((r : Path) → X r ≡ Y r) → e ≡ f → grafted o X e ≡ grafted o Y f
grafted_both None X Y e f same is = is
grafted_both (Some r) X Y e f same is = same r

-- the same move of the same numbers
pub move_alike : (S T : Numbering) → ((q : Path) → S q ≡ T q) → (from to r : Path) → move S from to r ≡ move T from to r
move_alike S T same from to r =
    grafted_both (behind_of to r) (λ rest. S (from ++ rest)) (λ rest. T (from ++ rest)) _ _ (λ rest. same (from ++ rest))
    (grafted_both (behind_of from r) (λ rest. None) (λ rest. None) (S r) (T r) (λ rest. refl) (same r))
