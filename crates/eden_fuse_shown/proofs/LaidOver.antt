-- The first bytes of a part with others written into it.
use Rattle.std.proofs.Common.{◌≡◌, ◌<◌, ◌≤◌, ◌+◌, ℕ, List, [], ◌∷◌, ◌++◌, length, take, refl, sym, ap, ◌∙◌, arith}
use Rattle.std.specs.Prelude.{drop, IfOk, Result, Ok, Err}
use Rattle.std.proofs.Math.Seq.{take-append-add}
use Rattle.std.proofs.lemmas.List.{append_assoc, take-append-le}
use Rattle.eden_model.specs.Operations.{resized, written}

pub written_as : (at : ℕ) (b old : List ℕ) → 0 < length b → written at b old ≡ resized at old ++ b ++ drop (at + length b) old
written_as at [] old some = absurd (omega (arith, some))
written_as at (x ∷ b) old some = refl

-- as many as there is room for
pub over_end : (at room count : ℕ) (b old : List ℕ) → length (resized at old) ≡ at → 0 < length b → at + room ≡ count → room ≤ length b
    → resized at old ++ take room b ≡ take count (written at b old)
over_end at room count b old is some fills fits =
    ap (λ (l : List ℕ). resized at old ++ l) (sym (take-append-le room b (drop (at + length b) old) fits))
    ∙ sym (take-append-add (resized at old) (b ++ drop (at + length b) old) room)
    ∙ ap (λ (n : ℕ). take n (resized at old ++ (b ++ drop (at + length b) old))) (ap (λ (n : ℕ). n + room) is ∙ fills)
    ∙ ap (λ (l : List ℕ). take count l) (sym (append_assoc (resized at old) b (drop (at + length b) old)))
    ∙ ap (λ (l : List ℕ). take count l) (sym (written_as at b old some))

pub same_if : {V E : Type 0} (r : Result V E) (items : V → List ℕ) (x y : List ℕ) → x ≡ y → IfOk r (λ v. items v ≡ x) → IfOk r (λ v. items v ≡ y)
same_if (Ok v) items x y same is = is ∙ same
same_if (Err e) items x y same is = tt
