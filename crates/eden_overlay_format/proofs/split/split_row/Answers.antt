use Rattle.std.proofs.Common.{◌≡◌, ℕ, ◌+◌, ◌++◌, List, ◌∷◌, length, take, drop, get_or, subst, sym, ap, ◌∙◌, arith}
use Rattle.eden_overlay_format.proofs.Passing.{named_behind_id, named, taken, fits}
use Rattle.eden_overlay_format.proofs.split.split_row.Goals.{then-rows-eq-OBJECT_CODE, else-rows-eq-OBJECT_CODE}
use Rattle.eden_overlay_format.proofs.split.split_row.Goals as goal

pub split_at-requires-2 : goal.split_at-requires-2
split_at-requires-2 c =
    let rows : List ℕ = c.args.rows.now in
    let place : ℕ = c.if-rows-eq-OBJECT_CODE.place in
    let e = c.requires.entry in
    let rest : List ℕ = c.requires.rest in
    let good = c.requires.storable in
    let is = c.requires.starts in
    let at : drop place rows ≡ length e.name ∷ (e.name ++ rest) = elim c.if-rows-eq-OBJECT_CODE.branch [
      | then-rows-eq-OBJECT_CODE w ↦ subst (λ (k : ℕ). drop k rows ≡ length e.name ∷ (e.name ++ rest)) (sym w.place-is) (named_behind_id rows e rest good is w.if-rows-eq-OBJECT_CODE.true)
      | else-rows-eq-OBJECT_CODE w ↦ subst (λ (k : ℕ). drop k rows ≡ length e.name ∷ (e.name ++ rest)) (sym w.place-is) (named rows e rest good is w.if-rows-eq-OBJECT_CODE.false)
    ] in
    omega (arith, fits rows e rest good is place at, c.from.ensures, ap length c.split_at.ensures.back)

pub returns : goal.returns
returns c = λ e rest good is.
    let rows : List ℕ = c.args.rows.now in
    let place : ℕ = c.if-rows-eq-OBJECT_CODE.place in
    let behind : c.split_at.result.1.now ≡ drop (place + 1) rows = c.split_at.ensures.back in
    let at : drop place rows ≡ length e.name ∷ (e.name ++ rest) = elim c.if-rows-eq-OBJECT_CODE.branch [
      | then-rows-eq-OBJECT_CODE w ↦ subst (λ (k : ℕ). drop k rows ≡ length e.name ∷ (e.name ++ rest)) (sym w.place-is) (named_behind_id rows e rest good is w.if-rows-eq-OBJECT_CODE.true)
      | else-rows-eq-OBJECT_CODE w ↦ subst (λ (k : ℕ). drop k rows ≡ length e.name ∷ (e.name ++ rest)) (sym w.place-is) (named rows e rest good is w.if-rows-eq-OBJECT_CODE.false)
    ] in
    let all = taken rows e rest good is place at in (
      c.split_at-2.ensures.front ∙ ap (λ (k : ℕ). take k c.split_at.result.1.now) c.from.ensures ∙ ap (take (get_or rows place 0)) behind ∙ all.0,
      c.split_at-2.ensures.back ∙ ap (λ (k : ℕ). drop k c.split_at.result.1.now) c.from.ensures ∙ ap (drop (get_or rows place 0)) behind ∙ all.1,
    )
