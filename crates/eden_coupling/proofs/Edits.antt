-- One row in the place of another.
use Rattle.std.proofs.Common.{◌≡◌, ◌≢◌, true, false, cond, List, [], ◌∷◌, map, Some, refl, sym, ap, ◌∙◌}
use Rattle.std.specs.Str.{bytes_eq}
use Rattle.std.specs.Option.{option_map}
use Rattle.std.proofs.lemmas.Option.{same_Some}
use Rattle.eden_model.specs.Trees.{Name}
use Rattle.eden_tree.specs.Directory.{Row}
use Rattle.eden_tree.specs.Rows.{find_row, set_row}
use Rattle.eden_tree.proofs.CallerLemmas.{same-≡, same-refl, find_row-set_row, find_row-change_row}

-- the entry of that name is then the new one
pub find_set : (n : Name) (x z : Row) (es : List (Name × Row)) → find_row n es ≡ Some x → find_row n (set_row n z es) ≡ Some z
find_set n x z es h = find_row-set_row n n z x es h ∙ ap (λ b. cond b (Some z) (find_row n es)) (same-refl n)

-- another name's entry is as it was
pub find_other : (m n : Name) (z : Row) (es : List (Name × Row)) → bytes_eq m n ≡ false → find_row m (set_row n z es) ≡ find_row m es
find_other m n z es off = find_row-change_row m n (λ _. z) es ∙ ap (λ b. cond b (option_map (λ _. z) (find_row n es)) (find_row m es)) off

-- a row in the place of one that f takes for the same
pub map_set : {Y : Type 0} (f : Name × Row → Y) (n : Name) (z v : Row) (es : List (Name × Row)) → find_row n es ≡ Some z → f (n, v) ≡ f (n, z) → map f (set_row n v es) ≡ map f es
map_set f n z v [] h same = refl
map_set f n z v (e ∷ es) h same =
    elim (bytes_eq n e.0) as (λ b. bytes_eq n e.0 ≡ b → cond b (Some e.1) (find_row n es) ≡ Some z → map f (cond b ((e.0, v) ∷ es) (e ∷ set_row n v es)) ≡ map f (e ∷ es)) [
      | true ↦ λ s k. ap (λ y. y ∷ map f es)
          (ap (λ m. f (m, v)) (sym (same-≡ n e.0 s)) ∙ same ∙ ap (λ m. f (m, z)) (same-≡ n e.0 s) ∙ ap (λ r. f (e.0, r)) (sym (same_Some e.1 z k)))
      | false ↦ λ s k. ap (λ l. f e ∷ l) (map_set f n z v es k same)
    ] refl h

-- names that the test tells apart
pub differ : (m n : Name) → bytes_eq m n ≡ false → m ≢ n
differ m n s is = let both : false ≡ true = sym s ∙ ap (bytes_eq m) (sym is) ∙ same-refl m in absurd (cc)
