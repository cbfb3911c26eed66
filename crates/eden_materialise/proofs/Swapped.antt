-- Two changes of a directory's rows, in either order.
use Rattle.std.proofs.Common.{◌≡◌, true, false, cond, List, [], ◌∷◌, map, Option, Some, None, refl, sym, ap, ◌∙◌}
use Rattle.std.specs.declared.cmp.Ordering.{Ordering}
use Rattle.std.specs.declared.cmp.Ordering.TheVariants.{Less, Equal, Greater}
use Rattle.std.specs.Cmp.Lexicographic.{nat_list_cmp_total}
use Rattle.std.specs.Map.{keys_of}
use Rattle.std.specs.Ordering.{is_lt}
use Rattle.std.specs.Str.{bytes_eq}
use Rattle.std.specs.Option.{option_map}
use Rattle.std.proofs.lemmas.Bool.{false≢true}
use Rattle.std.proofs.lemmas.Map.Keys.{sorted_head, sorted_tail}
use Rattle.eden_model.specs.Trees.{Name}
use Rattle.eden_model.specs.Named.{AreRising}
use Rattle.eden_model.specs.Operations.{name_lt}
use Rattle.eden_tree.specs.Directory.{Row}
use Rattle.eden_tree.specs.Rows.{find_row, put_row, drop_row, change_row}
use Rattle.eden_tree.proofs.CallerLemmas.{order, same-≡, same-refl, same-sym, find_row-change_row, find_row-drop_row, change_row-absent}
use Rattle.eden_coupling.specs.Listings.{stored_entry}
use Rattle.eden_coupling.specs.Changing.{rows_with, placed}
use Rattle.eden_coupling.proofs.CallerLemmas.{gone_after}

-- two names of one row are one
both_there : (a n m : Name) → bytes_eq a n ≡ false → bytes_eq a m ≡ true → bytes_eq n m ≡ true → ⊥
both_there a n m off one other = false≢true (sym off ∙ ap (bytes_eq a) (same-≡ n m other ∙ sym (same-≡ a m one)) ∙ same-refl a)

module _ (a n : Name) (k j : Row → Row) (off : bytes_eq a n ≡ false) where
  -- changes of two names' rows
  pub changes_swapped : (es : List (Name × Row)) → change_row a k (change_row n j es) ≡ change_row n j (change_row a k es)
  changes_swapped [] = refl
  changes_swapped (e ∷ es) =
      elim (bytes_eq n e.0) as (λ t. bytes_eq n e.0 ≡ t
      → change_row a k (cond t ((e.0, j e.1) ∷ es) (e ∷ change_row n j es)) ≡ change_row n j (cond (bytes_eq a e.0) ((e.0, k e.1) ∷ es) (e ∷ change_row a k es))) [
        | true ↦ λ t. elim (bytes_eq a e.0) as (λ s. bytes_eq a e.0 ≡ s
            → cond s ((e.0, k (j e.1)) ∷ es) ((e.0, j e.1) ∷ change_row a k es) ≡ change_row n j (cond s ((e.0, k e.1) ∷ es) (e ∷ change_row a k es))) [
              | true ↦ λ s. absurd (both_there a n e.0 off s t)
              | false ↦ λ s. sym (ap (λ b. cond b ((e.0, j e.1) ∷ change_row a k es) (e ∷ change_row n j (change_row a k es))) t)
            ] refl
        | false ↦ λ t. elim (bytes_eq a e.0) as (λ s. bytes_eq a e.0 ≡ s
            → cond s ((e.0, k e.1) ∷ change_row n j es) (e ∷ change_row a k (change_row n j es)) ≡ change_row n j (cond s ((e.0, k e.1) ∷ es) (e ∷ change_row a k es))) [
              | true ↦ λ s. sym (ap (λ b. cond b ((e.0, j (k e.1)) ∷ es) ((e.0, k e.1) ∷ change_row n j es)) t)
              | false ↦ λ s. ap (λ l. e ∷ l) (changes_swapped es) ∙ sym (ap (λ b. cond b ((e.0, j e.1) ∷ change_row a k es) (e ∷ change_row n j (change_row a k es))) t)
            ] refl
      ] refl

module _ (a n : Name) (k : Row → Row) where
  -- a row that goes, and a change of another
  drop_apart : bytes_eq a n ≡ false → (es : List (Name × Row)) → drop_row n (change_row a k es) ≡ change_row a k (drop_row n es)
  drop_apart off [] = refl
  drop_apart off (e ∷ es) =
      elim (bytes_eq a e.0) as (λ s. bytes_eq a e.0 ≡ s → drop_row n (cond s ((e.0, k e.1) ∷ es) (e ∷ change_row a k es)) ≡ change_row a k (cond (bytes_eq n e.0) es (e ∷ drop_row n es))) [
        | true ↦ λ s. elim (bytes_eq n e.0) as (λ t. bytes_eq n e.0 ≡ t → cond t es ((e.0, k e.1) ∷ drop_row n es) ≡ change_row a k (cond t es (e ∷ drop_row n es))) [
          | true ↦ λ t. absurd (both_there a n e.0 off s t)
          | false ↦ λ t. sym (ap (λ b. cond b ((e.0, k e.1) ∷ drop_row n es) (e ∷ change_row a k (drop_row n es))) s)
        ] refl
        | false ↦ λ s. elim (bytes_eq n e.0) as (λ t. bytes_eq n e.0 ≡ t → cond t (change_row a k es) (e ∷ drop_row n (change_row a k es)) ≡ change_row a k (cond t es (e ∷ drop_row n es))) [
          | true ↦ λ t. refl
          | false ↦ λ t. ap (λ l. e ∷ l) (drop_apart off es) ∙ sym (ap (λ b. cond b ((e.0, k e.1) ∷ drop_row n es) (e ∷ change_row a k (drop_row n es))) s)
        ] refl
      ] refl

  -- a row that goes, whatever it was changed to
  drop_changed : (es : List (Name × Row)) → drop_row n (change_row n k es) ≡ drop_row n es
  drop_changed [] = refl
  drop_changed (e ∷ es) =
      elim (bytes_eq n e.0) as (λ t. bytes_eq n e.0 ≡ t → drop_row n (cond t ((e.0, k e.1) ∷ es) (e ∷ change_row n k es)) ≡ cond t es (e ∷ drop_row n es)) [
        | true ↦ λ t. ap (λ b. cond b es ((e.0, k e.1) ∷ drop_row n es)) t
        | false ↦ λ t. ap (λ b. cond b (change_row n k es) (e ∷ drop_row n (change_row n k es))) t ∙ ap (λ l. e ∷ l) (drop_changed es)
      ] refl

  pub drop_swapped : (es : List (Name × Row)) → AreRising (λ r. r.0) es → drop_row n (change_row a k es) ≡ change_row a k (drop_row n es)
  drop_swapped es rising = elim (bytes_eq a n) as (λ b. bytes_eq a n ≡ b → drop_row n (change_row a k es) ≡ change_row a k (drop_row n es)) [
    | true ↦ λ s. (let one : a ≡ n = same-≡ a n s in
        ap (λ c. drop_row n (change_row c k es)) one ∙ drop_changed es
        ∙ sym (ap (λ c. change_row c k (drop_row n es)) one ∙ change_row-absent n k (drop_row n es) (gone_after n es rising)))
    | false ↦ λ s. drop_apart s es
  ] refl

-- a row that goes, and one that comes in
module _ (n m : Name) (z : Row) (off : bytes_eq n m ≡ false) where
  is_less : (r : Ordering) → is_lt r ≡ true → r ≡ Less
  is_less Less h = cc
  is_less Equal h = cc
  is_less Greater h = cc

  -- before rows of greater names
  put_first : (e : Name × Row) (es : List (Name × Row)) → AreRising (λ r. r.0) (e ∷ es) → name_lt m e.0 ≡ true → put_row m z es ≡ (m, z) ∷ es
  put_first e [] rising less = refl
  put_first e (f ∷ es) rising less =
      let above = sorted_head order e.0 (keys_of (f ∷ es)) rising in
      ap (λ l. cond l ((m, z) ∷ (f ∷ es)) (f ∷ put_row m z es)) (ap is_lt (nat_list_cmp_total.trans m e.0 f.0 (is_less (order m e.0) less) above.0))

  drop_put : (es : List (Name × Row)) → AreRising (λ r. r.0) es → drop_row n (put_row m z es) ≡ put_row m z (drop_row n es)
  drop_put [] rising = ap (λ t. cond t [] ((m, z) ∷ [])) off
  drop_put (e ∷ es) rising =
      elim (name_lt m e.0) as (λ l. name_lt m e.0 ≡ l → drop_row n (cond l ((m, z) ∷ (e ∷ es)) (e ∷ put_row m z es)) ≡ put_row m z (cond (bytes_eq n e.0) es (e ∷ drop_row n es))) [
        | true ↦ λ l. ap (λ t. cond t (e ∷ es) ((m, z) ∷ drop_row n (e ∷ es))) off
            ∙ elim (bytes_eq n e.0) as (λ t. (m, z) ∷ cond t es (e ∷ drop_row n es) ≡ put_row m z (cond t es (e ∷ drop_row n es))) [
              | true ↦ sym (put_first e es rising l)
              | false ↦ sym (ap (λ t. cond t ((m, z) ∷ (e ∷ drop_row n es)) (e ∷ put_row m z (drop_row n es))) l)
            ]
        | false ↦ λ l. elim (bytes_eq n e.0) as (λ t. cond t (put_row m z es) (e ∷ drop_row n (put_row m z es)) ≡ put_row m z (cond t es (e ∷ drop_row n es))) [
          | true ↦ refl
          | false ↦ ap (λ r. e ∷ r) (drop_put es (sorted_tail order e.0 (keys_of es) rising))
              ∙ sym (ap (λ t. cond t ((m, z) ∷ (e ∷ drop_row n es)) (e ∷ put_row m z (drop_row n es))) l)
        ]
      ] refl

  pub drop_placed : (es : List (Name × Row)) → AreRising (λ r. r.0) es → drop_row n (rows_with m (Some z) es) ≡ rows_with m (Some z) (drop_row n es)
  drop_placed es rising =
      by_found (find_row m es)
      ∙ sym (ap (λ o. placed o m z (drop_row n es)) (find_row-drop_row m n es rising ∙ ap (λ t. cond t None (find_row m es)) (same-sym n m off)))
    where
      by_found : (o : Option Row) → drop_row n (placed o m z es) ≡ placed o m z (drop_row n es)
      by_found None = drop_put es rising
      by_found (Some was) = drop_swapped m n (λ _. z) es rising

module _ (b m : Name) (k : Row → Row) (z : Row) (off : bytes_eq b m ≡ false) where
  put_swapped : (es : List (Name × Row)) → put_row m z (change_row b k es) ≡ change_row b k (put_row m z es)
  put_swapped [] = sym (ap (λ t. cond t ((m, k z) ∷ []) ((m, z) ∷ [])) off)
  put_swapped (e ∷ es) =
      elim (bytes_eq b e.0) as (λ s. bytes_eq b e.0 ≡ s
      → put_row m z (cond s ((e.0, k e.1) ∷ es) (e ∷ change_row b k es)) ≡ change_row b k (cond (name_lt m e.0) ((m, z) ∷ (e ∷ es)) (e ∷ put_row m z es))) [
        | true ↦ λ s. elim (name_lt m e.0) as (λ l. cond l ((m, z) ∷ ((e.0, k e.1) ∷ es)) ((e.0, k e.1) ∷ put_row m z es) ≡ change_row b k (cond l ((m, z) ∷ (e ∷ es)) (e ∷ put_row m z es))) [
          | true ↦ sym (ap (λ t. cond t ((m, k z) ∷ (e ∷ es)) ((m, z) ∷ change_row b k (e ∷ es))) off ∙ ap (λ t. (m, z) ∷ cond t ((e.0, k e.1) ∷ es) (e ∷ change_row b k es)) s)
          | false ↦ sym (ap (λ t. cond t ((e.0, k e.1) ∷ put_row m z es) (e ∷ change_row b k (put_row m z es))) s)
        ]
        | false ↦ λ s. elim (name_lt m e.0) as
            (λ l. cond l ((m, z) ∷ (e ∷ change_row b k es)) (e ∷ put_row m z (change_row b k es)) ≡ change_row b k (cond l ((m, z) ∷ (e ∷ es)) (e ∷ put_row m z es))) [
              | true ↦ sym (ap (λ t. cond t ((m, k z) ∷ (e ∷ es)) ((m, z) ∷ change_row b k (e ∷ es))) off ∙ ap (λ t. (m, z) ∷ cond t ((e.0, k e.1) ∷ es) (e ∷ change_row b k es)) s)
              | false ↦ ap (λ l. e ∷ l) (put_swapped es) ∙ sym (ap (λ t. cond t ((e.0, k e.1) ∷ put_row m z es) (e ∷ change_row b k (put_row m z es))) s)
            ]
      ] refl

  -- an entry that comes in, and a change of another
  pub placed_swapped : (es : List (Name × Row)) → rows_with m (Some z) (change_row b k es) ≡ change_row b k (rows_with m (Some z) es)
  placed_swapped es =
      ap (λ o. placed o m z (change_row b k es)) (find_row-change_row m b k es ∙ ap (λ t. cond t (option_map k (find_row b es)) (find_row m es)) (same-sym b m off))
      ∙ by_found (find_row m es)
    where
      by_found : (o : Option Row) → placed o m z (change_row b k es) ≡ change_row b k (placed o m z es)
      by_found None = put_swapped es
      by_found (Some was) = changes_swapped m b (λ _. z) k (same-sym b m off) es

-- a change that keeps number, kind and origin is not seen in what is stored
pub stored_alike : (b : Name) (k : Row → Row) → ((y : Row) → (k y).number ≡ y.number) → ((y : Row) → (k y).kind ≡ y.kind) → ((y : Row) → (k y).origin ≡ y.origin)
    → (es : List (Name × Row)) → map stored_entry (change_row b k es) ≡ map stored_entry es
stored_alike b k number kind origin [] = refl
stored_alike b k number kind origin (e ∷ es) =
    elim (bytes_eq b e.0) as (λ t. map stored_entry (cond t ((e.0, k e.1) ∷ es) (e ∷ change_row b k es)) ≡ map stored_entry (e ∷ es)) [
      | true ↦ ap (λ v. record { name = e.0; kind = v; origin = (k e.1).origin; number = (k e.1).number } ∷ map stored_entry es) (kind e.1)
          ∙ ap (λ v. record { name = e.0; kind = e.1.kind; origin = v; number = (k e.1).number } ∷ map stored_entry es) (origin e.1)
          ∙ ap (λ v. record { name = e.0; kind = e.1.kind; origin = e.1.origin; number = v } ∷ map stored_entry es) (number e.1)
      | false ↦ ap (λ l. stored_entry e ∷ l) (stored_alike b k number kind origin es)
    ]
