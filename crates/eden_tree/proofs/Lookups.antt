-- What a change of one name's entry does to the look-ups of all.
use Rattle.std.proofs.Common.{◌≡◌, true, false, cond, List, [], ◌∷◌, Option, Some, None, refl, sym, ap, ◌∙◌, subst}
use Rattle.std.specs.Option.{option_map}
use Rattle.std.specs.Ordering.{is_lt}
use Rattle.std.specs.declared.cmp.Ordering.TheVariants.{Less}
use Rattle.std.specs.Str.{bytes_eq}
use Rattle.eden_model.specs.Trees.{Name}
use Rattle.eden_model.specs.Operations.{name_lt}
use Rattle.eden_tree.specs.Directory.{Row}
use Rattle.eden_tree.specs.Rows.{find_row, put_row, drop_row, change_row, set_row}
use Rattle.eden_model.specs.Named.{AreRising}
use Rattle.eden_tree.specs.Laws.{PutsUndone, DropsUndone, SetsUndone}
use Rattle.eden_tree.proofs.NameOrder.{order, same-≡, same-refl, same-sym, lt-less}
use Rattle.eden_tree.proofs.Rising.{IsBelow, first_below, others}
use Rattle.eden_tree.proofs.RowLemmas.{find_row-below, set_row-same}

-- two tests of one name for different names
swapped : {C : Type 0} (m k n : Name) (x y z : C) → bytes_eq n k ≡ false → cond (bytes_eq m k) x (cond (bytes_eq m n) y z) ≡ cond (bytes_eq m n) y (cond (bytes_eq m k) x z)
swapped m k n x y z h =
    elim (bytes_eq m k) as (λ b. bytes_eq m k ≡ b → cond b x (cond (bytes_eq m n) y z) ≡ cond (bytes_eq m n) y (cond b x z)) [
      | true ↦ λ e. sym (ap (λ b. cond b y x) (subst (λ i. bytes_eq i n ≡ false) (sym (same-≡ m k e)) (same-sym n k h)))
      | false ↦ λ e. refl
    ] refl

pub find_row-put_row : (m n : Name) (x : Row) (es : List (Name × Row)) → find_row n es ≡ None → find_row m (put_row n x es) ≡ cond (bytes_eq m n) (Some x) (find_row m es)
find_row-put_row m n x [] h = refl
find_row-put_row m n x (e ∷ es) h =
    elim (bytes_eq n e.0) as (λ b. bytes_eq n e.0 ≡ b → cond b (Some e.1) (find_row n es) ≡ None → find_row m (put_row n x (e ∷ es)) ≡ cond (bytes_eq m n) (Some x) (find_row m (e ∷ es))) [
      | true ↦ λ s k. absurd (cc)
      | false ↦ λ s k. elim (name_lt n e.0) as (λ b. find_row m (cond b ((n, x) ∷ (e ∷ es)) (e ∷ put_row n x es)) ≡ cond (bytes_eq m n) (Some x) (find_row m (e ∷ es))) [
        | true ↦ refl
        | false ↦ ap (cond (bytes_eq m e.0) (Some e.1)) (find_row-put_row m n x es k) ∙ swapped m e.0 n (Some e.1) (Some x) (find_row m es) s
      ]
    ] refl h

pub find_row-drop_row : (m n : Name) (es : List (Name × Row)) → AreRising (λ r. r.0) es → find_row m (drop_row n es) ≡ cond (bytes_eq m n) None (find_row m es)
find_row-drop_row m n [] p = elim (bytes_eq m n) as (λ b. ◌≡◌ {A = Option Row} None (cond b None None)) [ true ↦ refl | false ↦ refl ]
find_row-drop_row m n (e ∷ es) p =
    elim (bytes_eq n e.0) as (λ b. bytes_eq n e.0 ≡ b → find_row m (cond b es (e ∷ drop_row n es)) ≡ cond (bytes_eq m n) None (find_row m (e ∷ es))) [
      | true ↦ λ s. subst (λ k. find_row m es ≡ cond (bytes_eq m k) None (cond (bytes_eq m e.0) (Some e.1) (find_row m es))) (sym (same-≡ n e.0 s)) (dropped (first_below e es p))
      | false ↦ λ s. ap (cond (bytes_eq m e.0) (Some e.1)) (find_row-drop_row m n es (others e es p)) ∙ swapped m e.0 n (Some e.1) None (find_row m es) s
    ] refl
  where
    dropped : IsBelow e.0 es → find_row m es ≡ cond (bytes_eq m e.0) None (cond (bytes_eq m e.0) (Some e.1) (find_row m es))
    dropped below = elim (bytes_eq m e.0) as (λ b. bytes_eq m e.0 ≡ b → find_row m es ≡ cond b None (cond b (Some e.1) (find_row m es))) [
      | true ↦ λ t. ap (λ k. find_row k es) (same-≡ m e.0 t) ∙ find_row-below e.0 es below
      | false ↦ λ t. refl
    ] refl

pub find_row-change_row : (m n : Name) (f : Row → Row) (es : List (Name × Row)) → find_row m (change_row n f es) ≡ cond (bytes_eq m n) (option_map f (find_row n es)) (find_row m es)
find_row-change_row m n f [] = elim (bytes_eq m n) as (λ b. ◌≡◌ {A = Option Row} None (cond b None None)) [ true ↦ refl | false ↦ refl ]
find_row-change_row m n f (e ∷ es) =
    elim (bytes_eq n e.0) as (λ b. bytes_eq n e.0 ≡ b
    → find_row m (cond b ((e.0, f e.1) ∷ es) (e ∷ change_row n f es)) ≡ cond (bytes_eq m n) (option_map f (cond b (Some e.1) (find_row n es))) (find_row m (e ∷ es))) [
      | true ↦ λ s. subst (λ k. find_row m ((e.0, f e.1) ∷ es) ≡ cond (bytes_eq m k) (Some (f e.1)) (find_row m (e ∷ es))) (sym (same-≡ n e.0 s))
          (elim (bytes_eq m e.0) as (λ b. cond b (Some (f e.1)) (find_row m es) ≡ cond b (Some (f e.1)) (cond b (Some e.1) (find_row m es))) [ true ↦ refl | false ↦ refl ])
      | false ↦ λ s. ap (cond (bytes_eq m e.0) (Some e.1)) (find_row-change_row m n f es) ∙ swapped m e.0 n (Some e.1) (option_map f (find_row n es)) (find_row m es) s
    ] refl

-- an entry set where one is
pub find_row-set_row : (m n : Name) (x y : Row) (es : List (Name × Row)) → find_row n es ≡ Some y → find_row m (set_row n x es) ≡ cond (bytes_eq m n) (Some x) (find_row m es)
find_row-set_row m n x y es h = find_row-change_row m n (λ _. x) es ∙ ap (λ o. cond (bytes_eq m n) (option_map (λ _. x) o) (find_row m es)) h

-- two changes of one entry are one
pub change_row-twice : (n : Name) (f g : Row → Row) (es : List (Name × Row)) → change_row n f (change_row n g es) ≡ change_row n (λ y. f (g y)) es
change_row-twice n f g [] = refl
change_row-twice n f g (e ∷ es) =
    elim (bytes_eq n e.0) as (λ b. bytes_eq n e.0 ≡ b → change_row n f (cond b ((e.0, g e.1) ∷ es) (e ∷ change_row n g es)) ≡ cond b ((e.0, f (g e.1)) ∷ es) (e ∷ change_row n (λ y. f (g y)) es)) [
      | true ↦ λ s. ap (λ b. cond b ((e.0, f (g e.1)) ∷ es) ((e.0, g e.1) ∷ change_row n f es)) s
      | false ↦ λ s. ap (λ b. cond b ((e.0, f e.1) ∷ change_row n g es) (e ∷ change_row n f (change_row n g es))) s ∙ ap (λ l. e ∷ l) (change_row-twice n f g es)
    ] refl

-- ---- what is undone

-- a row whose name is below the others goes in before them
put_row-first : (e : Name × Row) (es : List (Name × Row)) → IsBelow e.0 es → put_row e.0 e.1 es ≡ e ∷ es
put_row-first e [] h = refl
put_row-first e (f ∷ es) h = ap (λ b. cond b (e ∷ f ∷ es) (f ∷ put_row e.0 e.1 es)) (ap is_lt h.0)

pub puts_undone : PutsUndone
puts_undone n x [] h = ap (λ b. cond b [] ((n, x) ∷ [])) (same-refl n)
puts_undone n x (e ∷ es) h =
    elim (bytes_eq n e.0) as (λ b. bytes_eq n e.0 ≡ b → cond b (Some e.1) (find_row n es) ≡ None → drop_row n (put_row n x (e ∷ es)) ≡ e ∷ es) [
      | true ↦ λ s k. absurd (cc)
      | false ↦ λ s k. elim (name_lt n e.0) as (λ b. drop_row n (cond b ((n, x) ∷ (e ∷ es)) (e ∷ put_row n x es)) ≡ e ∷ es) [
        | true ↦ ap (λ b. cond b (e ∷ es) ((n, x) ∷ drop_row n (e ∷ es))) (same-refl n)
        | false ↦ ap (λ b. cond b (put_row n x es) (e ∷ drop_row n (put_row n x es))) s ∙ ap (λ l. e ∷ l) (puts_undone n x es k)
      ]
    ] refl h

-- a name that is found among names above another is above it
less_found : (n : Name) (x : Row) (m : Name) (es : List (Name × Row)) → IsBelow m es → find_row n es ≡ Some x → order m n ≡ Less
less_found n x m [] below h = absurd (cc)
less_found n x m (e ∷ es) below h =
    elim (bytes_eq n e.0) as (λ b. bytes_eq n e.0 ≡ b → cond b (Some e.1) (find_row n es) ≡ Some x → order m n ≡ Less) [
      | true ↦ λ s k. ap (order m) (same-≡ n e.0 s) ∙ below.0
      | false ↦ λ s k. less_found n x m es below.1 k
    ] refl h

pub drops_undone : DropsUndone
drops_undone n x [] rising h = absurd (cc)
drops_undone n x (e ∷ es) rising h =
    elim (bytes_eq n e.0) as (λ b. bytes_eq n e.0 ≡ b → cond b (Some e.1) (find_row n es) ≡ Some x → put_row n x (cond b es (e ∷ drop_row n es)) ≡ e ∷ es) [
      | true ↦ λ s k. (let name = same-≡ n e.0 s in let row : e.1 ≡ x = cc in
          ap (λ (m : Name). put_row m x es) name ∙ ap (λ (r : Row). put_row e.0 r es) (sym row) ∙ put_row-first e es (first_below e es rising))
      | false ↦ λ s k. ap (λ b. cond b ((n, x) ∷ (e ∷ drop_row n es)) (e ∷ put_row n x (drop_row n es))) (above k) ∙ ap (λ l. e ∷ l) (drops_undone n x es (others e es rising) k)
    ] refl h
  where
    -- the name is one of those behind e, so it is above e's
    above : find_row n es ≡ Some x → name_lt n e.0 ≡ false
    above k = lt-less e.0 n (less_found n x e.0 es (first_below e es rising) k)

pub sets_undone : SetsUndone
sets_undone n x y rows h = change_row-twice n (λ _. y) (λ _. x) rows ∙ set_row-same n y rows h
