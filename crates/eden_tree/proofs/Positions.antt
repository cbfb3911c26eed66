-- Names and positions of rows whose names rise.
use Rattle.std.proofs.Common.{◌≡◌, ◌≢◌, ℕ, zero, suc, ◌<◌, true, false, cond, List, [], ◌∷◌, length, get_or, Contains, Some, refl, sym, ap, ◌∙◌, arith}
use Rattle.std.specs.Cmp.{tied_itself}
use Rattle.std.specs.Cmp.Lexicographic.{nat_list_cmp_total}
use Rattle.std.specs.List.{slice_get}
use Rattle.std.specs.Option.{option_map}
use Rattle.std.specs.Str.{bytes_eq}
use Rattle.std.proofs.lemmas.List.{get_or_default}
use Rattle.eden_model.specs.Trees.{Name}
use Rattle.eden_model.specs.Operations.{name_lt}
use Rattle.eden_model.specs.Named.{AreRising}
use Rattle.eden_tree.specs.Directory.{Row, Directory, child_of, row_size, rows_size, directory_size, rows_of, listed, Child, unloaded, loaded, directory_in}
use Rattle.eden_tree.specs.Rows.{find_row, put_row, drop_row, change_row, set_row, set_at}
use Rattle.eden_tree.specs.Places.{IsPlaceOf}
use Rattle.eden_tree.specs.Laws.{IsSplit, IsBetween, Splits, PutsBetween}
use Rattle.eden_tree.proofs.NameOrder.{order, same-≡}
use Rattle.eden_tree.proofs.Children.{rows_of-listed}
use Rattle.eden_tree.proofs.RowLemmas.{find_row-at, set-at, set-set_at, slice_get-get_or, keys_of-change_row, length-keys}

pub length-slice_get : (es : List (Name × Row)) (i : ℕ) (e : Name × Row) → slice_get es i ≡ Some e → i < length es
length-slice_get [] i e h = absurd (cc)
length-slice_get (a ∷ es) zero e h = omega arith
length-slice_get (a ∷ es) (suc i) e h = let rest = length-slice_get es i e h in omega (arith, rest)

-- the name there is at that place
at_position : (es : List (Name × Row)) (i : ℕ) (e : Name × Row) → slice_get es i ≡ Some e → IsPlaceOf es e.0 i × (get_or es i e ≡ e)
at_position es i e h =
    let within = length-slice_get es i e h in
    let read = slice_get-get_or es i e within in
    let is : get_or es i e ≡ e = cc in (
      record { in_range = within; same = λ d. ap (λ (a : Name × Row). order a.0 e.0) (get_or_default es i d e within ∙ is) ∙ tied_itself nat_list_cmp_total e.0 },
      is,
    )

-- a position's entry is that of the name there
pub find_row-slice_get : (es : List (Name × Row)) (i : ℕ) (e : Name × Row) → AreRising (λ r. r.0) es → slice_get es i ≡ Some e → find_row e.0 es ≡ Some e.1
find_row-slice_get es i e rising h = let at = at_position es i e h in find_row-at es e.0 i e rising at.0 ∙ ap (λ (a : Name × Row). Some a.1) at.1

pub set_at-set_row : (es : List (Name × Row)) (i : ℕ) (e : Name × Row) (x : Row) → AreRising (λ r. r.0) es → slice_get es i ≡ Some e → set_at i x es ≡ set_row e.0 x es
set_at-set_row es i e x rising h = let at = at_position es i e h in sym (set-set_at es i e x) ∙ set-at es e.0 i e x rising at.0

-- a name that is found has a position
pub slice_get-find_row : (n : Name) (es : List (Name × Row)) (x : Row) → find_row n es ≡ Some x → (i : ℕ) × ((i < length es) × (slice_get es i ≡ Some (n, x)))
slice_get-find_row n [] x h = absurd (cc)
slice_get-find_row n (e ∷ es) x h =
    elim (bytes_eq n e.0) as (λ b. bytes_eq n e.0 ≡ b → cond b (Some e.1) (find_row n es) ≡ Some x → (i : ℕ) × ((i < suc (length es)) × (slice_get (e ∷ es) i ≡ Some (n, x)))) [
      | true ↦ λ s k. (let name = same-≡ n e.0 s in let row : e.1 ≡ x = cc in (zero, (omega arith, ap Some (ap (λ (m : Name). (m, e.1)) (sym name) ∙ ap (λ (r : Row). (n, r)) row))))
      | false ↦ λ s k. (let rest = slice_get-find_row n es x k in let within = rest.1.0 in (suc rest.0, (omega (arith, within), rest.1.1)))
    ] refl h

-- ---- an entry set at a position

pub slice_get-set_at : (i : ℕ) (x : Row) (es : List (Name × Row)) → slice_get (set_at i x es) i ≡ option_map (λ e. (e.0, x)) (slice_get es i)
slice_get-set_at i x [] = refl
slice_get-set_at zero x (e ∷ es) = refl
slice_get-set_at (suc i) x (e ∷ es) = slice_get-set_at i x es

pub slice_get-set_at-other : (i j : ℕ) (x : Row) (es : List (Name × Row)) → i ≢ j → slice_get (set_at i x es) j ≡ slice_get es j
slice_get-set_at-other i j x [] h = refl
slice_get-set_at-other zero zero x (e ∷ es) h = absurd (h refl)
slice_get-set_at-other zero (suc j) x (e ∷ es) h = refl
slice_get-set_at-other (suc i) zero x (e ∷ es) h = refl
slice_get-set_at-other (suc i) (suc j) x (e ∷ es) h = slice_get-set_at-other i j x es (λ k. h (ap suc k))

-- ---- what is contained

pub Contains-find_row : (n : Name) (es : List (Name × Row)) (x : Row) → find_row n es ≡ Some x → Contains es (n, x)
Contains-find_row n es x h =
    let at = slice_get-find_row n es x h in
    let read = slice_get-get_or es at.0 (n, x) at.1.0 in
    let there = at.1.1 in
    let within = at.1.0 in
    let is : get_or es at.0 (n, x) ≡ (n, x) = cc in
    (at.0, within, is)

pub find_row-Contains : (n : Name) (es : List (Name × Row)) (x : Row) → AreRising (λ r. r.0) es → Contains es (n, x) → find_row n es ≡ Some x
find_row-Contains n es x rising (i, within, is) = find_row-slice_get es i (n, x) rising (slice_get-get_or es i (n, x) within ∙ ap Some is)

-- ---- what stands before and behind

pub splits : Splits
splits n x [] h = absurd (cc)
splits n x (e ∷ es) h =
    elim (bytes_eq n e.0) as (λ b. bytes_eq n e.0 ≡ b → cond b (Some e.1) (find_row n es) ≡ Some x → IsSplit n x (e ∷ es)) [
      | true ↦ λ s k.
          let name = same-≡ n e.0 s in
          let row : e.1 ≡ x = cc in
          record {
            front = [];
            back = es;
            is = ap (λ (m : Name). (m, e.1) ∷ es) (sym name) ∙ ap (λ (r : Row). (n, r) ∷ es) row;
            dropped = ap (λ b. cond b es (e ∷ drop_row n es)) s;
            changed = λ f. ap (λ b. cond b ((e.0, f e.1) ∷ es) (e ∷ change_row n f es)) s ∙ ap (λ (m : Name). (m, f e.1) ∷ es) (sym name) ∙ ap (λ (r : Row). (n, f r) ∷ es) row;
          }
      | false ↦ λ s k.
          let rest = splits n x es k in
          record {
            front = e ∷ rest.front;
            back = rest.back;
            is = ap (λ l. e ∷ l) rest.is;
            dropped = ap (λ b. cond b es (e ∷ drop_row n es)) s ∙ ap (λ l. e ∷ l) rest.dropped;
            changed = λ f. ap (λ b. cond b ((e.0, f e.1) ∷ es) (e ∷ change_row n f es)) s ∙ ap (λ l. e ∷ l) (rest.changed f);
          }
    ] refl h

pub puts_between : PutsBetween
puts_between n x [] = record { front = []; back = []; is = refl; put = refl }
puts_between n x (e ∷ es) = elim (name_lt n e.0) as (λ b. name_lt n e.0 ≡ b → IsBetween n x (e ∷ es)) [
  | true ↦ λ s. record { front = []; back = e ∷ es; is = refl; put = ap (λ b. cond b ((n, x) ∷ (e ∷ es)) (e ∷ put_row n x es)) s }
  | false ↦ λ s. (let rest = puts_between n x es in record {
    front = e ∷ rest.front;
    back = rest.back;
    is = ap (λ l. e ∷ l) rest.is;
    put = ap (λ b. cond b ((n, x) ∷ (e ∷ es)) (e ∷ put_row n x es)) s ∙ ap (λ l. e ∷ l) rest.put;
  })
] refl

-- ---- lengths and sizes

pub length-change_row : (n : Name) (f : Row → Row) (es : List (Name × Row)) → length (change_row n f es) ≡ length es
length-change_row n f es = sym (length-keys (change_row n f es)) ∙ ap length (keys_of-change_row n f es) ∙ length-keys es

pub length-set_at : (i : ℕ) (x : Row) (es : List (Name × Row)) → length (set_at i x es) ≡ length es
length-set_at i x [] = refl
length-set_at zero x (e ∷ es) = refl
length-set_at (suc i) x (e ∷ es) = ap suc (length-set_at i x es)

-- each entry is smaller than the rows, and the directory that it holds is smaller than it
pub row_size-slice_get : (es : List (Name × Row)) (i : ℕ) (e : Name × Row) → slice_get es i ≡ Some e → row_size e.1 < rows_size (rows_of es)
row_size-slice_get [] i e h = absurd (cc)
row_size-slice_get (a ∷ es) zero e h = let is : a ≡ e = cc in let same = ap (λ (r : Name × Row). row_size r.1) is in omega (arith, same)
row_size-slice_get (a ∷ es) (suc i) e h = let rest = row_size-slice_get es i e h in omega (arith, rest)

pub row_size-find_row : (n : Name) (es : List (Name × Row)) (x : Row) → find_row n es ≡ Some x → row_size x < rows_size (rows_of es)
row_size-find_row n es x h = let at = slice_get-find_row n es x h in row_size-slice_get es at.0 (n, x) at.1.1

pub directory_size-child_of : (x : Row) (d : Directory) → child_of x ≡ Some d → directory_size d < row_size x
directory_size-child_of x d h = held x.child d h
  where
    held : (c : Child) (d : Directory) → directory_in c ≡ Some d → rows_size (rows_of d.rows) < row_size (record x { child = c })
    held unloaded d h = absurd (cc)
    held (loaded s u r) d h = let is : record { stamp = s; unsaved = u; rows = listed r } ≡ d = cc in let same = ap (λ (e : Directory). rows_size (rows_of e.rows)) is in let back = ap rows_size
        (rows_of-listed r) in omega (arith, same, back)
