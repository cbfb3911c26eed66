-- What a table shows of numbers, path by path.
use Rattle.std.proofs.Common.{◌≡◌, ◌≢◌, ℕ, Bool, true, false, cond, [], ◌∷◌, ◌++◌, Option, Some, None, refl, sym, ap, subst, ◌∙◌}
use Rattle.std.proofs.lemmas.Option.{same_Some, option_and_then_some}
use Rattle.std.specs.Str.{bytes_eq}
use Rattle.std.specs.Option.{option_map, option_and_then}
use Rattle.eden_model.specs.Paths.{behind_of}
use Rattle.eden_model.specs.Trees.{Name, Path, grafted}
use Rattle.eden_model.specs.Numbers.{Numbering}
use Rattle.eden_tree.specs.Directory.{Row, Directory, child_of, with_child}
use Rattle.eden_tree.specs.Rows.{find_row, set_row}
use Rattle.eden_tree.specs.Paths.{row_at, edit_row, stamped_along}
use Rattle.eden_tree.proofs.CallerLemmas.{same-≡, same-≢, same-refl, child_of-with_child, find_row-set_row, steps_back, stamped_along-unloaded, stamped_along-end, stamped_along-absent}
use Rattle.eden_tree.proofs.CallerLemmas.{stamped_along-found}
use Rattle.eden_coupling.specs.Numberings.{NumberFiles, stored_below, row_named, entry_from, entry_below, numbers, numbers_from, entry_at, NumbersOfEntries, NumbersFromEntry, EntryGrafts, NameGrafts}
use Rattle.eden_coupling.specs.Numberings.{StampsUnseen}
use Rattle.eden_coupling.proofs.Edits.{find_set, find_other}

-- ---- the entry below a name

pub below_loaded : (M : NumberFiles) (x : Row) (d : Directory) (n : Name) → child_of x ≡ Some d → entry_below M x n ≡ find_row n d.rows
below_loaded M x d n holds = ap (λ (o : Option Directory). entry_from o (stored_below M x) n) holds

pub below_away : (M : NumberFiles) (x : Row) (n : Name) → child_of x ≡ None → entry_below M x n ≡ option_and_then (row_named n) (stored_below M x)
below_away M x n none = ap (λ (o : Option Directory). entry_from o (stored_below M x) n) none

-- with the same number, and the same below each name, the numbers are the same
pub same_below : (M K : NumberFiles) (x y : Row) → y.number ≡ x.number → ((n : Name) (q : Path) → numbers_from K (entry_below K y n) q ≡ numbers_from M (entry_below M x n) q)
    → (q : Path) → numbers K y q ≡ numbers M x q
same_below M K x y same below [] = ap (λ (k : ℕ). Some k) same
same_below M K x y same below (n ∷ q) = below n q

entries_by : (M : NumberFiles) (p : Path) (o : Option Row) → ((z : Row) → numbers M z p ≡ option_map (λ z. z.number) (entry_at M z p))
    → numbers_from M o p ≡ option_map (λ z. z.number) (option_and_then (λ z. entry_at M z p) o)
entries_by M p None below = refl
entries_by M p (Some z) below = below z

pub numbers_of_entries : NumbersOfEntries
numbers_of_entries M x [] = refl
numbers_of_entries M x (n ∷ p) = entries_by M p (entry_below M x n) (λ z. numbers_of_entries M z p)

-- an entry in memory is the entry there
pub in_memory : (M : NumberFiles) (x y : Row) (p : Path) → row_at p x ≡ Some y → entry_at M x p ≡ Some y
in_memory M x y [] at = at
in_memory M x y (n ∷ p) at =
    option_and_then_some (λ (d : Directory). option_and_then (row_at p) (find_row n d.rows)) (child_of x) y at (λ d holds rest.
    option_and_then_some (row_at p) (find_row n d.rows) y rest (λ z found below.
    ap (option_and_then (λ w. entry_at M w p)) (below_loaded M x d n holds ∙ found) ∙ in_memory M z y p below))

pub numbers_from_entry : NumbersFromEntry
numbers_from_entry M x y [] q at = ap (λ (z : Row). numbers M z q) (same_Some x y at)
numbers_from_entry M x y (n ∷ p) q at =
    option_and_then_some (λ (d : Directory). option_and_then (row_at p) (find_row n d.rows)) (child_of x) y at (λ d holds rest.
    option_and_then_some (row_at p) (find_row n d.rows) y rest (λ z found below.
    ap (λ (o : Option Row). numbers_from M o (p ++ q)) (below_loaded M x d n holds ∙ found) ∙ numbers_from_entry M z y p q below))

-- ---- one directory in the place of another

module _ (M : NumberFiles) (x : Row) (d e : Directory) (holds : child_of x ≡ Some d) where
  new_entry : (n : Name) → entry_below M (with_child (Some e) x) n ≡ find_row n e.rows
  new_entry n = below_loaded M (with_child (Some e) x) e n (child_of-with_child (Some e) x)

  pub directories_alike : ((n : Name) (q : Path) → numbers_from M (find_row n e.rows) q ≡ numbers_from M (find_row n d.rows) q)
      → (q : Path) → numbers M (with_child (Some e) x) q ≡ numbers M x q
  directories_alike same = same_below M M x (with_child (Some e) x) refl (λ n q.
      ap (λ (o : Option Row). numbers_from M o q) (new_entry n) ∙ same n q ∙ ap (λ (o : Option Row). numbers_from M o q) (sym (below_loaded M x d n holds)))

  -- below one name another part of numbers
  name_by : (n : Name) (front : Path) (X : Numbering) (m : Name) (q : Path) (b : Bool) → bytes_eq n m ≡ b
      → ((k : Name) → k ≢ n → find_row k e.rows ≡ find_row k d.rows)
      → ((r : Path) → numbers_from M (find_row n e.rows) r ≡ grafted (behind_of front r) X (numbers_from M (find_row n d.rows) r))
      → numbers_from M (find_row m e.rows) q ≡ grafted (cond b (behind_of front q) None) X (numbers_from M (find_row m d.rows) q)
  name_by n front X m q true s others here =
      let same : n ≡ m = same-≡ n m s in
      subst (λ (k : Name). numbers_from M (find_row k e.rows) q ≡ grafted (behind_of front q) X (numbers_from M (find_row k d.rows) q)) same (here q)
  name_by n front X m q false s others here =
      ap (λ (o : Option Row). numbers_from M o q) (others m (λ same. (let both : true ≡ false = sym (ap (bytes_eq n) same ∙ same-refl n) ∙ s in cc)))

  pub name_at : (n : Name) (front : Path) (X : Numbering) → ((k : Name) → k ≢ n → find_row k e.rows ≡ find_row k d.rows)
      → ((r : Path) → numbers_from M (find_row n e.rows) r ≡ grafted (behind_of front r) X (numbers_from M (find_row n d.rows) r))
      → (q : Path) → numbers M (with_child (Some e) x) q ≡ grafted (behind_of (n ∷ front) q) X (numbers M x q)
  name_at n front X others here [] = refl
  name_at n front X others here (m ∷ q) =
      ap (λ (o : Option Row). numbers_from M o q) (new_entry m)
      ∙ name_by n front X m q (bytes_eq n m) refl others here
      ∙ ap (λ (o : Option Row). grafted (behind_of (n ∷ front) (m ∷ q)) X (numbers_from M o q)) (sym (below_loaded M x d m holds))

-- ---- along a path

-- one row set
row_set : (M : NumberFiles) (x z v : Row) (d : Directory) (n : Name) (front : Path) (X : Numbering) → child_of x ≡ Some d → find_row n d.rows ≡ Some z
    → ((q : Path) → numbers M v q ≡ grafted (behind_of front q) X (numbers M z q))
    → (q : Path) → numbers M (with_child (Some (record d { rows = set_row n v d.rows })) x) q ≡ grafted (behind_of (n ∷ front) q) X (numbers M x q)
row_set M x z v d n front X holds found same =
    name_at M x d (record d { rows = set_row n v d.rows }) holds n front X
    (λ k other. find_other k n v d.rows (same-≢ k n other))
    (λ r. ap (λ (o : Option Row). numbers_from M o r) (find_set n z v d.rows found) ∙ same r
    ∙ ap (λ (o : Option Row). grafted (behind_of front r) X (numbers_from M o r)) (sym found))

pub entry_grafts : EntryGrafts
entry_grafts M [] f x y q at = ap (λ (z : Row). numbers M (f z) q) (same_Some x y at)
entry_grafts M (n ∷ p) f x y q at =
    option_and_then_some (λ (d : Directory). option_and_then (row_at p) (find_row n d.rows)) (child_of x) y at (λ d holds rest.
    option_and_then_some (row_at p) (find_row n d.rows) y rest (λ z found below.
    ap (λ (w : Row). numbers M w q) (sym (steps_back n p f x z d holds found))
    ∙ row_set M x z (edit_row p f z) d n p (numbers M (f y)) holds found (λ r. entry_grafts M p f z y r below) q))

pub name_grafts : NameGrafts
name_grafts M [] n x y d e q at holds others =
    name_at M x d e (ap child_of (same_Some x y at) ∙ holds) n [] (numbers_from M (find_row n e.rows)) others (λ r. refl) q
name_grafts M (m ∷ p) n x y d e q at holds others =
    option_and_then_some (λ (c : Directory). option_and_then (row_at p) (find_row m c.rows)) (child_of x) y at (λ c loaded rest.
    option_and_then_some (row_at p) (find_row m c.rows) y rest (λ z found below.
    ap (λ (w : Row). numbers M w q) (sym (steps_back m p (with_child (Some e)) x z c loaded found))
    ∙ row_set M x z (edit_row p (with_child (Some e)) z) c m (p ++ n ∷ []) (numbers_from M (find_row n e.rows)) loaded found
    (λ r. name_grafts M p n z y d e r below holds others) q))

-- an entry of the same numbers in the place of another
pub set_alike : (M : NumberFiles) (n : Name) (z v : Row) (d : Directory) → find_row n d.rows ≡ Some z → ((q : Path) → numbers M v q ≡ numbers M z q)
    → (m : Name) (q : Path) → numbers_from M (find_row m (set_row n v d.rows)) q ≡ numbers_from M (find_row m d.rows) q
set_alike M n z v d found same m q =
    ap (λ (o : Option Row). numbers_from M o q) (find_row-set_row m n v z d.rows found)
    ∙ elim (bytes_eq m n) as (λ b. bytes_eq m n ≡ b → numbers_from M (cond b (Some v) (find_row m d.rows)) q ≡ numbers_from M (find_row m d.rows) q) [
      | true ↦ λ s. same q ∙ ap (λ (o : Option Row). numbers_from M o q) (sym (ap (λ (k : Name). find_row k d.rows) (same-≡ m n s) ∙ found))
      | false ↦ λ s. refl
    ] refl

-- stamps
pub stamps_unseen : StampsUnseen
stamps_unseen M [] clock x q = elim (child_of x) as (λ o. child_of x ≡ o → numbers M (stamped_along [] clock x) q ≡ numbers M x q) [
  | None ↦ λ none. ap (λ (w : Row). numbers M w q) (stamped_along-unloaded clock x [] none)
  | Some d ↦ λ holds. ap (λ (w : Row). numbers M w q) (stamped_along-end clock x d holds) ∙ directories_alike M x d (record d { stamp = clock }) holds (λ m r. refl) q
] refl
stamps_unseen M (n ∷ p) clock x q = elim (child_of x) as (λ o. child_of x ≡ o → numbers M (stamped_along (n ∷ p) clock x) q ≡ numbers M x q) [
  | None ↦ λ none. ap (λ (w : Row). numbers M w q) (stamped_along-unloaded clock x (n ∷ p) none)
  | Some d ↦ λ holds. elim (find_row n d.rows) as (λ o. find_row n d.rows ≡ o → numbers M (stamped_along (n ∷ p) clock x) q ≡ numbers M x q) [
    | None ↦ λ absent. ap (λ (w : Row). numbers M w q) (stamped_along-absent clock x n p d holds absent) ∙ directories_alike M x d (record d { stamp = clock }) holds (λ m r. refl) q
    | Some z ↦ λ found.
        ap (λ (w : Row). numbers M w q) (stamped_along-found clock x n p d holds z found)
        ∙ directories_alike M x d (record d { stamp = clock; rows = set_row n (stamped_along p clock z) d.rows }) holds
        (set_alike M n z (stamped_along p clock z) d found (λ r. stamps_unseen M p clock z r)) q
  ] refl
] refl

-- ---- an entry of the same numbers at a path

pub edited_alike : (M : NumberFiles) (p : Path) (f : Row → Row) (x y : Row) → row_at p x ≡ Some y → ((q : Path) → numbers M (f y) q ≡ numbers M y q)
    → (q : Path) → numbers M (edit_row p f x) q ≡ numbers M x q
edited_alike M [] f x y at same q = subst (λ (v : Row). numbers M (f v) q ≡ numbers M v q) (sym (same_Some x y at)) (same q)
edited_alike M (n ∷ p) f x y at same q =
    option_and_then_some (λ (d : Directory). option_and_then (row_at p) (find_row n d.rows)) (child_of x) y at (λ d holds rest.
    option_and_then_some (row_at p) (find_row n d.rows) y rest (λ z found below.
    ap (λ (w : Row). numbers M w q) (sym (steps_back n p f x z d holds found))
    ∙ directories_alike M x d (record d { rows = set_row n (edit_row p f z) d.rows }) holds (set_alike M n z (edit_row p f z) d found (λ r. edited_alike M p f z y below same r)) q))
