-- When rows are a tree.
use Rattle.std.proofs.Common.{◌≡◌, ◌↔◌, ℕ, ◌+◌, ◌-◌, ◌<◌, ◌≤◌, List, [], ◌∷◌, ◌++◌, length, get_or, take, drop, sym, refl, ◌∙◌, ap, subst, Option, Some, None, true, false, arith, length-drop}
use Rattle.std.specs.List.{All, AllByRecursion, IsDistinct}
use Rattle.std.specs.Map.{lookup, keys_of}
use Rattle.std.specs.Option.{is_some, IsSome, option_copied}
use denote.Ref.{Bor}
use Rattle.std.specs.Cmp.{IsEquivalence}
use Rattle.std.proofs.lemmas.Cmp.{lists_equiv, nat_list_eq_equiv}
use Rattle.std.proofs.lemmas.List.{drop_more, drop_all, take_all}
use Rattle.std.proofs.lemmas.List.Elements.{All-map, All-from_recursion, recursion_from_All, All-contains, All-get_or, All-more}
use Rattle.std.proofs.lemmas.Map.{none_passes_from_lookup}
use Rattle.std.proofs.lemmas.Map.Keys.{IsDistinct-head, IsDistinct-tail, IsDistinct-cons}
use Rattle.std.proofs.lemmas.Map.Views.{Contains-keys_from_lookup, All-keys_from_lookup}
use Rattle.std.proofs.lemmas.Slice.Eq.{bytes_eq-Decides, slice_eq-Decides}
use Rattle.eden_model.specs.declared.node.Node.{Node}
use Rattle.eden_model.specs.Paths.{path_eq}
use Rattle.eden_oracle.specs.Rows.{tree_of}
use Rattle.eden_model.specs.Trees.{Path, Tree, IsTree, IsDir, HasParent}

abbrev pub Rows : Type 0
Rows = List (Path × Node)

path_equiv : IsEquivalence path_eq
path_equiv = lists_equiv nat_list_eq_equiv

same_path : (p q : Path) → path_eq p q ≡ true → p ≡ q
same_path p q e = (slice_eq-Decides bytes_eq-Decides p q (path_eq p q) refl).0 e

-- ---- no path twice

apart : (p : Path) (rows : Rows) → lookup (path_eq p) rows ≡ None → AllByRecursion (λ q. path_eq p q ≡ false) (keys_of rows)
apart p rows e =
    recursion_from_All _ (keys_of rows) (All-map (λ q. path_eq p q ≡ false) (λ (r : Path × Node). r.0) rows (All-from_recursion _ rows (none_passes_from_lookup (path_eq p) rows e)))

not_found : (p : Path) (rows : Rows) → AllByRecursion (λ q. path_eq p q ≡ false) (keys_of rows) → lookup (path_eq p) rows ≡ None
not_found p [] h = refl
not_found p (r ∷ rows) h = rw h.0 (not_found p rows h.1)

-- a slice to the end, as the code writes it
slice_to_end : (rows : Rows) (k : ℕ) → take (length rows - k) (drop k rows) ≡ drop k rows
slice_to_end rows k = take_all (length rows - k) (drop k rows) (omega (arith, length-drop k rows))

absent_copied : {X : Type 0} (o : Option (Bor X)) → is_some o ≡ false → option_copied o ≡ None
absent_copied None e = refl
absent_copied (Some x) e = cc

rest_distinct : (row : Path × Node) (rows : Rows) → lookup (path_eq row.0) rows ≡ None → IsDistinct path_eq (keys_of rows) ↔ IsDistinct path_eq (keys_of (row ∷ rows))
rest_distinct row rows e = (
  λ h. IsDistinct-cons path_eq row.0 (keys_of rows) (apart row.0 rows e) h,
  λ h. IsDistinct-tail path_eq row.0 (keys_of rows) h,
)

-- one row, which none behind it has the path of
pub distinct_step : (rows : Rows) (k : ℕ) (row : Path × Node) (p : Path) (found : Option (Bor Node)) → k < length rows → p ≡ (get_or rows k row).0
    → option_copied found ≡ lookup (path_eq p) (take (length rows - (k + 1)) (drop (k + 1) rows)) → is_some found ≡ false
    → (IsDistinct path_eq (keys_of (drop k rows)) ↔ IsDistinct path_eq (keys_of rows)) → IsDistinct path_eq (keys_of (drop (k + 1) rows)) ↔ IsDistinct path_eq (keys_of rows)
distinct_step rows k row p found lt at e absent h =
    let here : drop k rows ≡ get_or rows k row ∷ drop (k + 1) rows = drop_more rows k row lt in
    let none : lookup (path_eq (get_or rows k row).0) (drop (k + 1) rows) ≡ None = ap (λ (q : Path). lookup (path_eq q) (drop (k + 1) rows)) (sym at) ∙ ap (lookup (path_eq p))
    (sym (slice_to_end rows (k + 1))) ∙ sym e ∙ absent_copied found absent in
    let one = rest_distinct (get_or rows k row) (drop (k + 1) rows) none in (
      λ d. h.0 (subst (λ (xs : Rows). IsDistinct path_eq (keys_of xs)) (sym here) (one.0 d)),
      λ d. one.1 (subst (λ (xs : Rows). IsDistinct path_eq (keys_of xs)) here (h.1 d)),
    )

-- a row whose path comes again
pub comes_twice : (rows : Rows) (k : ℕ) (row : Path × Node) (p : Path) (found : Option (Bor Node)) → k < length rows → p ≡ (get_or rows k row).0
    → option_copied found ≡ lookup (path_eq p) (take (length rows - (k + 1)) (drop (k + 1) rows)) → is_some found ≡ true
    → (IsDistinct path_eq (keys_of (drop k rows)) ↔ IsDistinct path_eq (keys_of rows)) → ¬ IsDistinct path_eq (keys_of rows)
comes_twice rows k row p None lt at e there h d = cc
comes_twice rows k row p (Some node) lt at e there h d =
    let here : drop k rows ≡ get_or rows k row ∷ drop (k + 1) rows = drop_more rows k row lt in
    let none = not_found (get_or rows k row).0 (drop (k + 1) rows)
    (IsDistinct-head path_eq (get_or rows k row).0 (keys_of (drop (k + 1) rows)) (subst (λ (xs : Rows). IsDistinct path_eq (keys_of xs)) here (h.1 d))) in
    let wrong : Some node.now ≡ None = e ∙ ap (lookup (path_eq p)) (slice_to_end rows (k + 1)) ∙ ap (λ (q : Path). lookup (path_eq q) (drop (k + 1) rows)) at ∙ none in
    cc

none_distinct : IsDistinct path_eq []
unfolding IsDistinct
none_distinct = tt

pub distinct_end : (rows : Rows) (k : ℕ) → length rows ≤ k → (IsDistinct path_eq (keys_of (drop k rows)) ↔ IsDistinct path_eq (keys_of rows)) → IsDistinct path_eq (keys_of rows)
distinct_end rows k past h = h.0 (subst (λ (xs : Rows). IsDistinct path_eq (keys_of xs)) (sym (drop_all k rows past)) none_distinct)

-- ---- each row has its parent

abbrev pub HaveParents : Tree → Rows → Type 0
HaveParents F rows = All (λ row. HasParent F row.0) rows

pub row_has_parent : (F : Tree) (rows : Rows) (k : ℕ) (row : Path × Node) (p : Path) → k < length rows → row ≡ get_or rows k row → p ≡ row.0 → HaveParents F rows → HasParent F p
row_has_parent F rows k row p lt is at all =
    subst (HasParent F) (sym at) (subst (λ (r : Path × Node). HasParent F r.0) (sym is) (All-get_or (λ (r : Path × Node). HasParent F r.0) rows k row lt all))

pub one_more_parent : (F : Tree) (rows : Rows) (k : ℕ) (row : Path × Node) (p : Path) → k < length rows → row ≡ get_or rows k row → p ≡ row.0 → HaveParents F (take k rows) → HasParent F p
    → HaveParents F (take (k + 1) rows)
one_more_parent F rows k row p lt is at all here =
    All-more (λ (r : Path × Node). HasParent F r.0) rows k row lt all (subst (λ (r : Path × Node). HasParent F r.0) is (subst (HasParent F) at here))

-- ---- a tree

each_row : (P : Path → Type 0) (rows : Rows) → AllByRecursion P (keys_of rows) → AllByRecursion (λ (r : Path × Node). P r.0) rows
each_row P [] h = tt
each_row P (r ∷ rows) h = (h.0, each_row P rows h.1)

pub tree_from_rows : (rows : Rows) → IsDir (tree_of rows []) → HaveParents (tree_of rows) rows → IsTree (tree_of rows)
tree_from_rows rows root all = record {
  root = root;
  parents = λ p n there. All-contains (HasParent (tree_of rows)) (keys_of rows) (p ++ n ∷ [])
      (All-map (HasParent (tree_of rows)) (λ (r : Path × Node). r.0) rows all)
      (Contains-keys_from_lookup same_path (p ++ n ∷ []) rows there) p n refl;
}

pub parents_from_tree : (rows : Rows) → IsTree (tree_of rows) → HaveParents (tree_of rows) rows
parents_from_tree rows t =
    All-from_recursion (λ (r : Path × Node). HasParent (tree_of rows) r.0) rows (each_row (HasParent (tree_of rows)) rows
    (recursion_from_All (HasParent (tree_of rows)) (keys_of rows)
    (All-keys_from_lookup path_equiv (HasParent (tree_of rows)) rows (λ q there above n e. t.parents above n (subst (λ (p : Path). IsSome (tree_of rows p)) e there)))))
