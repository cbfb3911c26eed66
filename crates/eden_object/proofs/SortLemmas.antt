-- Lemmas on sorted keys: where no neighbours are equal, no two are.
use Rattle.std.proofs.Common.{◌≡◌, ◌≢◌, ◌↔◌, ℕ, ◌<◌, ◌+◌, ◌-◌, Bool, true, false, List, [], ◌∷◌, ◌++◌, length, map, get_or, sym, ap, ◌∙◌, subst, refl, arith, append_assoc, append-nil}
use Rattle.std.specs.List.{AllByRecursion, IsDistinct}
use Rattle.std.specs.List.Sorted.{IsSortedBy}
use Rattle.std.specs.Cmp.Lexicographic.{slice_cmp}
use Rattle.std.specs.declared.cmp.Ordering.{Ordering}
use Rattle.std.specs.declared.cmp.Ordering.TheVariants.{Less, Equal, Greater}
use Rattle.std.specs.Ordering.{nat_cmp, is_lt, is_eq, ordering_reverse}
use Rattle.std.specs.Bool.{Decides}
use Rattle.std.specs.Str.{bytes_eq}
use Rattle.std.proofs.lemmas.Cmp.{nat_list_cmp_total, nat_list_eq_equiv}
use Rattle.std.proofs.lemmas.List.{get_or_default}
use Rattle.std.proofs.lemmas.List.Sorted.{sorted_far, ranks_by}
use Rattle.std.proofs.lemmas.Map.Keys.{IsDistinct-from_apart, apart_from_distinct}
use Rattle.std.proofs.lemmas.Map.Text.{is_eq-slice_cmp}
use Rattle.std.proofs.lemmas.Slice.Eq.{bytes_eq-Decides}
use Rattle.eden_model.specs.declared.tree_entry.TreeEntry.{TreeEntry}
use Rattle.eden_object.specs.Trees.{IsFree, NamesDiffer, AreEntries}
use Rattle.eden_object.specs.Rows.{BeginsWith}
use Rattle.eden_object.proofs.RowLemmas.{behind_entry, no_entries}
use Rattle.eden_object.proofs.CheckLemmas.{both}

-- what is below neither way is equal
tied : (x y : List ℕ) → is_lt (slice_cmp nat_cmp x y) ≡ false → is_lt (slice_cmp nat_cmp y x) ≡ false → bytes_eq x y ≡ true
tied x y p q = sym (is_eq-slice_cmp x y) ∙ go (slice_cmp nat_cmp x y) (slice_cmp nat_cmp y x) (nat_list_cmp_total.antisymm x y) p q
  where
    go : (o r : Ordering) → o ≡ ordering_reverse r → is_lt o ≡ false → is_lt r ≡ false → is_eq o ≡ true
    go Less r e p q = cc
    go Equal r e p q = refl
    go Greater Less e p q = cc
    go Greater Equal e p q = cc
    go Greater Greater e p q = cc

other_name : (x y : List ℕ) → (x ≢ y) ↔ (bytes_eq x y ≡ false)
other_name x y = go (bytes_eq x y) (bytes_eq-Decides x y)
  where
    go : (b : Bool) → Decides b (x ≡ y) → (x ≢ y) ↔ (b ≡ false)
    go true d = ((λ no. absurd (no (d.0 refl))), (λ e. absurd (both true refl e)))
    go false d = ((λ no. refl), (λ e same. both false (d.1 same) refl))

pub bytes_eq-flips : (x y : List ℕ) → bytes_eq x y ≡ bytes_eq y x
bytes_eq-flips x y = nat_list_eq_equiv.symm x y

module _ {X : Type 0} (key : X → List ℕ) where
  abbrev pub below : X → X → Bool
  below x y = is_lt (slice_cmp nat_cmp (key x) (key y))

  abbrev pub alike : X → X → Bool
  alike x y = bytes_eq (key x) (key y)

  -- no neighbours up to there are alike
  abbrev pub Apart : List X → ℕ → Type 0
  Apart xs n = (k : ℕ) (d : X) → k + 1 < n → alike (get_or xs k d) (get_or xs (k + 1) d) ≡ false

  pub sorted_distinct : (xs : List X) → IsSortedBy below xs → Apart xs (length xs) → IsDistinct alike xs
  sorted_distinct xs up apart = IsDistinct-from_apart alike xs far
    where
      told : (i j : ℕ) (d : X) → i < j → j < length xs → (b : Bool) → alike (get_or xs i d) (get_or xs j d) ≡ b → b ≡ false
      told i j d less within false e = refl
      told i j d less within true e =
          let same = (bytes_eq-Decides (key (get_or xs i d)) (key (get_or xs j d))).0 e in
          let next = sorted_far below (ranks_by nat_list_cmp_total key) xs up (i + 1) j d (omega arith) within in
          let here = sorted_far below (ranks_by nat_list_cmp_total key) xs up i (i + 1) d (omega arith) (omega arith) in
          let back = subst (λ t. is_lt (slice_cmp nat_cmp t (key (get_or xs (i + 1) d))) ≡ false) (sym same) next in
          let twin = tied (key (get_or xs i d)) (key (get_or xs (i + 1) d)) back here in
          absurd (let no = apart i d (omega arith) in cc)

      far : (i j : ℕ) (d : X) → i < j → j < length xs → alike (get_or xs i d) (get_or xs j d) ≡ false
      far i j d less within = told i j d less within (alike (get_or xs i d) (get_or xs j d)) refl

  -- no element is alike the one before it
  pub alike_apart : (xs : List X) (i : ℕ) (x y : X) → 0 < i → i < length xs → x ≡ get_or xs (i - 1) x → y ≡ get_or xs i y → alike x y ≡ true
      → IsDistinct alike xs → ⊥
  alike_apart xs i x y some within here next e h =
      let apart = apart_from_distinct alike xs (i - 1) i x h (omega arith) within in
      let same : get_or xs i y ≡ get_or xs i x = get_or_default xs i y x within in
      let other : alike x y ≡ false = cc in
      cc

  -- names that differ are keys that differ
  pub names_distinct : (es : List TreeEntry) (xs : List X) → map key xs ≡ map (λ e. e.name) es → NamesDiffer es ↔ IsDistinct alike xs
  unfolding IsDistinct
  names_distinct [] [] h = ((λ p. tt), (λ p. tt))
  names_distinct [] (x ∷ xs) h = cc
  names_distinct (e ∷ es) [] h = cc
  names_distinct (e ∷ es) (x ∷ xs) h =
      let tail : map key xs ≡ map (λ e. e.name) es = cc in
      let head : key x ≡ e.name = cc in
      let rest = names_distinct es xs tail in
      let first = free es xs e.name x head tail in
      ((λ p. (first.0 p.0, rest.0 p.1)), (λ p. (first.1 p.0, rest.1 p.1)))
    where
      free : (es : List TreeEntry) (xs : List X) (n : List ℕ) (y : X) → key y ≡ n → map key xs ≡ map (λ e. e.name) es
          → IsFree n es ↔ AllByRecursion (λ x. alike y x ≡ false) xs
      free [] [] n y is h = ((λ p. tt), (λ p. tt))
      free [] (x ∷ xs) n y is h = cc
      free (e ∷ es) [] n y is h = cc
      free (e ∷ es) (x ∷ xs) n y is h =
          let tail : map key xs ≡ map (λ e. e.name) es = cc in
          let rest = free es xs n y is tail in
          let here : key x ≡ e.name = cc in
          let test = other_name (key y) (key x) in
          ((λ p. (test.0 (λ same. p.0 (sym here ∙ sym same ∙ is)), rest.0 p.1)), (λ p. ((λ same. test.1 p.0 (is ∙ sym same ∙ sym here)), rest.1 p.1)))

-- the names that were read, and those of the rest
abbrev pub GathersNames : List (List ℕ) → List ℕ → List ℕ → Type 0
GathersNames read body rest = (es : List TreeEntry) → AreEntries es body → (fs : List TreeEntry) × AreEntries fs rest × (read ++ map (λ e. e.name) fs ≡ map (λ e. e.name) es)

pub names_on : (read : List (List ℕ)) (e : TreeEntry) (body rest more : List ℕ) → GathersNames read body rest → BeginsWith e rest more
    → GathersNames (read ++ e.name ∷ []) body more
names_on read e body rest more inv b = λ es h.
    let at = inv es h in
    let behind = behind_entry e at.0 rest more b at.1 in
    (behind.0, behind.2, append_assoc read (e.name ∷ []) (map (λ e. e.name) behind.0) ∙ ap (λ fs. read ++ map (λ e. e.name) fs) (sym behind.1) ∙ at.2)

pub names_all : (read : List (List ℕ)) (body rest : List ℕ) → GathersNames read body rest
    → ((e : TreeEntry) (more : List ℕ) → BeginsWith e rest more → ⊥) → (es : List TreeEntry) → AreEntries es body → read ≡ map (λ e. e.name) es
names_all read body rest inv none es h =
    let at = inv es h in
    sym (append-nil read) ∙ ap (λ fs. read ++ map (λ e. e.name) fs) (sym (no_entries at.0 rest none at.1)) ∙ at.2
