-- A tree object's entries in byte order of their names.
use Rattle.std.proofs.Common.{◌≡◌, ◌≢◌, zero, suc, ◌+◌, Bool, true, false, cond, List, [], ◌∷◌, map, get_or, Option, Some, None, Contains, refl, sym, ap, ◌∙◌, subst, arith}
use Rattle.std.specs.Option.{option_map}
use Rattle.std.specs.Str.{bytes_eq}
use Rattle.std.specs.List.{AllByRecursion, IsDistinct}
use Rattle.std.specs.List.Sorted.{IsPermutation, IsSortedBy, IsStrictlySortedBy}
use Rattle.std.specs.Ordering.{is_lt, is_eq, ordering_reverse}
use Rattle.std.specs.declared.cmp.Ordering.{Ordering}
use Rattle.std.specs.declared.cmp.Ordering.TheVariants.{Less, Equal, Greater}
use Rattle.std.proofs.lemmas.Cmp.{nat_list_cmp_total}
use Rattle.std.proofs.lemmas.List.Elements.{All-from_get_or, recursion_from_All}
use Rattle.std.proofs.lemmas.List.Sorted.{sorted_far, ranks_by, Contains-permutation, IsPermutation-sym}
use Rattle.std.proofs.lemmas.Map.Keys.{IsDistinct-IsPermutation}
use Rattle.eden_model.specs.declared.tree_entry.TreeEntry.{TreeEntry}
use Rattle.eden_model.specs.Names.{bytes_eq_is_cmp}
use Rattle.eden_model.specs.Named.{AreRising}
use Rattle.eden_model.specs.Trees.{Name}
use Rattle.eden_model.specs.Repository.{entry_named, items_of, item_by}
use Rattle.eden_model.proofs.CallerLemmas.{name-named}
use Rattle.eden_object.specs.Trees.{IsFree, NamesDiffer}
use Rattle.eden_tree.proofs.CallerLemmas.{order, same-≢, same-refl, same-both}
use Rattle.eden_inode.proofs.Rows.{same_some, none_some}

-- ---- names that differ, in any order

abbrev alike : TreeEntry → TreeEntry → Bool
alike d e = bytes_eq d.name e.name

never : (b : Bool) → b ≡ true → b ≡ false → ⊥
never true h k = cc
never false h k = cc

free_apart : (d : TreeEntry) (es : List TreeEntry) → IsFree d.name es → AllByRecursion (λ e. alike d e ≡ false) es
free_apart d [] h = tt
free_apart d (e ∷ es) h = (same-≢ d.name e.name (λ same. h.0 (sym same)), free_apart d es h.1)

apart_free : (d : TreeEntry) (es : List TreeEntry) → AllByRecursion (λ e. alike d e ≡ false) es → IsFree d.name es
apart_free d [] h = tt
apart_free d (e ∷ es) h = ((λ same. never (bytes_eq d.name e.name) (ap (bytes_eq d.name) same ∙ same-refl d.name) h.0), apart_free d es h.1)

differ_distinct : (es : List TreeEntry) → NamesDiffer es → IsDistinct alike es
unfolding IsDistinct
differ_distinct [] h = tt
differ_distinct (e ∷ es) h = (free_apart e es h.0, differ_distinct es h.1)

distinct_differ : (es : List TreeEntry) → IsDistinct alike es → NamesDiffer es
unfolding IsDistinct
distinct_differ [] h = tt
distinct_differ (e ∷ es) h = (apart_free e es h.0, distinct_differ es h.1)

pub differ_moved : (es fs : List TreeEntry) → IsPermutation es fs → NamesDiffer es → NamesDiffer fs
differ_moved es fs p h = distinct_differ fs (IsDistinct-IsPermutation alike (λ d e. same-both d.name e.name) es fs p (differ_distinct es h))

-- ---- what stands under a name, in any order

-- what is found is there
there : (n : Name) (es : List TreeEntry) (e : TreeEntry) → entry_named n es ≡ Some e → Contains es e
there n [] e h = absurd (cc)
there n (d ∷ es) e h =
    elim (bytes_eq n d.name) as (λ b. cond b (Some d) (entry_named n es) ≡ Some e → Contains (d ∷ es) e) [
      | true ↦ λ k. (zero, omega arith, same_some d e k)
      | false ↦ λ k. (let rest = there n es e k in let within = rest.1 in (suc rest.0, omega (arith, within), rest.2))
    ] h

-- a name that is free is none of these
not_free : (n : Name) (es : List TreeEntry) (e : TreeEntry) → IsFree n es → Contains es e → e.name ≢ n
not_free n [] e free (k, w, is) = absurd (omega arith)
not_free n (d ∷ es) e free (zero, w, is) = λ same. free.0 (ap (λ (x : TreeEntry). x.name) is ∙ same)
not_free n (d ∷ es) e free (suc k, w, is) = not_free n es e free.1 (k, omega (arith, w), is)

-- what is there is found, where names differ
found : (es : List TreeEntry) (e : TreeEntry) → NamesDiffer es → Contains es e → entry_named e.name es ≡ Some e
found [] e h (k, w, is) = absurd (omega arith)
found (d ∷ es) e h (zero, w, is) =
    ap (λ b. cond b (Some d) (entry_named e.name es)) (ap (λ (x : TreeEntry). bytes_eq e.name x.name) is ∙ same-refl e.name) ∙ ap Some is
found (d ∷ es) e h (suc k, w, is) =
    let rest : Contains es e = (k, omega (arith, w), is) in
    let other : bytes_eq e.name d.name ≡ false = same-≢ e.name d.name (not_free d.name es e h.0 rest) in
    ap (λ b. cond b (Some d) (entry_named e.name es)) other ∙ found es e h.1 rest

carried : (es fs : List TreeEntry) → IsPermutation es fs → NamesDiffer fs → (n : Name) (e : TreeEntry) → entry_named n es ≡ Some e → entry_named n fs ≡ Some e
carried es fs p h n e is =
    ap (λ m. entry_named m fs) (sym (name-named (λ (x : TreeEntry). x.name) n es e is)) ∙ found fs e h (Contains-permutation es fs e p (there n es e is))

pub named_moved : (es fs : List TreeEntry) → IsPermutation es fs → NamesDiffer es → (n : Name) → entry_named n fs ≡ entry_named n es
named_moved es fs p h n = by (entry_named n es) (entry_named n fs) (carried es fs p (differ_moved es fs p h) n) (carried fs es (IsPermutation-sym es fs p) h n)
  where
    by : (o r : Option TreeEntry) → ((e : TreeEntry) → o ≡ Some e → r ≡ Some e) → ((e : TreeEntry) → r ≡ Some e → o ≡ Some e) → r ≡ o
    by (Some e) r to back = to e refl
    by None None to back = refl
    by None (Some e) to back = none_some e _ (back e refl)

pub items_moved : (es fs : List TreeEntry) → IsPermutation es fs → NamesDiffer es → (n : Name) → items_of fs n ≡ items_of es n
items_moved es fs p h n = ap (option_map (λ e. item_by e.mode e.id)) (named_moved es fs p h n)

-- ---- names that rise

less_of : (m n : Name) → is_lt (order n m) ≡ false → n ≢ m → order m n ≡ Less
less_of m n up other = by (order m n) (nat_list_cmp_total.antisymm n m) (sym (bytes_eq_is_cmp m n) ∙ same-≢ m n (λ same. other (sym same))) up
  where
    by : (o : Ordering) → order n m ≡ ordering_reverse o → is_eq o ≡ false → is_lt (order n m) ≡ false → o ≡ Less
    by Less e q p = refl
    by Equal e q p = absurd (let both : true ≡ false = q in cc)
    by Greater e q p = absurd (let both : true ≡ false = sym (ap is_lt e) ∙ p in cc)

module _ {X : Type 0} (entry : X → TreeEntry) (key : X → Name) where
  abbrev below : X → X → Bool
  below a b = is_lt (order (key a) (key b))

  above_each : (x : X) (xs : List X) → key x ≡ (entry x).name → AllByRecursion (λ y. key y ≡ (entry y).name) xs → AllByRecursion (λ y. below y x ≡ false) xs → IsFree (entry x).name (map entry xs)
      → AllByRecursion (λ n. order (entry x).name n ≡ Less) (map (λ y. (entry y).name) xs)
  above_each x [] is each up free = tt
  above_each x (y ∷ ys) is each up free = (
    less_of (entry x).name (entry y).name (ap (λ n. is_lt (order n (entry x).name)) (sym each.0) ∙ ap (λ n. is_lt (order (key y) n)) (sym is) ∙ up.0) free.0,
    above_each x ys is each.1 up.1 free.1,
  )

  behind : (x : X) (xs : List X) → IsSortedBy below (x ∷ xs) → IsSortedBy below xs
  behind x xs up k d low high =
      let place : suc k + 1 ≡ suc (k + 1) = omega arith in
      subst (λ j. below (get_or (x ∷ xs) j d) (get_or xs k d) ≡ false) place (up (suc k) d (omega arith) (omega arith))

  pub rising : (xs : List X) → AllByRecursion (λ y. key y ≡ (entry y).name) xs → IsSortedBy below xs → NamesDiffer (map entry xs) → AreRising (λ y. (entry y).name) xs
  unfolding IsStrictlySortedBy
  rising [] each up differ = tt
  rising (x ∷ xs) each up differ =
      let far = recursion_from_All (λ y. below y x ≡ false) xs
      (All-from_get_or (λ y. below y x ≡ false) xs x (λ i within. sorted_far below (ranks_by nat_list_cmp_total key) (x ∷ xs) up 0 (suc i) x (omega arith) (omega arith))) in
      (above_each x xs each.0 each.1 far differ.0, rising xs each.1 (behind x xs up) differ.1)
