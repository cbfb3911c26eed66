-- Rows that are found by their names.
use Rattle.std.proofs.Common.{◌≡◌, ◌≢◌, zero, Bool, true, false, cond, List, [], ◌∷◌, Option, Some, None, Contains, map, refl, sym, ap, ◌∙◌, subst, arith, nat_cmp, Less}
use Rattle.std.specs.List.{AllByRecursion}
use Rattle.std.specs.List.Sorted.{IsPermutation}
use Rattle.std.specs.Str.{bytes_eq}
use Rattle.std.specs.Cmp.Lexicographic.{slice_cmp}
use Rattle.std.specs.Ordering.{ordering_reverse}
use Rattle.std.proofs.lemmas.Slice.Eq.{bytes_eq-Decides}
use Rattle.std.proofs.lemmas.List.Elements.{All-contains, All-from_recursion, Contains-append_right}
use Rattle.std.proofs.lemmas.List.Sorted.{Contains-permutation}
use Rattle.std.proofs.lemmas.Map.Keys.{sorted_head, sorted_tail}
use Rattle.std.proofs.lemmas.Cmp.{nat_list_cmp_total}
use Rattle.eden_model.specs.declared.tree_entry.TreeEntry.{TreeEntry}
use Rattle.eden_model.specs.Trees.{Name}
use Rattle.eden_model.specs.Named.{named, AreRising}
use Rattle.eden_model.specs.Repository.{entry_named}
use Rattle.eden_object.specs.Trees.{IsFree, NamesDiffer}
use Rattle.eden_overlay_format.specs.declared.stored_entry.StoredEntry.{StoredEntry}
use Rattle.eden_overlay_format.specs.Directory.{IsStorable, HasOrigin, AreStorable}

-- ---- the entries of a tree, in whatever order

told : (b : Bool) (n m : Name) → bytes_eq n m ≡ b → n ≡ m → b ≡ true
told b n m e same = sym e ∙ (bytes_eq-Decides n m).1 same

untold : (n m : Name) → n ≢ m → (b : Bool) → bytes_eq n m ≡ b → b ≡ false
untold n m other true e = absurd (other ((bytes_eq-Decides n m).0 e))
untold n m other false e = refl

-- what is found is there, and has the name
found_or : (n : Name) (t x : TreeEntry) (ts : List TreeEntry) (b : Bool) → bytes_eq n t.name ≡ b
    → (entry_named n ts ≡ Some x → Contains ts x × (n ≡ x.name)) → cond b (Some t) (entry_named n ts) ≡ Some x → Contains (t ∷ ts) x × (n ≡ x.name)
found_or n t x ts true e others is =
    let same : t ≡ x = cc in
    ((zero, omega arith, same), (bytes_eq-Decides n t.name).0 e ∙ ap (λ (y : TreeEntry). y.name) same)
found_or n t x ts false e others is =
    let at = others is in
    (Contains-append_right (t ∷ []) ts x at.0, at.1)

found : (n : Name) (x : TreeEntry) (ts : List TreeEntry) → entry_named n ts ≡ Some x → Contains ts x × (n ≡ x.name)
found n x [] is = absurd (cc)
found n x (t ∷ ts) is = found_or n t x ts (bytes_eq n t.name) refl (found n x ts) is

-- where the names differ, each is found
others : (t : TreeEntry) (ts xs : List TreeEntry) → IsFree t.name xs → AllByRecursion (λ x. entry_named x.name ts ≡ Some x) xs
    → AllByRecursion (λ x. entry_named x.name (t ∷ ts) ≡ Some x) xs
others t ts [] free all = tt
others t ts (x ∷ xs) free all = (
  ap (λ b. cond b (Some t) (entry_named x.name ts)) (untold x.name t.name free.0 (bytes_eq x.name t.name) refl) ∙ all.0,
  others t ts xs free.1 all.1,
)

each_found : (ts : List TreeEntry) → NamesDiffer ts → AllByRecursion (λ x. entry_named x.name ts ≡ Some x) ts
each_found [] differ = tt
each_found (t ∷ ts) differ = (
  ap (λ b. cond b (Some t) (entry_named t.name ts)) (told (bytes_eq t.name t.name) t.name t.name refl refl),
  others t ts ts differ.0 (each_found ts differ.1),
)

there : (ts : List TreeEntry) (x : TreeEntry) → NamesDiffer ts → Contains ts x → entry_named x.name ts ≡ Some x
there ts x differ h =
    let each = All-from_recursion (λ y. entry_named y.name ts ≡ Some y) ts (each_found ts differ) in
    All-contains (λ y. entry_named y.name ts ≡ Some y) ts x each h

-- the same is found in another order
in_order : (n : Name) (ts us : List TreeEntry) → IsPermutation ts us → NamesDiffer us → (o p : Option TreeEntry) → entry_named n ts ≡ o → entry_named n us ≡ p
    → NamesDiffer ts → IsPermutation us ts → p ≡ o
in_order n ts us moved differ None None e f before back = refl
in_order n ts us moved differ (Some x) p e f before back =
    let at = found n x ts e in
    let is : entry_named x.name us ≡ Some x = there us x differ (Contains-permutation ts us x moved at.0) in
    sym f ∙ ap (λ (m : Name). entry_named m us) at.1 ∙ is
in_order n ts us moved differ None (Some y) e f before back =
    let at = found n y us f in
    let is : entry_named y.name ts ≡ Some y = there ts y before (Contains-permutation us ts y back at.0) in
    let wrong : None ≡ Some y = sym e ∙ ap (λ (m : Name). entry_named m ts) at.1 ∙ is in
    absurd (cc)

pub permuted : (n : Name) (ts us : List TreeEntry) → IsPermutation ts us → IsPermutation us ts → NamesDiffer ts → NamesDiffer us
    → entry_named n us ≡ entry_named n ts
permuted n ts us moved back before differ = in_order n ts us moved differ (entry_named n ts) (entry_named n us) refl refl before back

-- ---- the entries of a stored directory

-- the entry of that name
abbrev pub stored_named : Name → List StoredEntry → Option StoredEntry
stored_named n es = named (λ (e : StoredEntry). e.name) n es

-- each name once, and a directory alone is empty
abbrev pub AreFine : List StoredEntry → Type 0
AreFine [] = Unit {0}
AreFine (e ∷ es) = (stored_named e.name es ≡ None) × HasOrigin e.kind e.origin × AreFine es

never_less : (n : Name) → slice_cmp nat_cmp n n ≡ Less → ⊥
never_less n less =
    let flipped : Less ≡ ordering_reverse Less = sym less ∙ nat_list_cmp_total.antisymm n n ∙ ap ordering_reverse less in
    cc

none_here : (n : Name) (x : StoredEntry) (es : List StoredEntry) (b : Bool) → bytes_eq n x.name ≡ b → slice_cmp nat_cmp n x.name ≡ Less
    → stored_named n es ≡ None → cond b (Some x) (stored_named n es) ≡ None
none_here n x es true e less none =
    let same = (bytes_eq-Decides n x.name).0 e in
    absurd (never_less n (subst (λ (m : Name). slice_cmp nat_cmp n m ≡ Less) (sym same) less))
none_here n x es false e less none = none

none_above : (n : Name) (es : List StoredEntry) → AllByRecursion (λ (m : Name). slice_cmp nat_cmp n m ≡ Less) (map (λ (e : StoredEntry). e.name) es)
    → stored_named n es ≡ None
none_above n [] above = refl
none_above n (x ∷ es) above = none_here n x es (bytes_eq n x.name) refl above.0 (none_above n es above.1)

fine_by : (es : List StoredEntry) → AreRising (λ (e : StoredEntry). e.name) es → AllByRecursion IsStorable es → AreFine es
fine_by [] rising each = tt
fine_by (e ∷ es) rising each =
    let cmp = slice_cmp nat_cmp in
    let names = map (λ (x : StoredEntry). x.name) es in (
      none_above e.name es (sorted_head cmp e.name names rising),
      each.0.origin,
      fine_by es (sorted_tail cmp e.name names rising) each.1,
    )

pub fine : (es : List StoredEntry) → AreStorable es → AreFine es
fine es are = fine_by es are.rising are.each
