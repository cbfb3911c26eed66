-- Lemmas on how trees are written.
use Rattle.std.proofs.Common.{◌≡◌, ◌≢◌, ◌⊎◌, inl, inr, ℕ, zero, suc, ◌<◌, ◌≤◌, ◌+◌, ◌^◌, true, false, None, List, [], ◌∷◌, ◌++◌, length, map, get_or, slice_index, sym, ap, ◌∙◌, subst, refl, arith}
use Rattle.std.proofs.Common.{append_assoc, append-nil}
use Rattle.std.specs.List.{AllByRecursion}
use Rattle.std.specs.List.Sorted.{IsPermutation, IsSortedBy}
use Rattle.std.specs.Cmp.Lexicographic.{slice_cmp}
use Rattle.std.specs.declared.cmp.Ordering.TheVariants.{Less, Equal, Greater}
use Rattle.std.specs.Cmp.{nat_cmp_is}
use Rattle.std.specs.Ordering.{nat_cmp, is_lt, ordering_reverse}
use Rattle.std.proofs.lemmas.Cmp.{nat_cmp_total, nat_list_cmp_total, tied_itself}
use Rattle.std.proofs.lemmas.List.Concat.{length-flat_map}
use Rattle.std.proofs.lemmas.Grind.{flat_map-append}
use Rattle.std.proofs.lemmas.List.Elements.{All-from_recursion, recursion_from_All}
use Rattle.std.proofs.lemmas.List.Sorted.{sum_by-IsPermutation, IsPermutation-sym, All-permutation}
use Rattle.std.proofs.lemmas.Map.Keys.{IsDistinct-IsPermutation}
use Rattle.eden_model.specs.declared.tree_entry.TreeEntry.{TreeEntry}
use Rattle.eden_model.specs.Names.{name_refusal}
use Rattle.eden_object.specs.Encoding.{entry_text, tree_text, IsEncoded}
use Rattle.eden_object.specs.declared.word.Word.TheVariants as word
use Rattle.eden_object.specs.Frames.{frame}
use Rattle.eden_object.specs.Order.{key_of, IsBelow, IsOrdered}
use Rattle.eden_object.specs.Trees.{IsEntryText, AreEntries, NamesDiffer}
use Rattle.eden_object.proofs.CheckLemmas.{both}
use Rattle.eden_object.proofs.OrderLemmas.{Shares, shared_of, stand, below_on}
use Rattle.eden_object.proofs.SortLemmas.{bytes_eq-flips, names_distinct}

-- one entry more
pub entries_push : (es : List TreeEntry) (body : List ℕ) (e : TreeEntry) (text : List ℕ) → AreEntries es body → IsEntryText e text
    → AreEntries (es ++ e ∷ []) (body ++ text)
entries_push [] body e text h t = (text, [], t, refl, rw h (sym (append-nil text)))
entries_push (d ∷ es) body e text h t = (h.0, h.1 ++ text, h.2, entries_push es h.1 e text h.3 t, ap (λ b. b ++ text) h.4 ∙ append_assoc h.0 h.1 text)

pub text_push : (es : List TreeEntry) (e : TreeEntry) → tree_text (es ++ e ∷ []) ≡ tree_text es ++ entry_text e
text_push es e = flat_map-append entry_text es (e ∷ []) ∙ ap (λ t. tree_text es ++ t) (append-nil (entry_text e))

-- in whatever order, as long
pub same_length : (es fs : List TreeEntry) → IsPermutation es fs → length (tree_text fs) ≡ length (tree_text es)
same_length es fs p = length-flat_map entry_text fs ∙ sum_by-IsPermutation (λ e. length (entry_text e)) es fs p ∙ sym (length-flat_map entry_text es)

-- in whatever order, the names differ
pub same_differ : (es fs : List TreeEntry) → IsPermutation es fs → NamesDiffer es → NamesDiffer fs
same_differ es fs p h =
    let key = λ (e : TreeEntry). e.name in
    (names_distinct key fs fs refl).1 (IsDistinct-IsPermutation _ (λ d e. bytes_eq-flips d.name e.name) es fs p ((names_distinct key es es refl).0 h))

-- ---- the order of keys

less_from : (n : ℕ) (xs ys : List ℕ) → ((i : ℕ) → i < n → slice_index xs i ≡ slice_index ys i) → slice_index xs n < slice_index ys n
    → slice_cmp nat_cmp xs ys ≡ Less
less_from n xs [] same less = absurd (omega arith)
less_from n [] (y ∷ ys) same less = refl
less_from zero (x ∷ xs) (y ∷ ys) same less = let first = nat_cmp_is x y Less less in cc
less_from (suc n) (x ∷ xs) (y ∷ ys) same less =
    let here : x ≡ y = same 0 (omega arith) in
    let first : nat_cmp x y ≡ Equal = ap (nat_cmp x) (sym here) ∙ tied_itself nat_cmp_total x in
    let rest = less_from n xs ys (λ i h. same (suc i) (omega arith)) less in
    cc

below_less : (xs ys : List ℕ) → IsBelow xs ys → slice_cmp nat_cmp xs ys ≡ Less
below_less xs ys b = less_from b.shared xs ys b.same b.smaller

above_greater : (xs ys : List ℕ) → IsBelow ys xs → slice_cmp nat_cmp xs ys ≡ Greater
above_greater xs ys b = nat_list_cmp_total.antisymm xs ys ∙ ap ordering_reverse (below_less ys xs b)

-- the bytes where the names part stand to each other as the keys do
pub compare_keys : (d e : TreeEntry) (n : ℕ) → name_refusal d.name ≡ None → name_refusal e.name ≡ None → Shares d.name e.name n
    → nat_cmp (slice_index (key_of d) n) (slice_index (key_of e) n) ≡ slice_cmp nat_cmp (key_of d) (key_of e)
compare_keys d e n good fine s = elim (stand d e n good fine s) [
  | inl below ↦ sym (nat_cmp_is (slice_index (key_of d) n) (slice_index (key_of e) n) Less below.1) ∙ sym (below_less (key_of d) (key_of e) below.0)
  | inr (inl above) ↦ sym (nat_cmp_is (slice_index (key_of d) n) (slice_index (key_of e) n) Greater above.1) ∙ sym (above_greater (key_of d) (key_of e) above.0)
  | inr (inr same) ↦ ap (λ k. nat_cmp (slice_index k n) (slice_index (key_of e) n)) same.1 ∙ tied_itself nat_cmp_total (slice_index (key_of e) n) ∙ sym
      (ap (λ k. slice_cmp nat_cmp k (key_of e)) same.1 ∙ tied_itself nat_list_cmp_total (key_of e))
]

-- of two names that differ the first is before the second, where the second isn't before the first
pub next_below : (d e : TreeEntry) → name_refusal d.name ≡ None → name_refusal e.name ≡ None → d.name ≢ e.name
    → is_lt (slice_cmp nat_cmp (key_of e) (key_of d)) ≡ false → IsBelow (key_of d) (key_of e)
next_below d e good fine other up =
    let shared = shared_of d.name e.name in
    elim (stand d e shared.0 good fine shared.1) [
      | inl below ↦ below.0
      | inr (inl above) ↦ absurd (both true refl (sym (ap is_lt (below_less (key_of e) (key_of d) above.0)) ∙ up))
      | inr (inr same) ↦ absurd (other same.0)
    ]

-- what is sorted by its keys, without equal names, is in Git's order
pub ordered : {X : Type 0} (entry : X → TreeEntry) (xs : List X) (body : List ℕ)
    → IsSortedBy (λ a b. is_lt (slice_cmp nat_cmp (key_of (entry a)) (key_of (entry b)))) xs
    → AreEntries (map entry xs) body → NamesDiffer (map entry xs) → IsOrdered (map entry xs)
ordered entry [] body up h p = tt
ordered entry (x ∷ []) body up h p = (tt, tt)
ordered entry (x ∷ y ∷ xs) body up h p = (
  next_below (entry x) (entry y) h.2.name h.3.2.name (λ same. p.0.0 (sym same)) (up 0 x (omega arith) (omega arith)),
  ordered entry (y ∷ xs) h.1 behind h.3 p.1,
)
  where
    behind : IsSortedBy (λ a b. is_lt (slice_cmp nat_cmp (key_of (entry a)) (key_of (entry b)))) (y ∷ xs)
    behind k d low high =
        let place : suc k + 1 ≡ suc (k + 1) = omega arith in
        subst (λ j. is_lt (slice_cmp nat_cmp (key_of (entry (get_or (x ∷ y ∷ xs) j d))) (key_of (entry (get_or (y ∷ xs) k d)))) ≡ false) place (up (suc k) d (omega arith) (omega arith))

-- ---- one order

-- all behind an entry are above it
above_all : (e : TreeEntry) (es : List TreeEntry) → IsOrdered (e ∷ es) → AllByRecursion (λ f. IsBelow (key_of e) (key_of f)) es
above_all e [] o = tt
above_all e (f ∷ fs) o = (o.0, weaken fs (above_all f fs o.1))
  where
    weaken : (gs : List TreeEntry) → AllByRecursion (λ g. IsBelow (key_of f) (key_of g)) gs → AllByRecursion (λ g. IsBelow (key_of e) (key_of g)) gs
    weaken [] h = tt
    weaken (g ∷ gs) h = ((below_on (key_of e) (key_of f) (key_of g) o.0 h.0).0, weaken gs h.1)

never_below : (k : List ℕ) → IsBelow k k → ⊥
never_below k b = let less = b.smaller in omega arith

-- the one or what is above it
abbrev From : TreeEntry → TreeEntry → Type 0
From e f = (f ≡ e) ⊎ IsBelow (key_of e) (key_of f)

all_from : (e : TreeEntry) (es : List TreeEntry) → AllByRecursion (λ f. IsBelow (key_of e) (key_of f)) es → AllByRecursion (From e) es
all_from e [] h = tt
all_from e (f ∷ fs) h = (inr h.0, all_from e fs h.1)

-- the others, where the first is the same
others : (P : TreeEntry → Type 0) (e : TreeEntry) (es : List TreeEntry) → AllByRecursion (λ f. IsBelow (key_of e) (key_of f)) es
    → AllByRecursion (λ f. (f ≡ e) ⊎ P f) es → AllByRecursion P es
others P e [] up h = tt
others P e (f ∷ fs) up h = (elim h.0 [ inl same ↦ absurd (never_below (key_of e) (subst (λ g. IsBelow (key_of e) (key_of g)) same up.0)) | inr p ↦ p ], others P e fs up.1 h.1)

either : (P : TreeEntry → Type 0) (e : TreeEntry) (es : List TreeEntry) → AllByRecursion P es → AllByRecursion (λ f. (f ≡ e) ⊎ P f) es
either P e [] h = tt
either P e (f ∷ fs) h = (inr h.0, either P e fs h.1)

one_first : (d e : TreeEntry) → From d e → From e d → e ≡ d
one_first d e (inl same) q = same
one_first d e (inr below) (inl same) = sym same
one_first d e (inr below) (inr above) = absurd (never_below (key_of d) (below_on (key_of d) (key_of e) (key_of d) below above).0)

-- two lists in Git's order with the same entries are one
one_order : (es fs : List TreeEntry) → IsOrdered es → IsOrdered fs → ((P : TreeEntry → Type 0) → AllByRecursion P es → AllByRecursion P fs)
    → ((P : TreeEntry → Type 0) → AllByRecursion P fs → AllByRecursion P es) → es ≡ fs
one_order [] [] o q to back = refl
one_order [] (f ∷ fs) o q to back = absurd (to (λ e. ⊥) tt).0
one_order (e ∷ es) [] o q to back = absurd (back (λ e. ⊥) tt).0
one_order (e ∷ es) (f ∷ fs) o q to back =
    let up = above_all e es o in
    let above = above_all f fs q in
    let same = one_first e f (to (From e) (inl refl, all_from e es up)).0 (back (From f) (inl refl, all_from f fs above)).0 in
    let here = subst (λ d. AllByRecursion (λ g. IsBelow (key_of d) (key_of g)) fs) same above in
    ap (λ d. d ∷ es) (sym same) ∙ ap (λ gs. f ∷ gs) (one_order es fs o.1 q.1
    (λ P h. others P e fs here (to (λ g. (g ≡ e) ⊎ P g) (inl refl, either P e es h)).1)
    (λ P h. others P e es up (back (λ g. (g ≡ e) ⊎ P g) (inl same, either P e fs h)).1))

pub one_written : (es fs : List TreeEntry) → IsPermutation es fs → IsOrdered es → IsOrdered fs → es ≡ fs
one_written es fs p o q = one_order es fs o q (λ P h. moved P es fs p h) (λ P h. moved P fs es (IsPermutation-sym es fs p) h)
  where
    moved : (P : TreeEntry → Type 0) (gs hs : List TreeEntry) → IsPermutation gs hs → AllByRecursion P gs → AllByRecursion P hs
    moved P gs hs p h = recursion_from_All P hs (All-permutation P gs hs p (All-from_recursion P gs h))

pub encoded : (es fs : List TreeEntry) (body framed : List ℕ) → IsPermutation es fs → NamesDiffer es → length (tree_text es) ≤ 2 ^ 30 → IsOrdered fs
    → body ≡ tree_text fs → AreEntries fs body → framed ≡ frame word.Tree body → IsEncoded es framed
encoded es fs body framed same differ short order is entries e = record {
  written = fs;
  same = same;
  ordered = order;
  is = e ∙ ap (frame word.Tree) is;
  grammar = record { entries = subst (AreEntries fs) is entries; differ = same_differ es fs same differ };
  short = let size = same_length es fs same in omega arith;
}
