-- What is known of the entries of a directory that stay.
use Rattle.std.proofs.Common.{◌≡◌, ◌∙◌, ◌++◌, ◌≤◌, ◌<◌, ℕ, List, [], ◌∷◌, map, length, get_or, ◌+◌, Contains, refl, sym, ap, subst, inl, inr, arith, nat_cmp, Less}
use Rattle.std.specs.Cmp.Lexicographic.{slice_cmp}
use Rattle.std.specs.List.{AllByRecursion}
use Rattle.std.specs.List.Sorted.{IsStrictlySortedBy}
use Rattle.std.specs.declared.cmp.Ordering.{Ordering}
use Rattle.std.proofs.lemmas.Bool.{cases_lt}
use Rattle.std.proofs.lemmas.Cmp.{nat_list_cmp_total}
use Rattle.std.proofs.lemmas.List.{get_or-map, get_or_append_left, get_or_default, get_or_push, length-append, length-map, map-append}
use Rattle.std.proofs.lemmas.Map.Keys.{Less-from_sorted, sorted_from_all_adjacent}
use Rattle.std.proofs.lemmas.List.Elements.{All-contains, All-contains_itself, All-map, All-weaker, Contains-append_left, Contains-push, Contains-push_cases}
use Rattle.eden_model.specs.Trees.{Name}
use Rattle.eden_overlay_format.specs.declared.stored_entry.StoredEntry.{StoredEntry}
use Rattle.eden_overlay_format.specs.Directory.{AreStorable, IsStorable}
use Rattle.eden_overlay.specs.Files.{Stored}
use Rattle.eden_overlay.specs.Soundness.{HasOwn}
use Rattle.eden_overlay.proofs.CallerLemmas.{contains_none}
use Rattle.eden_repair.specs.declared.finding.Finding.{Finding}
use Rattle.eden_repair.specs.Repairing.{Sorts}

-- ---- names that rise, with one more

abbrev cmp : Name → Name → Ordering
cmp = slice_cmp nat_cmp

abbrev Rise : List Name → Type 0
Rise ns = IsStrictlySortedBy cmp ns

front_rises : (ns : List Name) (n : Name) → Rise (ns ++ n ∷ []) → Rise ns × ((m : Name) → Contains ns m → cmp m n ≡ Less)
front_rises ns n rises = (sorted_from_all_adjacent nat_list_cmp_total ns n adjacent, last) where
  long : length (ns ++ n ∷ []) ≡ length ns + 1
  long = length-append ns (n ∷ [])

  at : (k : ℕ) → k < length ns → get_or (ns ++ n ∷ []) k n ≡ get_or ns k n
  at k within = get_or_append_left ns (n ∷ []) n k within

  adjacent : (k : ℕ) → k + 1 < length ns → cmp (get_or ns k n) (get_or ns (k + 1) n) ≡ Less
  adjacent k within =
      subst (λ m. cmp m (get_or ns (k + 1) n) ≡ Less) (at k (omega (arith, within))) (subst (λ m. cmp (get_or (ns ++ n ∷ []) k n) m ≡ Less) (at (k + 1) within)
      (Less-from_sorted cmp (ns ++ n ∷ []) k (k + 1) n rises (omega arith) (omega (arith, within, long))))

  last : (m : Name) → Contains ns m → cmp m n ≡ Less
  last m (k, within, is) =
      subst (λ x. cmp x n ≡ Less) (get_or_append_left ns (n ∷ []) m k within ∙ is) (subst (λ x. cmp (get_or (ns ++ n ∷ []) k m) x ≡ Less) (get_or_push ns n m (length ns) refl)
      (Less-from_sorted cmp (ns ++ n ∷ []) k (length ns) m rises within (omega (arith, long))))

push_rises : (ns : List Name) (n : Name) → Rise ns → ((m : Name) → Contains ns m → cmp m n ≡ Less) → Rise (ns ++ n ∷ [])
push_rises ns n rises less = sorted_from_all_adjacent nat_list_cmp_total (ns ++ n ∷ []) n adjacent where
  long : length (ns ++ n ∷ []) ≡ length ns + 1
  long = length-append ns (n ∷ [])

  at : (k : ℕ) → k < length ns → get_or (ns ++ n ∷ []) k n ≡ get_or ns k n
  at k within = get_or_append_left ns (n ∷ []) n k within

  Follows : ℕ → Type 0
  Follows k = cmp (get_or (ns ++ n ∷ []) k n) (get_or (ns ++ n ∷ []) (k + 1) n) ≡ Less

  adjacent : (k : ℕ) → k + 1 < length (ns ++ n ∷ []) → Follows k
  adjacent k within = elim (cases_lt (k + 1) (length ns)) [
    | inl inner ↦
        (let first : k < length ns = omega (arith, inner) in
        subst (λ m. cmp m (get_or (ns ++ n ∷ []) (k + 1) n) ≡ Less) (sym (at k first)) (subst (λ m. cmp (get_or ns k n) m ≡ Less) (sym (at (k + 1) inner))
        (Less-from_sorted cmp ns k (k + 1) n rises (omega arith) inner)))
    | inr ends ↦
        (let first : k < length ns = omega (arith, within, long) in
        let is_last : length ns ≡ k + 1 = omega (arith, within, long, ends) in
        subst (λ m. cmp m (get_or (ns ++ n ∷ []) (k + 1) n) ≡ Less) (sym (at k first)) (subst (λ m. cmp (get_or ns k n) m ≡ Less) (sym (get_or_push ns n n (k + 1) is_last))
        (less (get_or ns k n) (k, first, get_or_any k first))))
  ] where
    get_or_any : (k : ℕ) → k < length ns → get_or ns k (get_or ns k n) ≡ get_or ns k n
    get_or_any k first = get_or_default ns k (get_or ns k n) n first

all_before : (P : StoredEntry → Type 0) (es : List StoredEntry) (e : StoredEntry) → AllByRecursion P (es ++ e ∷ []) → AllByRecursion P es × P e
all_before P [] e all = (tt, all.0)
all_before P (x ∷ es) e all = let rest = all_before P es e all.1 in ((all.0, rest.0), rest.1)

all_behind : (P : StoredEntry → Type 0) (es : List StoredEntry) (e : StoredEntry) → AllByRecursion P es → P e → AllByRecursion P (es ++ e ∷ [])
all_behind P [] e all last = (last, tt)
all_behind P (x ∷ es) e all last = (all.0, all_behind P es e all.1 last)

some : (cut : List Finding) (f : Finding) → cut ++ f ∷ [] ≡ [] → ⊥
some [] f is = absurd (cc)
some (c ∷ cut) f is = absurd (cc)

-- ---- the entries that stay are storable, as all were, and have their files

abbrev names : List StoredEntry → List Name
names es = map (λ (e : StoredEntry). e.name) es

record Stay (F : Stored) (entries kept : List StoredEntry) : Type 0 where
  rises : Rise (names kept)
  each : AllByRecursion IsStorable kept
  fewer : length kept ≤ length entries
  among : (e : StoredEntry) → Contains kept e → Contains entries e
  own : (e : StoredEntry) → Contains kept e → HasOwn F e

front_of : (es : List StoredEntry) (e : StoredEntry) → Rise (names (es ++ e ∷ [])) → Rise (names es) × ((x : StoredEntry) → Contains es x → cmp x.name e.name ≡ Less)
front_of es e rises =
    let front = front_rises (names es) e.name (subst Rise (map-append (λ (y : StoredEntry). y.name) es (e ∷ [])) rises) in
    (front.0, λ x there. front.1 x.name (named x there))
  where
    named : (x : StoredEntry) → Contains es x → Contains (names es) x.name
    named x (k, within, is) =
        let f : StoredEntry → Name = λ y. y.name in
        (k, omega (arith, within, length-map es f), get_or-map f es k x x.name within ∙ ap f is)

with_one : (es : List StoredEntry) (e : StoredEntry) → Rise (names es) → ((x : StoredEntry) → Contains es x → cmp x.name e.name ≡ Less) → Rise (names (es ++ e ∷ []))
with_one es e rises less =
    let P : Name → Type 0 = λ n. cmp n e.name ≡ Less in
    let Q : StoredEntry → Type 0 = λ x. P x.name in
    let all = All-map P (λ (x : StoredEntry). x.name) es (All-weaker (Contains es) Q less es (All-contains_itself es)) in
    subst Rise (sym (map-append (λ (y : StoredEntry). y.name) es (e ∷ []))) (push_rises (names es) e.name rises (λ n there. All-contains P (names es) n all there))

module _ (F : Stored) (at : List Name) (stayed : List StoredEntry) where
  gone : (entries kept : List StoredEntry) (e : StoredEntry) → Stay F entries kept → Stay F (entries ++ e ∷ []) kept
  gone entries kept e s = record {
    rises = s.rises;
    each = s.each;
    fewer = let long = length-append entries (e ∷ []) in let few = s.fewer in omega (arith, long, few);
    among = λ x there. Contains-append_left entries (e ∷ []) x (s.among x there);
    own = s.own;
  }

  they_stay : (entries kept : List StoredEntry) (cut : List Finding) → Sorts F at stayed entries kept cut → Rise (names entries) → AllByRecursion IsStorable entries
      → Stay F entries kept
  they_stay entries kept cut Sorts.none rises each = record {
    rises = rises;
    each = tt;
    fewer = omega arith;
    among = λ e there. there;
    own = λ e there. absurd (contains_none e there);
  }
  they_stay entries kept cut (Sorts.stays es ks cs e s own) rises each =
      let front = front_of es e rises in
      let all = all_before IsStorable es e each in
      let was = they_stay es ks cs s front.0 all.0 in
      record {
        rises = with_one ks e was.rises (λ x there. front.1 x (was.among x there));
        each = all_behind IsStorable ks e was.each all.1;
        fewer = let long = length-append es (e ∷ []) in let more = length-append ks (e ∷ []) in let few = was.fewer in omega (arith, long, more, few);
        among = λ x there. elim (Contains-push_cases ks e x there) [
          | inl old ↦ Contains-append_left es (e ∷ []) x (was.among x old)
          | inr is ↦ subst (Contains (es ++ e ∷ [])) is (Contains-push es e)
        ];
        own = λ x there. elim (Contains-push_cases ks e x there) [ inl old ↦ was.own x old | inr is ↦ subst (HasOwn F) is own ];
      }
  they_stay entries kept cut (Sorts.lost es ks cs e d f s own damaged tells) rises each =
      gone es kept e (they_stay es ks cs s (front_of es e rises).0 (all_before IsStorable es e each).0)
  they_stay entries kept cut (Sorts.twice es ks cs e f s has tells) rises each =
      gone es kept e (they_stay es ks cs s (front_of es e rises).0 (all_before IsStorable es e each).0)

  pub they_are : (entries kept : List StoredEntry) (cut : List Finding) → Sorts F at stayed entries kept cut → AreStorable entries
      → AreStorable kept × ((e : StoredEntry) → Contains kept e → HasOwn F e)
  they_are entries kept cut s are =
      let stay = they_stay entries kept cut s are.rising are.each in
      let few = stay.fewer in
      let count = are.count in
      (record { count = omega (arith, few, count); rising = stay.rises; each = stay.each }, stay.own)

  -- all stay where none was cut
  pub none_cut : (entries kept : List StoredEntry) (cut : List Finding) → Sorts F at stayed entries kept cut → cut ≡ [] → kept ≡ entries
  none_cut entries kept cut Sorts.none none = refl
  none_cut entries kept cut (Sorts.stays es ks cs e s own) none = ap (λ l. l ++ e ∷ []) (none_cut es ks cs s none)
  none_cut entries kept cut (Sorts.lost es ks cs e d f s own damaged tells) none = absurd (some cs f none)
  none_cut entries kept cut (Sorts.twice es ks cs e f s has tells) none = absurd (some cs f none)
