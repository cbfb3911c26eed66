-- Entries and the directories that name them, in lists.
use Rattle.std.proofs.Common.{◌≡◌, ◌⊎◌, ◌∙◌, ℕ, zero, suc, List, [], ◌∷◌, ◌++◌, map, reverse, length, Contains, refl, sym, ap, subst, inl, inr, arith, nat_cmp, Less}
use Rattle.std.specs.Cmp.Lexicographic.{slice_cmp}
use Rattle.std.specs.Ordering.{ordering_reverse}
use Rattle.std.proofs.lemmas.List.{reverse-append, map-append, length-append, length-map, get_or-map, append_cancel_right}
use Rattle.std.proofs.lemmas.List.Elements.{All-contains, All-contains_itself, All-from_recursion, All-map, All-weaker, Contains-append_right, Contains-append_cases}
use Rattle.std.proofs.lemmas.List.Sorted.{IsPermutation-reverse, All-permutation}
use Rattle.std.proofs.lemmas.Map.Keys.{sorted_head, sorted_tail}
use Rattle.std.proofs.lemmas.Cmp.{nat_list_cmp_total}
use Rattle.eden_model.specs.declared.kind.Origin.{Origin}
use Rattle.eden_model.specs.Trees.{Name}
use Rattle.eden_model.specs.Named.{AreRising}
use Rattle.eden_model.specs.Numbers.{IsNumber}
use Rattle.eden_overlay_format.specs.declared.stored_entry.StoredEntry.{StoredEntry}
use Rattle.eden_overlay_format.specs.Directory.{IsStorable, AreStorable}
use Rattle.eden_overlay.specs.declared.rescan.Pending.{Pending}
use Rattle.eden_overlay.specs.Walking.{pending_of, pending_in, AreInRange, Place, AreApart}

-- ---- lists

pub contains_first : {X : Type 0} (x : X) (xs : List X) → Contains (x ∷ xs) x
contains_first x xs = (zero, omega arith, refl)

pub contains_rest : {X : Type 0} (x y : X) (xs : List X) → Contains xs y → Contains (x ∷ xs) y
contains_rest x y xs h = Contains-append_right (x ∷ []) xs y h

pub contains_cases : {X : Type 0} (x y : X) (xs : List X) → Contains (x ∷ xs) y → (x ≡ y) ⊎ Contains xs y
contains_cases x y xs (zero, within, is) = inl is
contains_cases x y xs (suc k, within, is) = inr (k, omega (arith, within), is)

pub contains_none : {X : Type 0} (x : X) → Contains [] x → ⊥
contains_none x h = let within = h.1 in absurd (omega (arith, within))

mapped_there : {X Y : Type 0} (f : X → Y) (xs : List X) (x : X) → Contains xs x → Contains (map f xs) (f x)
mapped_there f xs x h =
    let within = h.1 in
    (h.0, omega (arith, within, length-map xs f), get_or-map f xs h.0 x (f x) h.1 ∙ ap f h.2)

-- ---- places

abbrev pub at : ℕ → Origin → StoredEntry → Place
at d o e = record { directory = d; from = o; entry = e }

pub same_place : (p q : Place) → p.directory ≡ q.directory → p.from ≡ q.from → p.entry ≡ q.entry → p ≡ q
same_place p q d o e =
    let first : p ≡ at q.directory p.from p.entry = ap (λ (k : ℕ). at k p.from p.entry) d in
    let second : at q.directory p.from p.entry ≡ at q.directory q.from p.entry = ap (λ (f : Origin). at q.directory f p.entry) o in
    let third : at q.directory q.from p.entry ≡ q = ap (λ (x : StoredEntry). at q.directory q.from x) e in
    first ∙ second ∙ third

-- the entries of a directory, as places
pub places_there : (d : ℕ) (o : Origin) (es : List StoredEntry) (p : Place) → p.directory ≡ d → p.from ≡ o → Contains es p.entry → Contains (map (at d o) es) p
places_there d o es p is from h =
    subst (Contains (map (at d o) es)) (same_place (at d o p.entry) p (sym is) (sym from) refl) (mapped_there (at d o) es p.entry h)

pub places_from : (d : ℕ) (o : Origin) (es : List StoredEntry) (p : Place) → Contains (map (at d o) es) p → (p.directory ≡ d) × (p.from ≡ o) × Contains es p.entry
places_from d o es p h =
    let P : Place → Type 0 = λ q. (q.directory ≡ d) × (q.from ≡ o) × Contains es q.entry in
    All-contains P (map (at d o) es) p (All-map P (at d o) es (All-weaker (Contains es) (λ e. P (at d o e)) (λ e there. (refl, refl, there)) es (All-contains_itself es))) h

pub entries_at : (d : ℕ) (o : Origin) (es : List StoredEntry) → map (λ (p : Place). p.entry) (map (at d o) es) ≡ es
entries_at d o [] = refl
entries_at d o (e ∷ es) = ap (λ l. e ∷ l) (entries_at d o es)

-- names that rise come once
never_less : (n : Name) → slice_cmp nat_cmp n n ≡ Less → ⊥
never_less n less =
    let flipped : Less ≡ ordering_reverse Less = sym less ∙ nat_list_cmp_total.antisymm n n ∙ ap ordering_reverse less in
    cc

pub places_apart : (d : ℕ) (o : Origin) (es : List StoredEntry) → AreRising (λ (e : StoredEntry). e.name) es → AreApart (map (at d o) es)
places_apart d o [] rising = tt
places_apart d o (e ∷ es) rising =
    let cmp = slice_cmp nat_cmp in
    let name : StoredEntry → Name = λ x. x.name in
    let above = All-from_recursion (λ n. cmp e.name n ≡ Less) (map name es) (sorted_head cmp e.name (map name es) rising) in (
      λ twice. never_less e.name (All-contains (λ n. cmp e.name n ≡ Less) (map name es) e.name above (mapped_there name es e (places_from d o es (at d o e) twice).2)),
      places_apart d o es (sorted_tail cmp e.name (map name es) rising),
    )

pub apart-append : (ps qs : List Place) → AreApart ps → AreApart qs → ((p : Place) → Contains ps p → ¬ Contains qs p) → AreApart (ps ++ qs)
apart-append [] qs a b never = b
apart-append (p ∷ ps) qs a b never = (
  λ twice. elim (Contains-append_cases ps qs p twice) [
    | inl h ↦ a.0 h
    | inr h ↦ never p (contains_first p ps) h
  ],
  apart-append ps qs a.1 b (λ q h. never q (contains_rest p q ps h)),
)

-- ---- what is pending

pub pending-append : (es fs : List StoredEntry) → pending_in (es ++ fs) ≡ pending_in fs ++ pending_in es
pending-append es fs = ap (map pending_of) (reverse-append es fs) ∙ map-append pending_of (reverse fs) (reverse es)

-- what is popped is the next place's
pub record Popped (left : List Place) (pending : List Pending) (x : Pending) : Type 0 where
  pub place : Place
  pub rest : List Place
  pub left_is : left ≡ place ∷ rest
  pub is : x ≡ pending_of place.entry
  pub others : pending ≡ pending_in (map (λ (p : Place). p.entry) rest)

snoc_last : {X : Type 0} (xs ys : List X) (x y : X) → xs ++ x ∷ [] ≡ ys ++ y ∷ [] → x ≡ y
snoc_last [] [] x y e = cc
snoc_last [] (b ∷ ys) x y e = let n = ap length e in let m = length-append ys (y ∷ []) in absurd (omega (arith, n, m))
snoc_last (a ∷ xs) [] x y e = let n = ap length e in let m = length-append xs (x ∷ []) in absurd (omega (arith, n, m))
snoc_last (a ∷ xs) (b ∷ ys) x y e = snoc_last xs ys x y (cc)

pub popped : (left : List Place) (pending : List Pending) (x : Pending) → pending ++ x ∷ [] ≡ pending_in (map (λ (p : Place). p.entry) left) → Popped left pending x
popped [] pending x e = let n = ap length e in let m = length-append pending (x ∷ []) in absurd (omega (arith, n, m))
popped (p ∷ rest) pending x e =
    let es = map (λ (q : Place). q.entry) rest in
    let both : pending ++ x ∷ [] ≡ pending_in es ++ pending_of p.entry ∷ [] = e ∙ pending-append (p.entry ∷ []) es in
    let same : x ≡ pending_of p.entry = snoc_last pending (pending_in es) x (pending_of p.entry) both in
    record {
      place = p;
      rest = rest;
      left_is = refl;
      is = same;
      others = append_cancel_right pending (pending_in es) (pending_of p.entry ∷ []) (ap (λ y. pending ++ y ∷ []) (sym same) ∙ both);
    }

pub none_left : (left : List Place) → [] ≡ pending_in (map (λ (p : Place). p.entry) left) → left ≡ []
none_left [] e = refl
none_left (p ∷ rest) e =
    let es = map (λ (q : Place). q.entry) rest in
    let n = ap length (e ∙ pending-append (p.entry ∷ []) es) in
    let m = length-append (pending_in es) (pending_of p.entry ∷ []) in
    absurd (omega (arith, n, m))

-- what is pending of a directory's entries is in range
pub pending_in_range : (es : List StoredEntry) → AreStorable es → AreInRange (pending_in es)
pending_in_range es are =
    let Q : StoredEntry → Type 0 = λ e. IsNumber e.number in
    let each = All-weaker IsStorable Q (λ e s. (s.least, s.most)) es (All-from_recursion IsStorable es are.each) in
    All-map (λ (p : Pending). IsNumber p.number) pending_of (reverse es) (All-permutation Q es (reverse es) (IsPermutation-reverse es) each)
