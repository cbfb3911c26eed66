-- The steps of a pass over the directories that count, and its end.
use Rattle.std.proofs.Common.{◌≡◌, ◌≢◌, ◌⊎◌, ◌∙◌, ◌≤◌, ◌<◌, ℕ, ◌==◌, Option, Some, None, length, Bool, true, false, cond, List, [], ◌∷◌, ◌++◌, map, Contains, refl, sym, ap, subst, inl, inr, arith}
use Rattle.std.proofs.Common.{eq-eqb, not, IsTrue, nat_cmp, BTreeSet, btree_set_len}
use Rattle.std.proofs.lemmas.Bool.{ne_eqb}
use Rattle.std.specs.List.{list_any}
use Rattle.std.specs.Option.{unwrap_or}
use Rattle.std.specs.BTreeMap.{is_at}
use Rattle.std.specs.BTreeSet.{contains, IsOrdered, Updates}
use Rattle.std.proofs.lemmas.Cmp.{nat_cmp_total}
use Rattle.std.proofs.lemmas.List.{map-append}
use Rattle.std.proofs.lemmas.Map.Views.{All-set_contains, length-le_from_below}
use Rattle.std.proofs.lemmas.List.Elements.{All-weaker, Contains-append_left, Contains-append_right, Contains-append_cases}
use Rattle.eden_model.specs.declared.id.Id.{Id}
use Rattle.eden_model.specs.declared.kind.Kind.{Kind}
use Rattle.eden_model.specs.declared.kind.Kind.TheVariants as kind
use Rattle.eden_model.specs.declared.kind.Origin.{Origin}
use Rattle.eden_model.specs.declared.kind.Origin.TheVariants as origin
use Rattle.eden_model.specs.Limits.{number_end}
use Rattle.eden_model.specs.Numbers.{IsNumber}
use Rattle.eden_overlay_format.specs.declared.stored_entry.StoredEntry.{StoredEntry}
use Rattle.eden_overlay_format.specs.Directory.{AreStorable}
use Rattle.eden_overlay.specs.declared.rescan.Pending.{Pending}
use Rattle.eden_overlay.specs.Files.{Stored}
use Rattle.eden_overlay.specs.Held.{root_file}
use Rattle.eden_overlay.specs.Soundness.{HoldsKind, AreSound}
use Rattle.eden_overlay.specs.Counting.{root_from, listing_at, ListsEntry, Counts, top, inside, Counted, HasGoodNumbers, HasGoodFile, NumbersAreSound}
use Rattle.eden_overlay.specs.Rescanning.{IsTwice}
use Rattle.eden_overlay.specs.Walking.{pending_of, pending_in, root_pending, IsBelow, Place, AreApart, IsListed, Pass, Walked, GoesOn, AreNamed}
use Rattle.eden_overlay.proofs.Held.{is_at-nat_cmp}
use Rattle.eden_overlay.proofs.Puts.{same_or_apart}
use Rattle.eden_overlay.proofs.Counting.{listing_storable, listed_from_two, names_listed, live_counts, live_counted}
use Rattle.eden_overlay.proofs.Places.{contains_first, contains_rest, contains_cases, contains_none, at, same_place, places_there, places_from, entries_at, places_apart, apart-append, pending-append}
use Rattle.eden_overlay.proofs.Places.{Popped, popped, none_left}

-- places that the pass knows
abbrev pub Known : List Place → List Place → Place → Type 0
Known visited left p = Contains visited p ⊎ Contains left p

-- the numbers that were met, and one more
abbrev pub OneMore : ℕ → (ℕ → Bool) → (ℕ → Bool) → Type 0
OneMore n before after = (q : ℕ) → after q ≡ cond (n == q) true (before q)

-- what is below a place that is visited
pub record Below (F : Stored) (p : Place) (new : List Place) : Type 0 where
  pub from : (q : Place) → Contains new q → (q.directory ≡ p.entry.number) × (q.from ≡ p.entry.origin) × (p.entry.kind ≡ kind.Dir) × IsListed F q
  pub all : p.entry.kind ≡ kind.Dir → (q : Place) → q.directory ≡ p.entry.number → q.from ≡ p.entry.origin → IsListed F q → Contains new q
  pub apart : AreApart new

-- ---- one place more

module _ (F : Stored) (root : Id) (visited rest new : List Place) (p : Place) (before after : ℕ → Bool) (pass : Pass F root visited (p ∷ rest) before) (first : before p.entry.number ≡ false)
    (more : OneMore p.entry.number before after) (there : HasGoodFile F p.entry.number p.entry.kind p.entry.origin) (lower : Below F p new) where
  was : (q : ℕ) → before q ≡ true → after q ≡ true
  was q h = more q ∙ ap (cond (p.entry.number == q) true) h ∙ elim (p.entry.number == q) as (λ b. cond b true true ≡ true) [ true ↦ refl | false ↦ refl ]

  now : after p.entry.number ≡ true
  now = more p.entry.number ∙ ap (λ b. cond b true (before p.entry.number)) (eq-eqb p.entry.number p.entry.number refl)

  earlier : (q : ℕ) → after q ≡ true → (p.entry.number ≡ q) ⊎ (before q ≡ true)
  earlier q h = elim (same_or_apart p.entry.number q) [
    | inl is ↦ inl is
    | inr ne ↦ inr (sym (more q ∙ ap (λ b. cond b true (before q)) (ne_eqb p.entry.number q ne)) ∙ h)
  ]

  next_known : Known visited (p ∷ rest) p
  next_known = inr (contains_first p rest)

  -- no place known before is in the directory that is entered
  stranger : (q : Place) → Known visited (p ∷ rest) q → q.directory ≢ p.entry.number
  stranger q known is = elim (pass.within q known) [
    | inl one ↦ (let least = listed_from_two F p.directory p.from p.entry (pass.live p next_known).1 in absurd (omega (arith, least, one, is)))
    | inr met ↦ (let wrong : true ≡ false = sym met ∙ ap before is ∙ first in cc)
  ]

  onward : (q : Place) → Known visited (p ∷ rest) q → Known (p ∷ visited) (new ++ rest) q
  onward q (inl h) = inl (contains_rest p q visited h)
  onward q (inr h) = elim (contains_cases p q rest h) [
    | inl is ↦ inl (subst (Contains (p ∷ visited)) is (contains_first p visited))
    | inr later ↦ inr (Contains-append_right new rest q later)
  ]

  sorted : (q : Place) → Known (p ∷ visited) (new ++ rest) q → Known visited (p ∷ rest) q ⊎ Contains new q
  sorted q (inl h) = elim (contains_cases p q visited h) [
    | inl is ↦ inl (inr (subst (Contains (p ∷ rest)) is (contains_first p rest)))
    | inr old ↦ inl (inl old)
  ]
  sorted q (inr h) = elim (Contains-append_cases new rest q h) [
    | inl lower ↦ inr lower
    | inr later ↦ inl (inr (contains_rest p q rest later))
  ]

  live : (q : Place) → Known (p ∷ visited) (new ++ rest) q → Counts F root q.directory q.from × IsListed F q
  live q known = elim (sorted q known) [
    | inl old ↦ pass.live q old
    | inr entered ↦
        (let from = lower.from q entered in
        let up = pass.live p next_known in
        let P : ℕ → Type 0 = λ d. Counts F root d q.from in
        let Q : Origin → Type 0 = λ o. Counts F root p.entry.number o in
        (subst P (sym from.0) (subst Q (sym from.1) (inside p.directory p.from p.entry up.0 up.1 from.2)), from.3))
  ]

  within : (q : Place) → Known (p ∷ visited) (new ++ rest) q → (q.directory ≡ 1) ⊎ (after q.directory ≡ true)
  within q known = elim (sorted q known) [
    | inl old ↦ (elim (pass.within q old) [ inl one ↦ inl one | inr met ↦ inr (was q.directory met) ])
    | inr entered ↦ inr (ap after (lower.from q entered).0 ∙ now)
  ]

  one : (q r : Place) → Known (p ∷ visited) (new ++ rest) q → Known (p ∷ visited) (new ++ rest) r → q.directory ≡ r.directory → q.from ≡ r.from
  one q r known too same = elim (sorted q known) [
    | inl old ↦ (elim (sorted r too) [
      | inl earlier ↦ pass.one q r old earlier same
      | inr entered ↦ absurd (stranger q old (same ∙ (lower.from r entered).0))
    ])
    | inr entered ↦ (elim (sorted r too) [
      | inl earlier ↦ absurd (stranger r earlier (sym same ∙ (lower.from q entered).0))
      | inr both ↦ (lower.from q entered).1 ∙ sym (lower.from r both).1
    ])
  ]

  met : (q : Place) → Contains (p ∷ visited) q → after q.entry.number ≡ true
  met q h = elim (contains_cases p q visited h) [
    | inl is ↦ ap (λ (r : Place). after r.entry.number) (sym is) ∙ now
    | inr old ↦ was q.entry.number (pass.met q old)
  ]

  only : (k : ℕ) → after k ≡ true → (q : Place) × (Contains (p ∷ visited) q × (q.entry.number ≡ k))
  only k h = elim (earlier k h) [
    | inl is ↦ (p, (contains_first p visited, is))
    | inr old ↦ (let r = pass.only k old in (r.0, (contains_rest p r.0 visited r.1.0, r.1.1)))
  ]

  not_yet : (q : Place) → Contains visited q → p.entry.number ≢ q.entry.number
  not_yet q old is = let wrong : true ≡ false = sym (pass.met q old) ∙ ap before (sym is) ∙ first in cc

  once : (q r : Place) → Contains (p ∷ visited) q → Contains (p ∷ visited) r → q.entry.number ≡ r.entry.number → q ≡ r
  once q r h g same = elim (contains_cases p q visited h) [
    | inl is ↦ (elim (contains_cases p r visited g) [
      | inl too ↦ sym is ∙ too
      | inr old ↦ absurd (not_yet r old (ap (λ (x : Place). x.entry.number) is ∙ same))
    ])
    | inr was_there ↦ (elim (contains_cases p r visited g) [
      | inl too ↦ absurd (not_yet q was_there (ap (λ (x : Place). x.entry.number) too ∙ sym same))
      | inr old ↦ pass.once q r was_there old same
    ])
  ]

  good : (q : Place) → Contains (p ∷ visited) q → HasGoodFile F q.entry.number q.entry.kind q.entry.origin
  good q h = elim (contains_cases p q visited h) [
    | inl is ↦ (let P : Place → Type 0 = λ x. HasGoodFile F x.entry.number x.entry.kind x.entry.origin in subst P is there)
    | inr old ↦ pass.good q old
  ]

  entered : (q r : Place) → Contains (p ∷ visited) q → q.entry.kind ≡ kind.Dir → r.directory ≡ q.entry.number → r.from ≡ q.entry.origin → IsListed F r
      → Known (p ∷ visited) (new ++ rest) r
  entered q r h dir in_it from listed = elim (contains_cases p q visited h) [
    | inl is ↦
        (let P : Place → Type 0 = λ x. x.entry.kind ≡ kind.Dir → r.directory ≡ x.entry.number → r.from ≡ x.entry.origin → Contains new r in
        inr (Contains-append_left new rest r (subst P is (λ k d f. lower.all k r d f listed) dir in_it from)))
    | inr old ↦ onward r (pass.inside q r old dir in_it from listed)
  ]

  fresh : (q : Place) → Contains (new ++ rest) q → ¬ Contains (p ∷ visited) q
  fresh q h g = elim (Contains-append_cases new rest q h) [
    | inl entered ↦ (elim (contains_cases p q visited g) [
      | inl is ↦ stranger p next_known (ap (λ (x : Place). x.directory) is ∙ (lower.from q entered).0)
      | inr old ↦ stranger q (inl old) (lower.from q entered).0
    ])
    | inr later ↦ (elim (contains_cases p q visited g) [
      | inl is ↦ pass.apart.0 (subst (Contains rest) (sym is) later)
      | inr old ↦ pass.fresh q (contains_rest p q rest later) old
    ])
  ]

  pub visited_one : Pass F root (p ∷ visited) (new ++ rest) after
  visited_one = record {
    live = live;
    within = within;
    one = one;
    met = met;
    only = only;
    once = once;
    good = good;
    top = λ q is from listed. onward q (pass.top q is from listed);
    inside = entered;
    fresh = fresh;
    apart = apart-append new rest lower.apart pass.apart.1 (λ q entered later. stranger q (inr (contains_rest p q rest later)) (lower.from q entered).0);
  }

-- ---- below an inode

-- its entries, as places
module _ (F : Stored) (k : ℕ) (o : Origin) where
  abbrev all_of : List StoredEntry
  all_of = unwrap_or (listing_at F k o) []

  abbrev new_places : List Place
  new_places = map (at k o) all_of

  -- where there is a listing, they are its
  these : (es : List StoredEntry) → listing_at F k o ≡ Some es → all_of ≡ es
  these es held = ap (λ l. unwrap_or l []) held

  held_of : (l : Option (List StoredEntry)) (e : StoredEntry) → Contains (unwrap_or l []) e → (es : List StoredEntry) × ((l ≡ Some es) × Contains es e)
  held_of None e h = absurd (contains_none e h)
  held_of (Some es) e h = (es, (refl, h))

  new_listed : (q : Place) → Contains new_places q → (q.directory ≡ k) × (q.from ≡ o) × IsListed F q
  new_listed q h =
      let from = places_from k o all_of q h in
      let held = held_of (listing_at F k o) q.entry from.2 in
      let P : ℕ → Type 0 = λ d. ListsEntry F d q.from q.entry in
      let Q : Origin → Type 0 = λ f. ListsEntry F k f q.entry in
      (from.0, from.1, subst P (sym from.0) (subst Q (sym from.1) (record { entries = held.0; held = held.1.0; there = held.1.1 })))

  new_all : (q : Place) → q.directory ≡ k → q.from ≡ o → IsListed F q → Contains new_places q
  new_all q is from l =
      let P : ℕ → Type 0 = λ d. listing_at F d q.from ≡ Some l.entries in
      let Q : Origin → Type 0 = λ f. listing_at F k f ≡ Some l.entries in
      let held = subst Q from (subst P is l.held) in
      places_there k o all_of q is from (subst (λ es. Contains es q.entry) (sym (these l.entries held)) l.there)

  apart_of : (l : Option (List StoredEntry)) → ((es : List StoredEntry) → l ≡ Some es → AreStorable es) → AreApart (map (at k o) (unwrap_or l []))
  apart_of None are = tt
  apart_of (Some es) are = places_apart k o es (are es refl).rising

  new_apart : AreApart new_places
  new_apart = apart_of (listing_at F k o) (λ es held. listing_storable F k o es held)

  -- as they are stacked
  new_stack : (pending : List Pending) → pending ≡ pending_in all_of → pending ≡ pending_in (map (λ (q : Place). q.entry) new_places)
  new_stack pending is = is ∙ ap pending_in (sym (entries_at k o all_of))

-- ---- the start

module _ (F : Stored) (root : Id) where
  abbrev from_top : Origin
  from_top = root_from root (root_file F)

  from_root : (p : Place) → Known [] (new_places F 1 from_top) p → p.from ≡ from_top
  from_root p (inl h) = absurd (contains_none p h)
  from_root p (inr h) = (new_listed F 1 from_top p h).1

  pub started : (pending : List Pending) → IsBelow F 1 kind.Dir from_top pending → Walked F root pending (λ _. false)
  started pending lower = record {
    visited = [];
    left = new_places F 1 from_top;
    stack = new_stack F 1 from_top pending (lower.listed refl);
    pass = record {
      live = λ p known. elim known [
        | inl h ↦ absurd (contains_none p h)
        | inr h ↦
            (let from = new_listed F 1 from_top p h in
            let P : ℕ → Type 0 = λ d. Counts F root d p.from in
            let Q : Origin → Type 0 = λ o. Counts F root 1 o in
            (subst P (sym from.0) (subst Q (sym from.1) top), from.2))
      ];
      within = λ p known. elim known [
        | inl h ↦ absurd (contains_none p h)
        | inr h ↦ inl (new_listed F 1 from_top p h).0
      ];
      one = λ p q known too same. from_root p known ∙ sym (from_root q too);
      met = λ p h. absurd (contains_none p h);
      only = λ k wrong. absurd (cc);
      once = λ p q h g same. absurd (contains_none p h);
      good = λ p h. absurd (contains_none p h);
      top = λ p is from listed. inr (new_all F 1 from_top p is from listed);
      inside = λ q p h dir is from listed. absurd (contains_none q h);
      fresh = λ p h g. contains_none p g;
      apart = new_apart F 1 from_top;
    };
  }

-- over the root that was looked at
pub begun : (F G : Stored) (root : Id) (x : Pending) (pending : List Pending) → G ≡ F → x ≡ root_pending root (root_file F) → IsBelow G x.number x.kind x.origin pending
    → IsBelow F 1 kind.Dir (root_from root (root_file F)) pending
begun F G root x pending same is lower =
    subst (λ (X : Stored). IsBelow X 1 kind.Dir (root_from root (root_file F)) pending) same (subst (λ (y : Pending). IsBelow G y.number y.kind y.origin pending) is lower)

-- .. files that are as they were
pub started_over : (F G : Stored) (root : Id) (pending : List Pending) → G ≡ F → IsBelow F 1 kind.Dir (root_from root (root_file F)) pending → Walked G root pending (λ _. false)
started_over F G root pending same lower = subst (λ (X : Stored). Walked X root pending (λ _. false)) (sym same) (started F root pending lower)

pub ended : (F G : Stored) (root : Id) (pending : List Pending) (was_met : ℕ → Bool) → G ≡ F → IsBelow F 1 kind.Dir (root_from root (root_file F)) pending
    → GoesOn G pending (λ _. false) [] was_met → Walked F root [] was_met
ended F G root pending was_met same lower goes = subst (λ (X : Stored). Walked X root [] was_met) same (goes root (started_over F G root pending same lower))

-- ---- the end

module _ (F : Stored) (root : Id) (visited : List Place) (was_met : ℕ → Bool) (pass : Pass F root visited [] was_met) where
  no_more : (p : Place) → Known visited [] p → Contains visited p
  no_more p (inl h) = h
  no_more p (inr h) = absurd (contains_none p h)

  -- a directory is the root's, or one of a place that was visited
  data Entered (d : ℕ) (o : Origin) : Type 0 where
    at_root : d ≡ 1 → o ≡ root_from root (root_file F) → Entered d o
    through : (q : Place) → Contains visited q → q.entry.kind ≡ kind.Dir → q.entry.number ≡ d → q.entry.origin ≡ o → Entered d o

  listed : (p : Place) → Entered p.directory p.from → IsListed F p → Contains visited p
  listed p (at_root is from) named = no_more p (pass.top p is from named)
  listed p (through q h dir is from) named = no_more p (pass.inside q p h dir (sym is) (sym from) named)

  entered_there : (d : ℕ) (o : Origin) → Counts F root d o → Entered d o
  entered_there d o top = at_root refl refl
  entered_there d o (inside c f e r l dir) = through (at c f e) (listed (at c f e) (entered_there c f r) l) dir refl refl

  pub seen : (d : ℕ) (o : Origin) (e : StoredEntry) → Counts F root d o → ListsEntry F d o e → Contains visited (at d o e)
  seen d o e r l = listed (at d o e) (entered_there d o r) l

  pub all_met : (n : Counted F root) → was_met n.entry.number ≡ true
  all_met n = pass.met (at n.directory n.from n.entry) (seen n.directory n.from n.entry n.counts n.listed)

  pub place_of : (p : Place) → Contains visited p → Counted F root
  place_of p h = let at_it = pass.live p (inl h) in record { directory = p.directory; from = p.from; entry = p.entry; counts = at_it.0; listed = at_it.1 }

  pub named_number : (k : ℕ) → was_met k ≡ true → (n : Counted F root) × (n.entry.number ≡ k)
  unfolding place_of
  named_number k h = let r = pass.only k h in (place_of r.0 r.1.0, r.1.1)

  one_place : (m n : Counted F root) → m.entry.number ≡ n.entry.number → at m.directory m.from m.entry ≡ at n.directory n.from n.entry
  one_place m n same =
      pass.once (at m.directory m.from m.entry) (at n.directory n.from n.entry) (seen m.directory m.from m.entry m.counts m.listed)
      (seen n.directory n.from n.entry n.counts n.listed) same

  once_at_end : (m n : Counted F root) → m.entry.number ≡ n.entry.number → (m.directory ≡ n.directory) × (m.entry ≡ n.entry)
  once_at_end m n same = let is = one_place m n same in (ap (λ (p : Place). p.directory) is, ap (λ (p : Place). p.entry) is)

  module _ (root_good : HasGoodFile F 1 kind.Dir (root_from root (root_file F))) where
    top_there : (file : Option (List ℕ)) → root_file F ≡ file → (root_from root file ≡ origin.Own → HoldsKind F 1 kind.Dir) → (root_file F ≡ None) ⊎ HoldsKind F 1 kind.Dir
    top_there None is own = inl is
    top_there (Some bytes) is own = inr (own refl)

    pub sound_at_end : AreSound F
    sound_at_end = record {
      top = top_there (root_file F) refl root_good.own;
      owned = λ d e r named own.
          (let n = live_counted F root d e r named in
          (pass.good (at d origin.Own e) (seen d origin.Own e (live_counts F root d e r named) (names_listed F d e named))).own own);
      once = λ c d e f r t named too same. once_at_end (live_counted F root c e r named) (live_counted F root d f t too) same;
    }

    good_at : (d : ℕ) (o : Origin) → Entered d o → (tree : Id) → o ≡ origin.Object tree → HasGoodNumbers (F d)
    good_at d o (at_root is from) tree object =
        subst (λ (k : ℕ). HasGoodNumbers (F k)) (sym is) (root_good.saved tree refl (sym from ∙ object))
    good_at d o (through q h dir is from) tree object =
        subst (λ (k : ℕ). HasGoodNumbers (F k)) is ((pass.good q h).saved tree dir (from ∙ object))

    pub numbers_at_end : NumbersAreSound F root
    numbers_at_end = record {
      good = λ d tree counts. good_at d (origin.Object tree) (entered_there d (origin.Object tree) counts) tree refl;
      once = once_at_end;
    }

-- ---- the end, where nothing is pending

module _ (F : Stored) (root : Id) (was_met : ℕ → Bool) (w : Walked F root [] was_met) where
  last_pass : Pass F root w.visited [] was_met
  last_pass = subst (λ l. Pass F root w.visited l was_met) (none_left w.left w.stack) w.pass

  pub sound_then : HasGoodFile F 1 kind.Dir (root_from root (root_file F)) → AreSound F
  sound_then good = sound_at_end F root w.visited was_met last_pass good

  pub numbers_then : HasGoodFile F 1 kind.Dir (root_from root (root_file F)) → NumbersAreSound F root
  numbers_then good = numbers_at_end F root w.visited was_met last_pass good

  pub named_then : AreNamed F root was_met
  named_then = record {
    all = λ n. all_met F root w.visited was_met last_pass n;
    only = λ k there. named_number F root w.visited was_met last_pass k there;
  }

-- a set of no keys has none
pub none_in : (ks : List ℕ) (q : ℕ) → (0 < length ks → ⊥) → list_any (is_at (nat_cmp q)) ks ≡ true → ⊥
none_in [] q empty has = cc
none_in (k ∷ ks) q empty has = empty (omega arith)

-- ---- one entry that was popped

-- what a place brings that is visited
record Brought (F : Stored) (p : Place) (pending : List Pending) : Type 0 where
  new : List Place
  lower : Below F p new
  stack : pending ≡ pending_in (map (λ (q : Place). q.entry) new)

module _ (F : Stored) (p : Place) (pending : List Pending) (is : IsBelow F p.entry.number p.entry.kind p.entry.origin pending) where
  -- nothing is below it
  bare : p.entry.kind ≢ kind.Dir → Brought F p pending
  bare other = record {
    new = [];
    lower = record {
      from = λ q h. absurd (contains_none q h);
      all = λ dir. absurd (other dir);
      apart = tt;
    };
    stack = is.closed other;
  }

  -- it is a directory
  full : p.entry.kind ≡ kind.Dir → Brought F p pending
  full dir = record {
    new = new_places F p.entry.number p.entry.origin;
    lower = record {
      from = λ q h. (let from = new_listed F p.entry.number p.entry.origin q h in (from.0, from.1, dir, from.2));
      all = λ _ q in_it from listed. new_all F p.entry.number p.entry.origin q in_it from listed;
      apart = new_apart F p.entry.number p.entry.origin;
    };
    stack = new_stack F p.entry.number p.entry.origin pending (is.listed dir);
  }

  brought : (t : Kind) → p.entry.kind ≡ t → Brought F p pending
  brought kind.Dir k = full k
  brought kind.File k = bare (λ dir. let wrong : kind.File ≡ kind.Dir = sym k ∙ dir in cc)
  brought kind.Exec k = bare (λ dir. let wrong : kind.Exec ≡ kind.Dir = sym k ∙ dir in cc)
  brought kind.Link k = bare (λ dir. let wrong : kind.Link ≡ kind.Dir = sym k ∙ dir in cc)

module _ (F : Stored) (root : Id) (pending : List Pending) (x : Pending) (before : ℕ → Bool) (w : Walked F root (pending ++ x ∷ []) before) where
  next_up : Popped w.left pending x
  next_up = popped w.left pending x w.stack

  pass : Pass F root w.visited (next_up.place ∷ next_up.rest) before
  pass = subst (λ l. Pass F root w.visited l before) next_up.left_is w.pass

  pub top_entry : Counted F root
  top_entry =
      let at_it = pass.live next_up.place (inr (contains_first next_up.place next_up.rest)) in
      record { directory = next_up.place.directory; from = next_up.place.from; entry = next_up.place.entry; counts = at_it.0; listed = at_it.1 }

  -- it is what was popped
  pub top_is : pending_of top_entry.entry ≡ x
  unfolding top_entry
  top_is = sym next_up.is

  -- its number was met, at another entry
  pub twice_at : before x.number ≡ true → IsTwice F root x.number
  unfolding top_entry
  twice_at h =
      let met = pass.only x.number h in
      let at_it = pass.live met.0 (inl met.1.0) in
      let up : Contains w.visited next_up.place ⊎ Contains (next_up.place ∷ next_up.rest) next_up.place = inr (contains_first next_up.place next_up.rest) in
      record {
        first = record { directory = met.0.directory; from = met.0.from; entry = met.0.entry; counts = at_it.0; listed = at_it.1 };
        second = top_entry;
        first_number = met.1.1;
        second_number = ap (λ (y : Pending). y.number) (sym next_up.is);
        apart = λ same.
            let one = same_place met.0 next_up.place same.0 (pass.one met.0 next_up.place (inl met.1.0) up same.0) same.1 in
            pass.fresh next_up.place (contains_first next_up.place next_up.rest) (subst (Contains w.visited) one met.1.0);
      }

  -- it is visited
  pub walked_on : (after : ℕ → Bool) (lower : List Pending) → before x.number ≡ false → OneMore x.number before after
      → IsBelow F x.number x.kind x.origin lower → Walked F root (pending ++ lower) after
  walked_on after lower first more below =
      let Q : Pending → Type 0 = λ y. (before y.number ≡ false) × OneMore y.number before after × IsBelow F y.number y.kind y.origin lower in
      let at_it = subst Q next_up.is (first, more, below) in
      let entry = next_up.place.entry in
      let b = brought F next_up.place lower at_it.2 entry.kind refl in
      record {
        visited = next_up.place ∷ w.visited;
        left = b.new ++ next_up.rest;
        stack = ap (λ (l : List Pending). l ++ lower) next_up.others ∙ ap (λ (l : List Pending). pending_in (map (λ (q : Place). q.entry) next_up.rest) ++ l) b.stack
            ∙ sym (pending-append (map (λ (q : Place). q.entry) b.new) (map (λ (q : Place). q.entry) next_up.rest))
            ∙ ap pending_in (sym (map-append (λ (q : Place). q.entry) b.new next_up.rest));
        pass = visited_one F root w.visited next_up.rest b.new next_up.place before after pass at_it.0 at_it.1 at_it.2.good b.lower;
      }

-- ---- the numbers that were met, as a set

pub one_more_key : (s n : BTreeSet ℕ) (k : ℕ) → Updates nat_cmp s n k true → OneMore k (contains nat_cmp s) (contains nat_cmp n)
one_more_key s n k up q = up.0 q ∙ ap (λ b. cond b true (contains nat_cmp s q)) (is_at-nat_cmp k q)

-- they stay in range, and so are few enough to be counted
pub few_keys : (s n : BTreeSet ℕ) (k : ℕ) → Updates nat_cmp s n k true → IsOrdered nat_cmp n → IsNumber k
    → ((q : ℕ) → IsTrue (contains nat_cmp s q) → IsNumber q) → btree_set_len n ≤ number_end
few_keys s n k up ordered own before =
    let within : (q : ℕ) → contains nat_cmp n q ≡ true → q < number_end = λ q has. elim (same_or_apart k q) [
      | inl is ↦ subst (λ m. m < number_end) is own.1
      | inr ne ↦ (before q (sym (one_more_key s n k up q ∙ ap (λ b. cond b true (contains nat_cmp s q)) (ne_eqb k q ne)) ∙ has)).1
    ] in
    length-le_from_below number_end n.keys ordered (All-weaker (λ q. contains nat_cmp n q ≡ true) (λ q. q < number_end) within n.keys (All-set_contains nat_cmp_total n))

-- what an insertion answered
pub was_there : (added b : Bool) → added ≡ not b → added ≡ false → b ≡ true
was_there added true is old = refl
was_there added false is old = sym old ∙ is

pub was_absent : (added b : Bool) → added ≡ not b → added ≡ true → b ≡ false
was_absent added true is new = sym new ∙ is
was_absent added false is new = refl
