-- Files without orphans.
use Rattle.std.proofs.Common.{◌≡◌, ◌≢◌, ◌∙◌, ◌&&◌, ℕ, Bool, true, false, cond, not, leb, List, [], ◌∷◌, filter, Contains, None, IsSome, refl, sym, ap, subst, inl, inr, arith}
use Rattle.std.proofs.lemmas.Bool.{leb-true, le-leb}
use Rattle.std.proofs.lemmas.List.Elements.{All-contains, All-contains_itself, All-filter, All-weaker, filter_passes}
use Rattle.eden_model.specs.declared.id.Id.{Id}
use Rattle.eden_model.specs.Limits.{number_least}
use Rattle.eden_overlay_format.specs.declared.stored_entry.StoredEntry.{StoredEntry}
use Rattle.eden_overlay.specs.Files.{Stored, ListsNumbers}
use Rattle.eden_overlay.specs.Held.{without}
use Rattle.eden_overlay.specs.Counting.{Counted}
use Rattle.eden_overlay.specs.Soundness.{Names, here, below, IsLive, AreSound}
use Rattle.eden_overlay.specs.Tidying.{IsOrphan, ListsOrphans, OthersStay, IsTidiedInPart}
use Rattle.eden_overlay.specs.Walking.{AreNamed}
use Rattle.eden_overlay.proofs.Counting.{live_counted}
use Rattle.eden_overlay.proofs.Places.{contains_first, contains_rest, contains_cases, contains_none}
use Rattle.eden_overlay.proofs.Puts.{put_here, put_apart, same_or_apart, names_moved, kind_moved, top_same}

-- what isn't an orphan's is as it was: the root's file, each that a live directory names, and each live directory's
module _ (F : Stored) (root : Id) (G : Stored) (stay : OthersStay F root G) where
  pub root_stays : G 1 ≡ F 1
  root_stays = stay 1 (λ orphan. let least = orphan.least in absurd (omega (arith, least)))

  pub counted_stays : (n : Counted F root) → G n.entry.number ≡ F n.entry.number
  counted_stays n = stay n.entry.number (λ orphan. orphan.unnamed n refl)

  pub named_stays : (d : ℕ) (e : StoredEntry) → IsLive F d → Names F d e → G e.number ≡ F e.number
  named_stays d e live names = counted_stays (live_counted F root d e live names)

  live_stays : (d : ℕ) → IsLive F d → G d ≡ F d
  live_stays d here = root_stays
  live_stays d (below c e r n leads) = named_stays c e r n

  pub live_before : (d : ℕ) → IsLive G d → IsLive F d
  live_before d here = here
  live_before d (below c e r n leads) = let was = live_before c r in below c e was (names_moved G F c e (live_stays c was) n) leads

  pub named_before : (d : ℕ) (e : StoredEntry) → IsLive G d → Names G d e → Names F d e
  named_before d e r n = names_moved G F d e (live_stays d (live_before d r)) n

  pub still_sound : AreSound F → AreSound G
  still_sound s = record {
    top = top_same F G (sym root_stays) s.top;
    owned = λ d e r n own.
        let live = live_before d r in
        let names = named_before d e r n in
        kind_moved F G e.number e.kind (sym (named_stays d e live names)) (s.owned d e live names own);
    once = λ c d e f r t n m same. s.once c d e f (live_before c r) (live_before d t) (named_before c e r n) (named_before d f t m) same;
  }

-- ---- one orphan less

module _ (F : Stored) (root : Id) (G : Stored) (k : ℕ) (part : IsTidiedInPart F root G) (orphan : IsOrphan F root k) where
  pub one_less : IsTidiedInPart F root (without G k)
  one_less = record {
    others = λ j other. put_apart G k j None (λ is. other (subst (IsOrphan F root) is orphan)) ∙ part.others j other;
    each = λ j. elim (same_or_apart k j) [
      | inl is ↦ inr (put_here G k j None is)
      | inr ne ↦ elim (part.each j) [
        | inl as_it_was ↦ inl (put_apart G k j None ne ∙ as_it_was)
        | inr gone ↦ inr (put_apart G k j None ne ∙ gone)
      ]
    ];
  }

-- what was gone is gone still
pub still_gone : (G : Stored) (k j : ℕ) → G j ≡ None → without G k j ≡ None
still_gone G k j gone = elim (same_or_apart k j) [
  | inl is ↦ put_here G k j None is
  | inr ne ↦ put_apart G k j None ne ∙ gone
]

-- ---- which numbers are the orphans'

filter_has : (p : ℕ → Bool) (ks : List ℕ) (k : ℕ) → Contains ks k → p k ≡ true → Contains (filter p ks) k
filter_has p [] k h passes = absurd (contains_none k h)
filter_has p (j ∷ ks) k h passes = elim (contains_cases j k ks h) [
  | inl is ↦
      (let P : Bool → Type 0 = λ b. Contains (cond b (j ∷ filter p ks) (filter p ks)) k in
      subst P (sym (ap p is ∙ passes)) (subst (Contains (j ∷ filter p ks)) is (contains_first j (filter p ks))))
  | inr later ↦ elim (p j) as (λ b. Contains (cond b (j ∷ filter p ks) (filter p ks)) k) [
    | true ↦ contains_rest j k (filter p ks) (filter_has p ks k later passes)
    | false ↦ filter_has p ks k later passes
  ]
]

passed : (a b : Bool) → a && not b ≡ true → (a ≡ true) × (b ≡ false)
passed true true e = absurd (cc)
passed true false e = (refl, refl)
passed false b e = absurd (cc)

passes_both : (a b : Bool) → a ≡ true → b ≡ false → a && not b ≡ true
passes_both true false s t = refl
passes_both true true s t = cc
passes_both false b s t = cc

module _ (F : Stored) (root : Id) (was_met : ℕ → Bool) (are : AreNamed F root was_met) where
  unnamed_met : (k : ℕ) → ((n : Counted F root) → n.entry.number ≢ k) → was_met k ≡ false
  unnamed_met k free = elim (was_met k) as (λ b. was_met k ≡ b → b ≡ false) [
    | true ↦ λ met. (let n = are.only k met in absurd (free n.0 n.1))
    | false ↦ λ met. refl
  ] refl

  met_unnamed : (k : ℕ) → was_met k ≡ false → (n : Counted F root) → n.entry.number ≢ k
  met_unnamed k not_met n is = let wrong : true ≡ false = sym (are.all n) ∙ ap was_met is ∙ not_met in cc

  abbrev may_go : ℕ → Bool
  may_go k = leb number_least k && not (was_met k)

  pub orphans_listed : (ks : List ℕ) → ListsNumbers ks F → ListsOrphans (filter may_go ks) F root
  orphans_listed ks lists =
      let passes = filter_passes may_go ks in
      let there = All-filter may_go (λ k. IsSome (F k)) ks lists.there in
      record {
        each = All-weaker (Contains (filter may_go ks)) (IsOrphan F root) (λ k h.
            let parts = passed (leb number_least k) (was_met k) (All-contains (λ j. may_go j ≡ true) (filter may_go ks) k passes h) in
            record {
              least = leb-true number_least k parts.0;
              stored = All-contains (λ j. IsSome (F j)) (filter may_go ks) k there h;
              unnamed = met_unnamed k parts.1;
            }) (filter may_go ks) (All-contains_itself (filter may_go ks));
        all = λ k orphan.
            filter_has may_go ks k (lists.all k orphan.stored)
            (passes_both (leb number_least k) (was_met k) (le-leb number_least k orphan.least) (unnamed_met k orphan.unnamed));
      }
