-- What is seen of a directory of each kind.
use Rattle.std.proofs.Common.{◌≡◌, ◌≢◌, ◌⊎◌, ◌∙◌, ℕ, Bool, true, false, cond, List, [], ◌∷◌, Option, Some, None, IsSomeAnd, Contains, refl, sym, ap, subst, inl, inr, not}
use Rattle.std.specs.Option.{option_and_then}
use Rattle.std.proofs.lemmas.Bool.{ne_eqb}
use Rattle.std.proofs.lemmas.List.Elements.{All-contains}
use Rattle.std.proofs.lemmas.List.Sums.{AllPass-from_list_all}
use Rattle.std.proofs.lemmas.Option.{none-some, same_Some}
use Rattle.eden_model.specs.declared.id.Id.{Id}
use Rattle.eden_model.specs.declared.kind.Kind.TheVariants as kind
use Rattle.eden_model.specs.declared.kind.Origin.{Origin}
use Rattle.eden_model.specs.declared.kind.Origin.TheVariants as origin
use Rattle.eden_model.specs.Numbers.{IsNumber}
use Rattle.eden_overlay_format.specs.declared.stored_entry.StoredEntry.{StoredEntry}
use Rattle.eden_overlay_format.specs.Directory.{AreStorable, is_own}
use Rattle.eden_overlay_format.specs.Numbers.{has_numbers, none_is_own}
use Rattle.eden_overlay_format.specs.Values.{numbers_in}
use Rattle.eden_overlay_format.proofs.CallerLemmas.{numbers_stand}
use Rattle.eden_overlay.specs.Counting.{HasGoodNumbers, ListsEntry, root_from}
use Rattle.eden_overlay.specs.Files.{Stored}
use Rattle.eden_overlay.specs.Held.{HoldsEntries, entries_at, numbers_of, of_tree, root_file, saved_at, unless_numbers, without}
use Rattle.eden_overlay.specs.Soundness.{HasOwn, HoldsKind}
use Rattle.eden_overlay.proofs.CallerLemmas.{OneMore, contains_none, entries_at_root, entries_held, kind_moved, put_apart, put_here, root_same, same_or_apart}
use Rattle.eden_repair.specs.declared.finding.Finding.{Finding}
use Rattle.eden_repair.specs.declared.survey.Directory.{Directory}
use Rattle.eden_repair.specs.declared.survey.Sorted.{Sorted}
use Rattle.eden_repair.specs.Covering.{AreBelow, AreNew, CoversOn, NoneIsOwn, none_seen}
use Rattle.eden_repair.specs.Repairing.{HasNumbersAlone, Sorts, Stores}
use Rattle.eden_repair.specs.Surveying.{AreOf}
use Rattle.eden_model.specs.Trees.{Name}
use Rattle.eden_repair.proofs.Covered.{Looks, below_none, covered_on, new_none}
use Rattle.eden_repair.proofs.Staying.{none_cut, they_are}
use Rattle.eden_repair.proofs.Steps.{IsKept}

-- what is seen of a directory takes the survey on
pub looks_cover : (F G : Stored) (was was_seen is is_seen : ℕ → Bool) (x : Directory) (kept : List StoredEntry) (below : List Directory) → Looks F was was_seen x kept below G is is_seen
    → CoversOn x F was was_seen below G is is_seen
looks_cover F G was was_seen is is_seen x kept below looks root rest c = covered_on F G root c.from c.stay x rest below kept was was_seen is is_seen c.covers c.seen looks

-- ---- the root's file

-- a directory there is its own
root_own : (F : Stored) (root : Id) (entries : List StoredEntry) → HoldsEntries F 1 entries → root_from root (root_file F) ≡ origin.Own
root_own F root entries held = at (root_file F) refl where
  at : (file : Option (List ℕ)) → root_file F ≡ file → root_from root file ≡ origin.Own
  at None is = absurd (entries_at_root F entries is held)
  at (Some bytes) is = refl

root_stays : (F G : Stored) (root : Id) → G 1 ≡ F 1 → root_from root (root_file G) ≡ root_from root (root_file F)
root_stays F G root same = ap (root_from root) (root_same G F same)

-- ---- own directories

module _ (F G : Stored) (x : Directory) (was_seen is_seen : ℕ → Bool) (is_own : x.origin ≡ origin.Own) where
  abbrev d : ℕ
  d = x.number

  seen_then : OneMore d was_seen is_seen → (k : ℕ) → is_seen k ≡ true → ((was_seen k ≡ true) × (k ≢ d)) ⊎ ((k ≡ d) × (x.origin ≡ origin.Own))
  seen_then more k has = elim (same_or_apart d k) [
    | inl is ↦ inr (sym is, is_own)
    | inr ne ↦ inl (sym (more k ∙ ap (λ b. cond b true (was_seen k)) (ne_eqb d k ne)) ∙ has, λ is. ne (sym is))
  ]

  no_object : (tree : Id) → x.origin ≡ origin.Object tree → HasGoodNumbers (G d)
  no_object tree is = absurd (cc)

  listed_own : (entries : List StoredEntry) (e : StoredEntry) → HoldsEntries G d entries → ListsEntry G d x.origin e → Contains entries e
  listed_own entries e held l =
      let P : Origin → Type 0 = λ o. ListsEntry G d o e in
      let own : ListsEntry G d origin.Own e = subst P is_own l in
      subst (λ es. Contains es e) (same_Some own.entries entries (sym own.held ∙ held)) own.there

  -- one whose entries were sorted
  module _ (at : List Name) (stayed entries : List StoredEntry) (sorted : Sorted) (was is : ℕ → Bool) (k : IsKept F G d at entries sorted was is) (met : AreOf was stayed)
      (new : AreNew sorted.listing was is) (lower : AreBelow sorted.listing sorted.below.items) (range : (q : ℕ) → is q ≡ true → IsNumber q) (more : OneMore d was_seen is_seen) where
    abbrev kept : List StoredEntry
    kept = sorted.listing

    abbrev cut : List Finding
    cut = sorted.cut.items

    abbrev sorts : Sorts F at stayed entries kept cut
    sorts = (k.sorts stayed met).sorts

    stay : AreStorable kept × ((e : StoredEntry) → Contains kept e → HasOwn F e)
    stay = they_are F at stayed entries kept cut sorts k.are

    held_then : (cut' : List Finding) → cut ≡ cut' → Stores F d kept cut' G → HoldsEntries G d kept
    held_then [] none stores =
        subst (λ (X : Stored). HoldsEntries X d kept) (sym stores) (subst (HoldsEntries F d) (sym (none_cut F at stayed entries kept cut sorts none)) k.held)
    held_then (f ∷ cut') some stores = subst (λ (X : Stored). HoldsEntries X d kept) (sym stores) (entries_held F d kept stay.0)

    others : (cut' : List Finding) → Stores F d kept cut' G → (q : ℕ) → q ≢ d → G q ≡ F q
    others [] stores q ne = ap (λ (X : Stored). X q) stores
    others (f ∷ cut') stores q ne = ap (λ (X : Stored). X q) stores ∙ put_apart F d q _ (λ is. ne (sym is))

    pub own_looks : Looks F was was_seen x kept sorted.below.items G is is_seen
    own_looks = record {
      new = new;
      lower = lower;
      range = range;
      same = others cut k.stores;
      root_same = λ root. elim (same_or_apart d 1) [
        | inl is ↦
            (let P : Stored → List StoredEntry → ℕ → Type 0 = λ X es q. HoldsEntries X q es in
            root_own G root kept (subst (P G kept) is (held_then cut refl k.stores)) ∙ sym (root_own F root entries (subst (P F entries) is k.held)))
        | inr ne ↦ root_stays F G root (others cut k.stores 1 (λ is. ne (sym is)))
      ];
      still = λ _ _. (kept, held_then cut refl k.stores);
      own = λ e there ne own. kind_moved F G e.number e.kind (sym (others cut k.stores e.number ne)) (stay.1 e there own);
      listed = λ e l. inl (listed_own kept e (held_then cut refl k.stores) l);
      numbers = no_object;
      seen = seen_then more;
    }

  -- one that can't be read: nothing is listed
  pub unread_looks : (was : ℕ → Bool) → ((k : ℕ) → was k ≡ true → IsNumber k) → entries_at F d ≡ None → G ≡ F → OneMore d was_seen is_seen → Looks F was was_seen x [] [] G was is_seen
  unread_looks was range none same more = record {
    new = new_none was was (λ k had. had);
    lower = below_none;
    range = range;
    same = λ q ne. ap (λ (X : Stored). X q) same;
    root_same = λ root. root_stays F G root (ap (λ (X : Stored). X 1) same);
    still = λ _ held. subst (λ (X : Stored). HoldsKind X d kind.Dir) (sym same) held;
    own = λ e there. absurd (contains_none e there);
    listed = λ e l.
        let P : Origin → Type 0 = λ o. ListsEntry G d o e in
        let own : ListsEntry G d origin.Own e = subst P is_own l in
        absurd (none-some own.entries (sym none ∙ ap (λ (X : Stored). entries_at X d) (sym same) ∙ own.held));
    numbers = no_object;
    seen = seen_then more;
  }

-- what isn't added was there
pub was_there : (added there : Bool) → added ≡ not there → added ≡ false → there ≡ true
was_there added true new isnt = refl
was_there added false new isnt = absurd (cc)

-- one that was seen before
pub seen_looks : (F : Stored) (x : Directory) (was was_seen is_seen : ℕ → Bool) → x.origin ≡ origin.Own → ((k : ℕ) → was k ≡ true → IsNumber k) → was_seen x.number ≡ true
    → OneMore x.number was_seen is_seen → Looks F was was_seen x [] [] F was is_seen
seen_looks F x was was_seen is_seen is_own range seen more = record {
  new = new_none was was (λ k had. had);
  lower = below_none;
  range = range;
  same = λ q ne. refl;
  root_same = λ root. refl;
  still = λ _ held. held;
  own = λ e there. absurd (contains_none e there);
  listed = λ e l. (let P : Origin → Type 0 = λ o. ListsEntry F x.number o e in inr (is_own, (seen, subst P is_own l)));
  numbers = no_object F F x was_seen is_seen is_own;
  seen = seen_then F F x was_seen is_seen is_own more;
}

-- ---- directories on tree objects

-- no entry of a directory on a tree object is an own one
none_own : (es : List StoredEntry) → none_is_own es ≡ true → (e : StoredEntry) → Contains es e → e.origin ≡ origin.Own → ⊥
none_own es none e there own =
    let foreign : StoredEntry → Bool = λ x. not (is_own x.origin) in
    let pass = All-contains (λ x. foreign x ≡ true) es e (AllPass-from_list_all foreign es none) there in
    let wrong : false ≡ true = sym (ap (λ (o : Origin). not (is_own o)) own) ∙ pass in absurd (cc)

pub none_below : (es : List StoredEntry) (below : List Directory) → none_is_own es ≡ true → AreBelow es below → NoneIsOwn below
none_below es below none lower x there own = (let n = lower.only x there in none_own es none n.entry n.there (n.from ∙ own))

-- what isn't numbers saves none
pub saves_none : (F : Stored) (k : ℕ) (tree : Id) → ¬ HasNumbersAlone F k → (saved_at F k tree ≡ None) × HasGoodNumbers (F k)
saves_none F k tree not_alone = (at (F k) not_alone, λ bytes is has. absurd (not_alone (subst (λ file. IsSomeAnd file (λ b. has_numbers b ≡ true)) (sym is) has))) where
  of_bytes : (bytes : List ℕ) → (has_numbers bytes ≡ true → ⊥) → (found : Option (Id × List StoredEntry)) → numbers_in bytes ≡ found → option_and_then (of_tree tree) found ≡ None
  of_bytes bytes none None is = refl
  of_bytes bytes none (Some (other, entries)) is = absurd (none (numbers_stand bytes other entries is))

  at : (file : Option (List ℕ)) → ¬ IsSomeAnd file (λ bytes. has_numbers bytes ≡ true) → option_and_then (numbers_of tree) file ≡ None
  at None none = refl
  at (Some bytes) none = of_bytes bytes none (numbers_in bytes) refl

module _ (F G : Stored) (x : Directory) (tree : Id) (is_object : x.origin ≡ origin.Object tree) where
  not_own : x.origin ≡ origin.Own → ⊥
  not_own is = absurd (cc)

  good_of : HasGoodNumbers (G x.number) → (other : Id) → x.origin ≡ origin.Object other → HasGoodNumbers (G x.number)
  good_of good other is = good

  lists_saved : (e : StoredEntry) → ListsEntry G x.number x.origin e → ListsEntry G x.number (origin.Object tree) e
  lists_saved e l = (let P : Origin → Type 0 = λ o. ListsEntry G x.number o e in subst P is_object l)

  -- nothing is saved for it
  pub bare_looks : (was : ℕ → Bool) → ((k : ℕ) → was k ≡ true → IsNumber k) → G ≡ F → saved_at F x.number tree ≡ None → HasGoodNumbers (F x.number)
      → Looks F was none_seen x [] [] G was none_seen
  bare_looks was range same none good = record {
    new = new_none was was (λ k had. had);
    lower = below_none;
    range = range;
    same = λ q ne. ap (λ (X : Stored). X q) same;
    root_same = λ root. root_stays F G root (ap (λ (X : Stored). X 1) same);
    still = λ own. absurd (not_own own);
    own = λ e there. absurd (contains_none e there);
    listed = λ e l. (let s = lists_saved e l in absurd (none-some s.entries (sym none ∙ ap (λ (X : Stored). saved_at X x.number tree) (sym same) ∙ s.held)));
    numbers = good_of (subst (λ (X : Stored). HasGoodNumbers (X x.number)) (sym same) good);
    seen = λ d has. absurd (cc);
  }

  -- its numbers were met
  pub saved_looks : (entries : List StoredEntry) (below : List Directory) (was is : ℕ → Bool) → ((k : ℕ) → is k ≡ true → IsNumber k) → G ≡ F → saved_at F x.number tree ≡ Some entries
      → HasGoodNumbers (F x.number) → none_is_own entries ≡ true → AreNew entries was is → AreBelow entries below → Looks F was none_seen x entries below G is none_seen
  saved_looks entries below was is range same saved good strange new lower = record {
    new = new;
    lower = lower;
    range = range;
    same = λ q ne. ap (λ (X : Stored). X q) same;
    root_same = λ root. root_stays F G root (ap (λ (X : Stored). X 1) same);
    still = λ own. absurd (not_own own);
    own = λ e there ne own. absurd (none_own entries strange e there own);
    listed = λ e l.
        (let s = lists_saved e l in
        inl (subst (λ es. Contains es e) (same_Some s.entries entries (sym s.held ∙ ap (λ (X : Stored). saved_at X x.number tree) same ∙ saved)) s.there));
    numbers = good_of (subst (λ (X : Stored). HasGoodNumbers (X x.number)) (sym same) good);
    seen = λ d has. absurd (cc);
  }

  -- they are forgotten
  pub forgotten_looks : (was is : ℕ → Bool) → ((k : ℕ) → is k ≡ true → IsNumber k) → ((k : ℕ) → was k ≡ true → is k ≡ true) → HasNumbersAlone F x.number → G ≡ without F x.number
      → Looks F was none_seen x [] [] G is none_seen
  forgotten_looks was is range stay alone gone = record {
    new = new_none was is stay;
    lower = below_none;
    range = range;
    same = others;
    root_same = λ root. elim (same_or_apart x.number 1) [
      | inl one ↦ (let none : root_file F ≡ None = subst (λ (k : ℕ). option_and_then unless_numbers (F k) ≡ None) one (numbers_alone (F x.number) alone) in
          ap (root_from root) (ap (option_and_then unless_numbers) (subst (λ (k : ℕ). G k ≡ None) one nothing) ∙ sym none))
      | inr ne ↦ root_stays F G root (others 1 (λ is_one. ne (sym is_one)))
    ];
    still = λ own. absurd (not_own own);
    own = λ e there. absurd (contains_none e there);
    listed = λ e l. (let s = lists_saved e l in absurd (none-some s.entries (sym (ap (option_and_then _) nothing) ∙ s.held)));
    numbers = good_of (λ bytes held. absurd (none-some bytes (sym nothing ∙ held)));
    seen = λ d has. absurd (cc);
  } where
    nothing : G x.number ≡ None
    nothing = ap (λ (X : Stored). X x.number) gone ∙ put_here F x.number x.number None refl

    others : (q : ℕ) → q ≢ x.number → G q ≡ F q
    others q ne = ap (λ (X : Stored). X q) gone ∙ put_apart F x.number q None (λ same. ne (sym same))

    numbers_alone : (file : Option (List ℕ)) → IsSomeAnd file (λ bytes. has_numbers bytes ≡ true) → option_and_then unless_numbers file ≡ None
    numbers_alone None some = absurd some
    numbers_alone (Some bytes) has = ap (λ (b : Bool). cond b None (Some bytes)) has
