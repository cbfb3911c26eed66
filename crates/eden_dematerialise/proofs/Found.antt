-- The numbers of entries, as they are met.
use Rattle.std.proofs.Common.{◌≡◌, ◌∙◌, ◌⊎◌, ◌++◌, ◌<◌, length, get_or, ℕ, List, [], ◌∷◌, None, Contains, IfOk, Result, Ok, Err, sym, ap, subst, inl, inr}
use Rattle.std.proofs.lemmas.Option.{none-some}
use Rattle.std.proofs.lemmas.List.Elements.{Contains-push_cases}
use Rattle.eden_overlay_format.specs.declared.stored_entry.StoredEntry.{StoredEntry}
use Rattle.eden_overlay.specs.Files.{Stored}
use Rattle.eden_overlay.specs.Held.{HoldsEntries, entries_at}
use Rattle.eden_overlay.specs.Soundness.{IsLive, LeadsOn, Names}
use Rattle.eden_overlay.proofs.CallerLemmas.{one_held}
use Rattle.eden_dematerialise.specs.Dematerialising.{HasEntry, IsElsewhere, IsOwn, RemovesUnread}
use Rattle.eden_dematerialise.specs.declared.unread.Numbers.{Numbers}
use Rattle.eden_dematerialise.specs.Unread.{Adds, AreAllMetFrom, AreEntries, AreMetFrom, AreMetOf, Stay, WasElsewhere, WasOwn}
use Rattle.eden_dematerialise.proofs.Removed.{First, first}

pub stay_on : (a b c : Numbers) → Stay a b → Stay b c → Stay a c
stay_on a b c one two = record { own = λ k was. two.own k (one.own k was); elsewhere = λ k was. two.elsewhere k (one.elsewhere k was) }

module _ (F : Stored) where
  pub each_on : (a b c : Numbers) → AreEntries F a b → AreEntries F b c → AreEntries F a c
  each_on a b c one two = record {
    own = λ k was. elim (two.own k was) [ inl earlier ↦ one.own k earlier | inr now ↦ inr now ];
    elsewhere = λ k was. elim (two.elsewhere k was) [ inl earlier ↦ one.elsewhere k earlier | inr now ↦ inr now ];
  }

  more_of : (e : StoredEntry) (a b : Numbers) → Stay a b → AreMetOf F a e → AreMetOf F b e
  more_of e a b stay met = record {
    own = λ is. stay.own e.number (met.own is);
    elsewhere = λ is. stay.elsewhere e.number (met.elsewhere is);
    below = λ leads. (
      λ d f reached n is. stay.own f.number ((met.below leads).0 d f reached n is),
      λ d f reached n is. stay.elsewhere f.number ((met.below leads).1 d f reached n is),
    );
  }

  pub all_on : (entries : List StoredEntry) (e : StoredEntry) (a b : Numbers) → Stay a b → ((f : StoredEntry) → Contains entries f → AreMetOf F a f)
      → AreMetOf F b e → (f : StoredEntry) → Contains (entries ++ e ∷ []) f → AreMetOf F b f
  all_on entries e a b stay all last f there = elim (Contains-push_cases entries e f there) [
    | inl was ↦ more_of f a b stay (all f was)
    | inr is ↦ subst (AreMetOf F b) is last
  ]

  -- ---- a directory's entries, and what is below them

  module _ (Is : StoredEntry → Type 0) (was : ℕ → Type 0) (k : ℕ) where
    met_from : (entries : List StoredEntry) → HoldsEntries F k entries → ((e : StoredEntry) → Contains entries e → Is e → was e.number)
        → ((e : StoredEntry) → Contains entries e → LeadsOn e → AreMetFrom F Is was e.number) → AreMetFrom F Is was k
    met_from entries held own deep d e reached n is = by_first (first F k d reached)
      where
        listed : (f : StoredEntry) → Names F k f → Contains entries f
        listed f m = subst (λ es. Contains es f) (one_held F k m.entries entries m.held held) m.there

        by_first : First F k d → was e.number
        by_first (First.at same) = own e (listed e (subst (λ x. Names F x e) (sym same) n)) is
        by_first (First.through f m leads rest) = deep f (listed f m) leads d e rest n is

    none_met : entries_at F k ≡ None → AreMetFrom F Is was k
    none_met none d e reached n is = by_first (first F k d reached)
      where
        by_first : First F k d → was e.number
        by_first (First.at same) = absurd (none-some n.entries (sym none ∙ ap (entries_at F) same ∙ n.held))
        by_first (First.through f m leads rest) = absurd (none-some m.entries (sym none ∙ m.held))

  pub all_from : (k : ℕ) (entries : List StoredEntry) (met : Numbers) → HoldsEntries F k entries
      → ((e : StoredEntry) → Contains entries e → AreMetOf F met e) → AreAllMetFrom F met k
  all_from k entries met held all = (
    met_from IsOwn (WasOwn met) k entries held (λ e there. (all e there).own) (λ e there leads. ((all e there).below leads).0),
    met_from IsElsewhere (WasElsewhere met) k entries held (λ e there. (all e there).elsewhere) (λ e there leads. ((all e there).below leads).1),
  )

  pub none_from : (k : ℕ) (met : Numbers) → entries_at F k ≡ None → AreAllMetFrom F met k
  none_from k met none = (none_met IsOwn (WasOwn met) k none, none_met IsElsewhere (WasElsewhere met) k none)

  -- an entry that was taken
  pub next_named : (k : ℕ) (entries : List StoredEntry) (e : StoredEntry) (n : ℕ) → HoldsEntries F k entries
      → (n < length entries) × (e ≡ get_or entries n e) → Names F k e
  next_named k entries e n held at = record { entries = entries; held = held; there = (n, at.0, sym at.1) }

  -- ---- one entry

  pub one_entry : (k : ℕ) (e : StoredEntry) (a b : Numbers) → Adds e a b → IsLive F k → Names F k e → AreEntries F a b
  one_entry k e a b adds live n = record {
    own = λ j was. elim (adds.own j was) [
      | inl before ↦ inl before
      | inr is ↦ inr (record { directory = k; entry = e; live = live; names = n; is = is.0; number = is.1 })
    ];
    elsewhere = λ j was. elim (adds.elsewhere j was) [
      | inl before ↦ inl before
      | inr is ↦ inr (record { directory = k; entry = e; live = live; names = n; is = is.0; number = is.1 })
    ];
  }

  pub one_of_leaf : (e : StoredEntry) (a b : Numbers) → Adds e a b → (LeadsOn e → ⊥) → AreMetOf F b e
  one_of_leaf e a b adds closed = record { own = adds.own_met; elsewhere = adds.elsewhere_met; below = λ leads. absurd (closed leads) }

  pub one_of_directory : (e : StoredEntry) (a b c : Numbers) → Adds e a b → Stay b c → AreAllMetFrom F c e.number → AreMetOf F c e
  one_of_directory e a b c adds stay all = record {
    own = λ is. stay.own e.number (adds.own_met is);
    elsewhere = λ is. stay.elsewhere e.number (adds.elsewhere_met is);
    below = λ leads. all;
  }

-- what holds of a result then
pub if_ok : {T E : Type 0} {P Q : T → Type 0} (r : Result T E) → ((t : T) → P t → Q t) → IfOk r P → IfOk r Q
if_ok (Ok t) f p = f t p
if_ok (Err e) f p = p

-- ---- removing

-- what was removed of these, but for what own entries have, was read by nobody
pub removed_all : (F K G : Stored) (none n : Numbers) → K ≡ F → ((k : ℕ) → ¬ WasElsewhere none k) → AreEntries F none n → AreAllMetFrom F n 1
    → ((k : ℕ) → (G k ≡ K k) ⊎ ((G k ≡ None) × WasElsewhere n k × (¬ WasOwn n k))) → RemovesUnread F G
removed_all F K G none n same empty each all others k = elim (others k) [
  | inl still ↦ inl (still ∙ ap (λ (X : Stored). X k) same)
  | inr gone ↦ inr (gone.0, (from_elsewhere (each.elsewhere k gone.1), λ h. gone.2 (subst (WasOwn n) h.number (all.0 h.directory h.entry h.live h.names h.is))))
] where
  from_elsewhere : WasElsewhere none k ⊎ HasEntry F IsElsewhere k → HasEntry F IsElsewhere k
  from_elsewhere (inl was) = absurd (empty k was)
  from_elsewhere (inr is) = is

pub each_own : (F : Stored) (none n : Numbers) → ((k : ℕ) → ¬ WasOwn none k) → AreEntries F none n → (k : ℕ) → WasOwn n k → HasEntry F IsOwn k
each_own F none n empty each k was = from_own (each.own k was)
  where
    from_own : WasOwn none k ⊎ HasEntry F IsOwn k → HasEntry F IsOwn k
    from_own (inl before) = absurd (empty k before)
    from_own (inr is) = is
