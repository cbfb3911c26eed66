-- A listing that changes, and what stays tied.
use Rattle.std.proofs.Common.{◌≡◌, ◌≢◌, ◌<◌, ◌^◌, ◌⊎◌, ℕ, suc, true, false, List, [], ◌∷◌, length, map, Some, None, Contains, refl, sym, ap, ◌∙◌, subst, inl, inr}
use Rattle.std.specs.List.{AllByRecursion}
use Rattle.std.specs.List.Sorted.{IsStrictlySortedBy}
use Rattle.eden_model.specs.declared.kind.Kind.{Kind}
use Rattle.eden_model.specs.declared.kind.Kind.TheVariants as kind
use Rattle.eden_model.specs.declared.kind.Origin.{Origin}
use Rattle.eden_model.specs.declared.kind.Origin.TheVariants as origin
use Rattle.eden_model.specs.Trees.{Name, Path}
use Rattle.eden_overlay_format.specs.declared.stored_entry.StoredEntry.{StoredEntry}
use Rattle.eden_overlay_format.specs.Directory.{AreStorable, IsStorable, HasOrigin}
use Rattle.eden_overlay.specs.Files.{Stored}
use Rattle.eden_overlay.specs.Held.{HoldsEntries, with_entries, root_file}
use Rattle.eden_overlay.specs.Soundness.{Names, LeadsOn, Reached, here, below, IsLive, HoldsKind, AreSound}
use Rattle.eden_overlay.proofs.CallerLemmas.{same_or_apart, kind_moved, apart, named, entries_held, root_same}
use Rattle.eden_tree.specs.Directory.{Child, unloaded, loaded, Row, Directory, child_of, with_child}
use Rattle.eden_tree.specs.Rows.{find_row}
use Rattle.eden_tree.specs.Paths.{row_at}
use Rattle.eden_tree.proofs.CallerLemmas.{order, child_of-with_child, find_row-Contains}
use Rattle.eden_coupling.specs.Listings.{stored_entry, full_entry, own_if_loaded, listing_of, full_listing, Place, top}
use Rattle.eden_coupling.specs.Ties.{IsAway, SameFile, IsStoredAs, Ties}
use Rattle.eden_coupling.specs.Changing.{IsCarried, MayBecome, with_listing, ChangesTied, UnstoredTied, LeftOutTied}
use Rattle.eden_coupling.proofs.Rows.{mapped_from, full_rising, names_full, names_stored, entry_as_is}
use Rattle.eden_coupling.proofs.Places.{named_full, place_counts}
use Rattle.eden_coupling.proofs.Follows.{held_moved}
use Rattle.eden_coupling.proofs.Chain.{place_at, at_changed, origin_kept, root_loaded, stored_moved, stored_new, is_root}
use Rattle.eden_coupling.proofs.Forward.{number_kept, Same, forward, back}

-- files that are the same, where neither of them changes
pub same_moved : (F G H I : Stored) (k : ℕ) → G k ≡ F k → I k ≡ H k → SameFile F H k → SameFile G I k
same_moved F G H I k is also (inl same) = inl (is ∙ same ∙ sym also)
same_moved F G H I k is also (inr s) = inr (s.0, (held_moved F G k s.0 (sym is) s.1.0, held_moved H I k s.0 (sym also) s.1.1))

-- a loaded directory of the table once y holds e: that one, or one as it was
abbrev Becomes : Row → Directory → Row → Row → Directory → Type 0
Becomes y e x a b = ((a ≡ with_child (Some e) y) × (b ≡ e)) ⊎ Same x y.number a b

module _ (F full : Stored) (x : Row) (next : ℕ) (t : Ties F full x next) (p : Path) (y : Row) (d : Directory)
    (at : row_at p x ≡ Some y) (held : child_of y ≡ Some d) where
  place_y : Place x y
  place_y = place_at p x y at

  -- of the files and the full ones, that of y alone changes, where y is its own; the root is as it was
  module _ (e : Directory) (G : Stored) (entries : List StoredEntry) (mine : y.origin ≡ origin.Own → HoldsEntries G y.number entries)
      (unrooted : y.origin ≢ origin.Own → y.number ≡ 1 → root_file G ≡ None) (elsewhere : (k : ℕ) → y.number ≢ k → G k ≡ F k) where
    is_top : y.number ≡ 1 → x ≡ y
    is_top is = is_root F full x next t y d place_y held is

    now_at : row_at p (with_listing p e x) ≡ Some (with_child (Some e) y)
    now_at = at_changed p (with_child (Some e)) x y at

    place_now : Place (with_listing p e x) (with_child (Some e) y)
    place_now = place_at p (with_listing p e x) (with_child (Some e) y) now_at

    holds_now : child_of (with_child (Some e) y) ≡ Some e
    holds_now = child_of-with_child (Some e) y

    same_origin : (with_listing p e x).origin ≡ x.origin
    same_origin = origin_kept p (with_child (Some e)) x (λ a. refl)

    root_now : (with_listing p e x).number ≡ 1
    root_now = number_kept p (with_child (Some e)) x (λ a. refl) ∙ t.fits.root

    stays_loaded : child_of (with_listing p e x) ≡ None → ⊥
    stays_loaded none = root_loaded (with_listing p e x) (with_child (Some e) y) e place_now holds_now none

    rootless_now : (with_listing p e x).origin ≢ origin.Own → root_file G ≡ None
    rootless_now other = elim (same_or_apart y.number 1) [
      | inl is ↦ unrooted (λ own. other (same_origin ∙ ap (λ (a : Row). a.origin) (is_top is) ∙ own)) is
      | inr ne ↦ root_same G F (elsewhere 1 ne) ∙ t.rootless (λ o. other (same_origin ∙ o))
    ]

    rooted_now : (with_listing p e x).origin ≡ origin.Own → HoldsKind G 1 kind.Dir
    rooted_now o = elim (same_or_apart y.number 1) [
      | inl is ↦ (let P : ℕ → Type 0 = λ k. HoldsEntries G k entries in (entries, subst P is (mine (ap (λ (a : Row). a.origin) (sym (is_top is)) ∙ sym same_origin ∙ o))))
      | inr ne ↦ kind_moved F G 1 kind.Dir (sym (elsewhere 1 ne)) (t.rooted (sym same_origin ∙ o))
    ]

    dir_now : (a : Row) (b : Directory) → Becomes y e x a b → a.kind ≡ kind.Dir
    dir_now a b (inl is) = ap (λ (q : Row). q.kind) is.0 ∙ t.fits.is_dir y d place_y held
    dir_now a b (inr s) = s.kind ∙ t.fits.is_dir s.row s.directory s.place s.holds

    stored_now : (y.origin ≡ origin.Own → IsStoredAs G y.number e) → (a : Row) (b : Directory) → a.origin ≡ origin.Own → Becomes y e x a b → IsStoredAs G a.number b
    stored_now filed a b o (inl is) =
        let P : ℕ → Type 0 = λ j. IsStoredAs G j b in
        let Q : Directory → Type 0 = λ q. IsStoredAs G y.number q in
        subst P (sym (ap (λ (q : Row). q.number) is.0)) (subst Q (sym is.1) (filed (ap (λ (q : Row). q.origin) (sym is.0) ∙ o)))
    stored_now filed a b o (inr s) =
        stored_moved F G a.number s.row.number b s.directory (sym (elsewhere s.row.number (λ is. s.off (sym is)))) s.number s.mark s.listing
        (t.stored s.row s.directory s.place s.holds (sym s.origin ∙ o))

    marked_now : (e.unsaved ≡ true → y.origin ≡ origin.Own) → (a : Row) (b : Directory) → b.unsaved ≡ true → Becomes y e x a b → a.origin ≡ origin.Own
    marked_now marks a b unsaved (inl is) = ap (λ (q : Row). q.origin) is.0 ∙ marks (ap (λ (q : Directory). q.unsaved) (sym is.1) ∙ unsaved)
    marked_now marks a b unsaved (inr s) = s.origin ∙ t.marked s.row s.directory s.place s.holds (sym s.mark ∙ unsaved)

  -- ---- entries left out, and the mark

  module _ (own : y.origin ≡ origin.Own) (entries : List StoredEntry) (are : AreStorable entries) (some : (f : StoredEntry) → Contains entries f → Contains (listing_of d) f) where
    abbrev G : Stored
    G = with_entries F y.number entries

    abbrev e : Directory
    e = record d { unsaved = true }

    mine : y.origin ≡ origin.Own → HoldsEntries G y.number entries
    mine o = entries_held F y.number entries are

    unrooted : y.origin ≢ origin.Own → y.number ≡ 1 → root_file G ≡ None
    unrooted other is = absurd (other own)

    elsewhere : (k : ℕ) → y.number ≢ k → G k ≡ F k
    elsewhere k ne = apart F y.number entries are k ne

    which : (a : Row) (b : Directory) → Place (with_listing p e x) a → child_of a ≡ Some b → Becomes y e x a b
    which a b q h = forward full x next t.fits y d e held (λ n w f. inl f) (λ n w c f k. f) p x at top a b q h

    filed : IsStoredAs G y.number e
    filed = record { entries = entries; held = mine own; some = some; all = λ saved. (let both : true ≡ false = saved in absurd (cc)) }

    held_now : (a : Row) (b : Directory) → Becomes y e x a b → HoldsEntries full a.number (full_listing b)
    held_now a b (inl is) =
        let P : ℕ → Type 0 = λ j. HoldsEntries full j (full_listing b) in
        let Q : Directory → Type 0 = λ q. HoldsEntries full y.number (full_listing q) in
        subst P (sym (ap (λ (q : Row). q.number) is.0)) (subst Q (sym is.1) (t.fits.held y d place_y held))
    held_now a b (inr s) =
        let P : ℕ → Type 0 = λ j. HoldsEntries full j (full_listing b) in
        let Q : List StoredEntry → Type 0 = λ es. HoldsEntries full s.row.number es in
        subst P (sym s.number) (subst Q (sym s.full) (t.fits.held s.row s.directory s.place s.holds))

    left_out : Ties G full (with_listing p e x) next
    left_out = record {
      fits = record {
        root = root_now e G entries mine unrooted elsewhere;
        sound = t.fits.sound;
        below = t.fits.below;
        is_dir = λ a b q h. dir_now e G entries mine unrooted elsewhere a b (which a b q h);
        held = λ a b q h. held_now a b (which a b q h);
      };
      stored = λ a b q h o. stored_now e G entries mine unrooted elsewhere (λ o. filed) a b o (which a b q h);
      marked = λ a b q h u. marked_now e G entries mine unrooted elsewhere (λ u. own) a b u (which a b q h);
      same = λ c f r n o away.
          (let off : y.number ≢ f.number = away (with_child (Some e) y) e (place_now e G entries mine unrooted elsewhere) (holds_now e G entries mine unrooted elsewhere) in
          same_moved F G full full f.number (elsewhere f.number off) refl
          (t.same c f r n o (λ a b q h is.
          (let k = back full x next t.fits y d e held (λ n w f. inl f) (λ n w c f k. f) p x at top a b q h in
          away k.row k.directory k.place k.holds (k.number ∙ is)))));
      same_root = λ none. absurd (stays_loaded e G entries mine unrooted elsewhere none);
      rootless = rootless_now e G entries mine unrooted elsewhere;
      rooted = rooted_now e G entries mine unrooted elsewhere;
    }

  -- ---- another listing

  module _ (e : Directory) (may : MayBecome F full x next d e) (are : AreStorable (listing_of e)) (full_are : AreStorable (full_listing e))
      (sound : AreSound (with_entries full y.number (full_listing e))) (H : Stored) (mine_e : y.origin ≡ origin.Own → HoldsEntries H y.number (listing_of e))
      (unrooted_e : y.origin ≢ origin.Own → y.number ≡ 1 → root_file H ≡ None) (apart_e : (k : ℕ) → y.number ≢ k → H k ≡ F k) where
    abbrev full2 : Stored
    full2 = with_entries full y.number (full_listing e)

    abbrev table_e : Row
    table_e = with_listing p e x

    each : (n : Name) (w : Row) → find_row n e.rows ≡ Some w → (find_row n d.rows ≡ Some w) ⊎ (child_of w ≡ None)
    each n w f = elim (may.each n w f) [ inl was ↦ inl was | inr new ↦ inr new.0 ]

    which_e : (a : Row) (b : Directory) → Place table_e a → child_of a ≡ Some b → Becomes y e x a b
    which_e a b q h = forward full x next t.fits y d e held each may.loaded p x at top a b q h

    held_e : (a : Row) (b : Directory) → Becomes y e x a b → HoldsEntries full2 a.number (full_listing b)
    held_e a b (inl is) =
        let P : ℕ → Type 0 = λ j. HoldsEntries full2 j (full_listing b) in
        let Q : Directory → Type 0 = λ q. HoldsEntries full2 y.number (full_listing q) in
        subst P (sym (ap (λ (q : Row). q.number) is.0)) (subst Q (sym is.1) (entries_held full y.number (full_listing e) full_are))
    held_e a b (inr s) =
        let P : ℕ → Type 0 = λ j. HoldsEntries full2 j (full_listing b) in
        let Q : List StoredEntry → Type 0 = λ es. HoldsEntries full2 s.row.number es in
        subst P (sym s.number) (subst Q (sym s.full)
        (held_moved full full2 s.row.number (full_listing s.directory)
        (sym (apart full y.number (full_listing e) full_are s.row.number (λ is. s.off (sym is)))) (t.fits.held s.row s.directory s.place s.holds)))

    -- what is live in the full files now was live before, or comes in with an entry
    record Under (c : ℕ) : Type 0 where
      entry : StoredEntry
      carried : IsCarried F full x next entry
      leads : LeadsOn entry
      reached : Reached full entry.number c

    -- and so is what it names
    data Named (c : ℕ) (f : StoredEntry) : Type 0 where
      old_name : IsLive full c → Names full c f → Named c f
      new_name : IsCarried F full x next f → Named c f
      under_name : Under c → Names full c f → Named c f

    named_e : (c : ℕ) (f : StoredEntry) → IsLive full c ⊎ Under c → Names full2 c f → Named c f
    named_e c f stands n = elim (named full y.number (full_listing e) full_are c f n) [
      | inl h ↦
          (let from = mapped_from full_entry e.rows f h.1 in
          let m = from.0.0 in
          let w = from.0.1 in
          elim (may.each m w (find_row-Contains m e.rows w (full_rising e full_are) from.1.0)) [
            | inl was ↦
                (let P : ℕ → Type 0 = λ k. IsLive full k in
                let Q : ℕ → Type 0 = λ k. Names full k f in
                let R : StoredEntry → Type 0 = λ s. Names full y.number s in
                let names : Names full y.number f = subst R from.1.1 (named_full full x next t.fits y d m w place_y held was) in
                old_name (subst P h.0 (place_counts full x next t.fits y d place_y held)) (subst Q h.0 names))
            | inr new ↦
                (let P : StoredEntry → Type 0 = λ s. IsCarried F full x next s in
                new_name (subst P (sym (entry_as_is m w new.0) ∙ from.1.1) new.1))
          ])
      | inr h ↦ elim stands [ inl r ↦ old_name r h.1 | inr u ↦ under_name u h.1 ]
    ]

    stands_below : (c : ℕ) (f : StoredEntry) → Named c f → LeadsOn f → IsLive full f.number ⊎ Under f.number
    stands_below c f (old_name r n) leads = inl (below c f r n leads)
    stands_below c f (new_name carried) leads = inr (record { entry = f; carried = carried; leads = leads; reached = here })
    stands_below c f (under_name u n) leads = inr (record { entry = u.entry; carried = u.carried; leads = u.leads; reached = below c f u.reached n leads })

    stands : (c : ℕ) → IsLive full2 c → IsLive full c ⊎ Under c
    stands c here = inl here
    stands c (below b f r n leads) = stands_below b f (named_e b f (stands b r) n) leads

    below_e : (c : ℕ) (f : StoredEntry) → Named c f → f.number < next
    below_e c f (old_name r n) = t.fits.below c f r n
    below_e c f (new_name carried) = carried.below f.number (inl refl)
    below_e c f (under_name u n) = u.carried.below f.number (inr (u.leads, record { directory = c; entry = f; reached = u.reached; named = n; is = refl }))

    same_e : (c : ℕ) (f : StoredEntry) → Named c f → f.origin ≡ origin.Own → IsAway x f.number → SameFile F full f.number
    same_e c f (old_name r n) o away = t.same c f r n o away
    same_e c f (new_name carried) o away = carried.own o
    same_e c f (under_name u n) o away = u.carried.owned u.leads c f u.reached n o

    away_before : (k : ℕ) → IsAway table_e k → IsAway x k
    away_before k away a b q h is =
        let l = back full x next t.fits y d e held each may.loaded p x at top a b q h in
        away l.row l.directory l.place l.holds (l.number ∙ is)

    pub changed : Ties H full2 table_e next
    changed = record {
      fits = record {
        root = root_now e H (listing_of e) mine_e unrooted_e apart_e;
        sound = sound;
        below = λ c f r n. below_e c f (named_e c f (stands c r) n);
        is_dir = λ a b q h. dir_now e H (listing_of e) mine_e unrooted_e apart_e a b (which_e a b q h);
        held = λ a b q h. held_e a b (which_e a b q h);
      };
      stored = λ a b q h o. stored_now e H (listing_of e) mine_e unrooted_e apart_e (λ own. stored_new H y.number e (mine_e own)) a b o (which_e a b q h);
      marked = λ a b q h u. marked_now e H (listing_of e) mine_e unrooted_e apart_e (λ marked. (let both : false ≡ true = sym may.saved ∙ marked in absurd (cc))) a b u (which_e a b q h);
      same = λ c f r n o away.
          (let off : y.number ≢ f.number = away (with_child (Some e) y) e (place_now e H (listing_of e) mine_e unrooted_e apart_e) (holds_now e H (listing_of e) mine_e unrooted_e apart_e) in
          same_moved F H full full2 f.number (apart_e f.number off) (apart full y.number (full_listing e) full_are f.number off)
          (same_e c f (named_e c f (stands c r) n) o (away_before f.number away)));
      same_root = λ none. absurd (stays_loaded e H (listing_of e) mine_e unrooted_e apart_e none);
      rootless = rootless_now e H (listing_of e) mine_e unrooted_e apart_e;
      rooted = rooted_now e H (listing_of e) mine_e unrooted_e apart_e;
    }

-- what can be stored can be so in full
full_each : (es : List (Name × Row)) → AllByRecursion IsStorable (map stored_entry es) → AllByRecursion IsStorable (map full_entry es)
full_each [] all = tt
full_each (e ∷ es) all = (record { name = all.0.name; origin = full_origin e.1.child e.1.kind e.1.origin all.0.origin; least = all.0.least; most = all.0.most }, full_each es all.1)
  where
    full_origin : (c : Child) (k : Kind) (o : Origin) → HasOrigin k o → HasOrigin k (own_if_loaded c o)
    full_origin unloaded k o h = h
    full_origin (loaded s u r) k o h = tt

length_both : (es : List (Name × Row)) → length (map full_entry es) ≡ length (map stored_entry es)
length_both [] = refl
length_both (e ∷ es) = ap suc (length_both es)

pub full_are : (d : Directory) → AreStorable (listing_of d) → AreStorable (full_listing d)
full_are d are = record {
  count = subst (λ k. k < 2 ^ 32) (sym (length_both d.rows)) are.count;
  rising = subst (IsStrictlySortedBy order) (names_stored d.rows ∙ sym (names_full d.rows)) are.rising;
  each = full_each d.rows are.each;
}

pub changes_tied : ChangesTied
changes_tied F full x next t p y d e at held own may are sound =
    changed F full x next t p y d at held e may are (full_are e are) sound (with_entries F y.number (listing_of e)) (λ o. entries_held F y.number (listing_of e) are)
    (λ other is. absurd (other own)) (λ k ne. apart F y.number (listing_of e) are k ne)

pub unstored_tied : UnstoredTied
unstored_tied F full x next t p y d e at held other may are sound =
    changed F full x next t p y d at held e may are (full_are e are) sound F (λ own. absurd (other own))
    (λ off is. t.rootless (λ own. off (ap (λ (a : Row). a.origin) (sym (is_root F full x next t y d (place_at p x y at) held is)) ∙ own))) (λ k ne. refl)

pub left_out_tied : LeftOutTied
left_out_tied F full x next t p y d entries at held own are some = left_out F full x next t p y d at held own entries are some
