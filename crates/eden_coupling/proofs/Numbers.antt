-- What comes to stand in a directory, by its number: it is carried, and the files `full` stay sound with it.
use Rattle.std.proofs.Common.{◌≡◌, ◌≢◌, ◌≤◌, ◌<◌, ◌⊎◌, ℕ, [], Some, None, Contains, inl, inr, refl, sym, ap, ◌∙◌, subst, arith}
use Rattle.std.proofs.Math.Path.{fun_ext}
use Rattle.std.proofs.lemmas.Option.{same_Some}
use Rattle.eden_model.specs.declared.kind.Kind.{Kind}
use Rattle.eden_model.specs.declared.kind.Kind.TheVariants as kind
use Rattle.eden_model.specs.declared.kind.Origin.TheVariants as origin
use Rattle.eden_model.specs.Limits.{number_least}
use Rattle.eden_model.specs.Trees.{Name, Path}
use Rattle.eden_overlay_format.specs.Directory.{AreStorable}
use Rattle.eden_overlay_format.specs.declared.stored_entry.StoredEntry.{StoredEntry}
use Rattle.eden_overlay.specs.Files.{Stored, with_file}
use Rattle.eden_overlay.specs.Held.{HoldsEntries, with_entries}
use Rattle.eden_overlay.specs.Soundness.{Names, IsLive, HoldsKind, AreSound}
use Rattle.eden_overlay.specs.Laws.{IsStray, IsFresh}
use Rattle.eden_overlay.proofs.CallerLemmas.{same_or_apart, put_here, put_apart, kind_moved, added_stay, numbers_from_two}
use Rattle.eden_tree.specs.Directory.{Row, Directory, child_of}
use Rattle.eden_tree.specs.Rows.{find_row}
use Rattle.eden_tree.specs.Paths.{row_at}
use Rattle.eden_tree.proofs.CallerLemmas.{find_row-Contains}
use Rattle.eden_coupling.specs.Changing.{IsCarried, changed, MayGo, MayCome}
use Rattle.eden_coupling.specs.Listings.{stored_entry, full_entry, listing_of, full_listing, Place}
use Rattle.eden_coupling.specs.Ties.{IsAway, SameFile, Ties}
use Rattle.eden_coupling.proofs.Changing.{full_are}
use Rattle.eden_coupling.proofs.Follows.{held_moved}
use Rattle.eden_coupling.proofs.Moved.{from_with, new_file_tied, away_new, carried_new, sound_new}
use Rattle.eden_coupling.proofs.Places.{rising_of, named_full, place_counts, one_row, away_row}
use Rattle.eden_coupling.proofs.Rows.{mapped_from, full_rising, as_is, entry_as_is}

-- the kinds that have a content hold alike
pub content_kind : (F : Stored) (k : ℕ) (a b : Kind) → a ≢ kind.Dir → b ≢ kind.Dir → HoldsKind F k a → HoldsKind F k b
content_kind F k kind.Dir b other also h = absurd (other refl)
content_kind F k a kind.Dir other also h = absurd (also refl)
content_kind F k kind.File kind.File other also h = h
content_kind F k kind.File kind.Exec other also h = h
content_kind F k kind.File kind.Link other also h = h
content_kind F k kind.Exec kind.File other also h = h
content_kind F k kind.Exec kind.Exec other also h = h
content_kind F k kind.Exec kind.Link other also h = h
content_kind F k kind.Link kind.File other also h = h
content_kind F k kind.Link kind.Exec other also h = h
content_kind F k kind.Link kind.Link other also h = h

-- a file put in as it is
put_same : (F : Stored) (k : ℕ) → with_file F k (F k) ≡ F
put_same F k = fun_ext at
  where
    at : (j : ℕ) → with_file F k (F k) j ≡ F j
    at j = elim (same_or_apart k j) [ inl is ↦ put_here F k j (F k) is ∙ ap F is | inr off ↦ put_apart F k j (F k) off ]

-- ---- in the place of a file or link of the same number

module _ (F full : Stored) (x : Row) (next : ℕ) (t : Ties F full x next) (y : Row) (d : Directory) (place : Place x y) (holds : child_of y ≡ Some d) (n : Name) (z w : Row)
    (there : find_row n d.rows ≡ Some w) (shut_w : child_of w ≡ None) (shut : child_of z ≡ None) (number : z.number ≡ w.number) (other : z.kind ≢ kind.Dir) where
  abbrev before : StoredEntry
  before = full_entry (n, w)

  names : Names full y.number before
  names = named_full full x next t.fits y d n w place holds there

  live : IsLive full y.number
  live = place_counts full x next t.fits y d place holds

  away_w : IsAway x w.number
  away_w = away_row full x next t.fits y d n w place holds there shut_w

  module _ (same : z.origin ≡ origin.Own → SameFile F full z.number) where
    same_carried : IsCarried F full x next (stored_entry (n, z))
    same_carried = record {
      below = λ k brings. elim brings [
        | inl is ↦ subst (λ j. j < next) (sym number ∙ is) (t.fits.below y.number before live names)
        | inr under ↦ absurd (other under.0.0)
      ];
      away = λ k brings. elim brings [
        | inl is ↦ subst (λ j. IsAway x j) (sym number ∙ is) away_w
        | inr under ↦ absurd (other under.0.0)
      ];
      own = same;
      owned = λ leads c f r m o. absurd (other leads.0);
    }

    pub same_come : MayCome F full x next n (Some z)
    same_come = (shut, same_carried)

  module _ (filed : z.origin ≡ origin.Own → HoldsKind full z.number z.kind) (are : AreStorable (listing_of (changed d n (Some z)))) where
    abbrev new : Directory
    new = changed d n (Some z)

    -- the entry that stood there
    was : (m : Name) (v : Row) → find_row m new.rows ≡ Some v → (u : Row) × ((find_row m d.rows ≡ Some u) × (u.number ≡ v.number))
    was m v found = elim (from_with m n (Some z) d.rows v (rising_of full x next t.fits y d place holds) found) [
      | inl old ↦ (v, (old, refl))
      | inr is ↦ (w, (ap (λ a. find_row a d.rows) is.0 ∙ there, sym number ∙ ap (λ (r : Row). r.number) (same_Some z v is.1)))
    ]

    found_in : (a : Name × Row) → Contains new.rows a → find_row a.0 new.rows ≡ Some a.1
    found_in a c = find_row-Contains a.0 new.rows a.1 (full_rising new (full_are new are)) c

    once_new : (e f : StoredEntry) → Contains (full_listing new) e → Contains (full_listing new) f → e.number ≡ f.number → e ≡ f
    once_new e f c g is =
        let a = mapped_from full_entry new.rows e c in
        let b = mapped_from full_entry new.rows f g in
        let u = was a.0.0 a.0.1 (found_in a.0 a.1.0) in
        let v = was b.0.0 b.0.1 (found_in b.0 b.1.0) in
        let numbers : u.0.number ≡ v.0.number = u.1.1 ∙ ap (λ (s : StoredEntry). s.number) a.1.1 ∙ is ∙ sym (ap (λ (s : StoredEntry). s.number) b.1.1) ∙ sym v.1.1 in
        let name = (one_row full x next t.fits y y d d a.0.0 b.0.0 u.0 v.0 place holds u.1.0 place holds v.1.0 numbers).1.0 in
        let row : a.0.1 ≡ b.0.1 = same_Some a.0.1 b.0.1 (sym (found_in a.0 a.1.0) ∙ ap (λ m. find_row m new.rows) name ∙ found_in b.0 b.1.0) in
        sym a.1.1 ∙ ap (λ m. full_entry (m, a.0.1)) name ∙ ap (λ r. full_entry (b.0.0, r)) row ∙ b.1.1

    fresh : IsFresh full y.number (full_entry (n, z))
    fresh = record {
      own = λ o. filed (sym (as_is z shut) ∙ o);
      free = λ c f r m is. (t.fits.sound.once c y.number f before r live m names (is ∙ number)).0;
      empty = λ leads. absurd (other leads.0);
    }

    each_new : (e : StoredEntry) → Contains (full_listing new) e → Names full y.number e ⊎ IsFresh full y.number e
    each_new e c =
        let a = mapped_from full_entry new.rows e c in
        elim (from_with a.0.0 n (Some z) d.rows a.0.1 (rising_of full x next t.fits y d place holds) (found_in a.0 a.1.0)) [
          | inl old ↦ inl (subst (λ s. Names full y.number s) a.1.1 (named_full full x next t.fits y d a.0.0 a.0.1 place holds old))
          | inr is ↦
              (let P : StoredEntry → Type 0 = λ s. IsFresh full y.number s in
              inr (subst P (ap (λ r. full_entry (n, r)) (same_Some z a.0.1 is.1) ∙ ap (λ m. full_entry (m, a.0.1)) (sym is.0) ∙ a.1.1) fresh))
        ]

    pub same_sound : AreSound (with_entries full y.number (full_listing new))
    same_sound = added_stay full y.number (full_listing new) live (full_are new are) once_new each_new t.fits.sound

-- a file of it, stored while it isn't its own, is a stray in both
module _ (F full : Stored) (x : Row) (next : ℕ) (t : Ties F full x next) (y : Row) (d : Directory) (place : Place x y) (holds : child_of y ≡ Some d) (n : Name) (w : Row)
    (there : find_row n d.rows ≡ Some w) (shut_w : child_of w ≡ None) (other : w.origin ≢ origin.Own) where
  pub is_stray : IsStray full w.number
  is_stray =
      let names = named_full full x next t.fits y d n w place holds there in
      let live = place_counts full x next t.fits y d place holds in
      record {
        not_root = λ is. (let least = numbers_from_two full y.number (full_entry (n, w)) names in omega (arith, least, is));
        not_own = λ c e r m own is.
            (let one = (t.fits.sound.once c y.number e (full_entry (n, w)) r live m names is).1 in
            other (sym (as_is w shut_w) ∙ sym (ap (λ (s : StoredEntry). s.origin) one) ∙ own));
      }

  pub stray_away : IsAway x w.number
  stray_away = away_row full x next t.fits y d n w place holds there shut_w

  -- so the files `full` may have it as it is stored
  pub agreed : Ties F (with_file full w.number (F w.number)) x next
  agreed = subst (λ (G : Stored). Ties G (with_file full w.number (F w.number)) x next) (put_same F w.number) (new_file_tied F full x next t w.number (F w.number) is_stray stray_away)

-- ---- of a number that nothing had

module _ (F full : Stored) (x : Row) (next k : ℕ) (old : Ties F full x k) (t : Ties F full x next) (p : Path) (y : Row) (d : Directory) (n : Name) (z : Row)
    (at : row_at p x ≡ Some y) (holds : child_of y ≡ Some d) (go : MayGo d n) (shut : child_of z ≡ None) (number : z.number ≡ k) (least : number_least ≤ z.number) (given : z.number < next)
    (filed : HoldsKind F z.number z.kind) (empty : z.kind ≡ kind.Dir → HoldsEntries F z.number []) (are : AreStorable (listing_of (changed d n (Some z)))) where
  abbrev pub full_then : Stored
  full_then = with_file full z.number (F z.number)

  unnamed : (c : ℕ) (e : StoredEntry) → IsLive full c → Names full c e → e.number ≢ z.number
  unnamed c e r m is = let less = old.fits.below c e r m in omega (arith, less, is, number)

  here_then : full_then z.number ≡ F z.number
  here_then = put_here full z.number z.number (F z.number) refl

  filed_then : HoldsKind full_then z.number z.kind
  filed_then = kind_moved F full_then z.number z.kind (sym here_then) filed

  empty_then : z.kind ≡ kind.Dir → HoldsEntries full_then z.number []
  empty_then dir = held_moved F full_then z.number [] (sym here_then) (empty dir)

  pub new_ties : Ties F full_then x next
  new_ties =
      subst (λ (G : Stored). Ties G full_then x next) (put_same F z.number)
      (new_file_tied F full x next t z.number (F z.number) (record { not_root = λ is. omega (arith, least, is); not_own = λ c e r m o. unnamed c e r m })
      (away_new F full x next t p y d n z (F z.number) at holds go shut least given unnamed filed_then empty_then are))

  pub new_come : MayCome F full_then x next n (Some z)
  new_come = (
    shut,
    (let P : StoredEntry → Type 0 = λ s. IsCarried F full_then x next s in
        subst P (entry_as_is n z shut)
        (subst (λ (G : Stored). IsCarried G full_then x next (full_entry (n, z))) (put_same F z.number)
        (carried_new F full x next t p y d n z (F z.number) at holds go shut least given unnamed filed_then empty_then are))),
  )

  pub new_sound : AreSound (with_entries full_then y.number (full_listing (changed d n (Some z))))
  new_sound = sound_new F full x next t p y d n z (F z.number) at holds go shut least given unnamed filed_then empty_then are
