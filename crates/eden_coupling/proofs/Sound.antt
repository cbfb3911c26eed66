-- The files that a table is tied to are sound.
use Rattle.std.proofs.Common.{◌≡◌, ◌≢◌, ◌⊎◌, ◌<◌, ℕ, List, Some, None, Contains, sym, ap, ◌∙◌, subst, inl, inr}
use Rattle.std.proofs.lemmas.Option.{none-some}
use Rattle.eden_model.specs.declared.kind.Kind.{Kind}
use Rattle.eden_model.specs.declared.kind.Kind.TheVariants as kind
use Rattle.eden_model.specs.declared.kind.Origin.TheVariants as origin
use Rattle.eden_model.specs.Trees.{Name}
use Rattle.eden_overlay_format.specs.declared.stored_entry.StoredEntry.{StoredEntry}
use Rattle.eden_overlay.specs.Files.{Stored}
use Rattle.eden_overlay.specs.Held.{HoldsEntries, root_file}
use Rattle.eden_overlay.specs.Soundness.{Names, LeadsOn, here, below, IsLive, HoldsKind, AreSound}
use Rattle.eden_overlay.proofs.CallerLemmas.{names_moved, kind_moved, one_kind, one_held, numbers_from_two, entries_at_root}
use Rattle.eden_tree.specs.Directory.{Row, Directory, child_of}
use Rattle.eden_tree.specs.Rows.{find_row}
use Rattle.eden_tree.proofs.CallerLemmas.{find_row-Contains}
use Rattle.eden_coupling.specs.Listings.{stored_entry, full_entry, Place, top, inside}
use Rattle.eden_coupling.specs.Ties.{IsAway, SameFile, Ties}
use Rattle.eden_coupling.specs.Laws.{TiesSound, NumbersBelow, RowsNumbered, RowsOnce}
use Rattle.eden_coupling.proofs.Rows.{mapped_from, by_child, by_origin, own_full}
use Rattle.eden_coupling.proofs.Places.{rising_of, named_full, place_counts, one_row, away_row, away_below}

-- ---- files that are the same

kind_of_directory : (F G : Stored) (k : ℕ) (t : Kind) (es : List StoredEntry) → HoldsEntries G k es → HoldsEntries F k es → HoldsKind G k t → HoldsKind F k t
kind_of_directory F G k kind.Dir es g f h = (es, f)
kind_of_directory F G k kind.File es g f h = absurd (one_kind G k h.0 es h.1 g)
kind_of_directory F G k kind.Exec es g f h = absurd (one_kind G k h.0 es h.1 g)
kind_of_directory F G k kind.Link es g f h = absurd (one_kind G k h.0 es h.1 g)

kind_same : (F G : Stored) (k : ℕ) (t : Kind) → SameFile F G k → HoldsKind G k t → HoldsKind F k t
kind_same F G k t (inl is) h = kind_moved G F k t (sym is) h
kind_same F G k t (inr s) h = kind_of_directory F G k t s.0 s.1.1 s.1.0 h

names_same : (F G : Stored) (k : ℕ) (e : StoredEntry) → SameFile F G k → Names F k e → Names G k e
names_same F G k e (inl is) n = names_moved F G k e is n
names_same F G k e (inr s) n =
    let P : List StoredEntry → Type 0 = λ es. Contains es e in
    record { entries = s.0; held = s.1.1; there = subst P (one_held F k n.entries s.0 n.held s.1.0) n.there }

module _ (F full : Stored) (x : Row) (next : ℕ) (t : Ties F full x next) where
  -- a directory that counts in the files is loaded and its own, or the same in the full files
  data Standing (c : ℕ) : Type 0 where
    in_memory : (y : Row) (d : Directory) → Place x y → child_of y ≡ Some d → y.origin ≡ origin.Own → y.number ≡ c → Standing c
    in_file : IsAway x c → IsLive full c → SameFile F full c → Standing c

  -- so what it names is an entry of the loaded one, or named in the full files
  data Site (c : ℕ) (e : StoredEntry) : Type 0 where
    loaded_row : (y : Row) (d : Directory) (n : Name) (z : Row) → Place x y → child_of y ≡ Some d → find_row n d.rows ≡ Some z → y.number ≡ c → stored_entry (n, z) ≡ e → Site c e
    filed_row : IsAway x c → IsLive full c → Names full c e → Site c e

  site : (c : ℕ) (e : StoredEntry) → Standing c → Names F c e → Site c e
  site c e (in_memory y d p h own is) n =
      let s = t.stored y d p h own in
      let P : ℕ → Type 0 = λ k. HoldsEntries F k s.entries in
      let Q : List StoredEntry → Type 0 = λ es. Contains es e in
      let there : Contains s.entries e = subst Q (one_held F c n.entries s.entries n.held (subst P is s.held)) n.there in
      let from = mapped_from stored_entry d.rows e (s.some e there) in
      loaded_row y d from.0.0 from.0.1 p h (find_row-Contains from.0.0 d.rows from.0.1 (rising_of full x next t.fits y d p h) from.1.0) is from.1.1
  site c e (in_file away r same) n = filed_row away r (names_same F full c e same n)

  root_standing : root_file F ≢ None → Standing 1
  root_standing some =
      by_child x (Standing 1)
      (λ none. in_file (λ y d p h is. alone none y d p h) here (t.same_root none))
      (λ d h. by_origin x.origin (Standing 1) (λ other. absurd (some (t.rootless other))) (λ own. in_memory x d top h own t.fits.root))
    where
      alone : child_of x ≡ None → (y : Row) (d : Directory) → Place x y → child_of y ≡ Some d → ⊥
      alone none y d top h = none-some d (sym none ∙ h)
      alone none y d (inside u e n z p k f) h = alone none u e p k

  next_standing : (c : ℕ) (e : StoredEntry) → Site c e → LeadsOn e → Standing e.number
  next_standing c e (loaded_row y d n z p h f is entry) leads =
      let own : z.origin ≡ origin.Own = ap (λ (s : StoredEntry). s.origin) entry ∙ leads.1 in
      let number : z.number ≡ e.number = ap (λ (s : StoredEntry). s.number) entry in
      let named = named_full full x next t.fits y d n z p h f in
      let counts = place_counts full x next t.fits y d p h in
      let dir : z.kind ≡ kind.Dir = ap (λ (s : StoredEntry). s.kind) entry ∙ leads.0 in
      let P : ℕ → Type 0 = λ k. Standing k in
      by_child z (Standing e.number)
      (λ none.
      let away = away_row full x next t.fits y d n z p h f none in
      let same = t.same y.number (full_entry (n, z)) counts named (own_full z own) away in
      subst P number (in_file away (below y.number (full_entry (n, z)) counts named (dir, own_full z own)) same))
      (λ e h2. in_memory z e (inside y d n z p h f) h2 own number)
  next_standing c e (filed_row away r n) leads =
      let off = away_below full x next t.fits c e r n away in
      in_file off (below c e r n leads) (t.same c e r n leads.1 off)

  standing : (c : ℕ) → IsLive F c → root_file F ≢ None → Standing c
  standing c here some = root_standing some
  standing c (below b e r n leads) some = next_standing b e (site b e (standing b r some) n) leads

  -- where anything is named, the root's file stands
  stands : (c : ℕ) (e : StoredEntry) → IsLive F c → Names F c e → root_file F ≢ None
  stands c e here n none = entries_at_root F n.entries none n.held
  stands c e (below b f r m leads) n none = stands b f r m none

  site_of : (c : ℕ) (e : StoredEntry) → IsLive F c → Names F c e → Site c e
  site_of c e r n = site c e (standing c r (stands c e r n)) n

  has_own : (c : ℕ) (e : StoredEntry) → Site c e → e.origin ≡ origin.Own → HoldsKind F e.number e.kind
  has_own c e (loaded_row y d n z p h f is entry) own =
      let mine : z.origin ≡ origin.Own = ap (λ (s : StoredEntry). s.origin) entry ∙ own in
      let P : StoredEntry → Type 0 = λ s. HoldsKind F s.number s.kind in
      subst P entry
      (by_child z (HoldsKind F z.number z.kind)
      (λ none.
      let named = named_full full x next t.fits y d n z p h f in
      let counts = place_counts full x next t.fits y d p h in
      let away = away_row full x next t.fits y d n z p h f none in
      let same = t.same y.number (full_entry (n, z)) counts named (own_full z mine) away in
      kind_same F full z.number z.kind same (t.fits.sound.owned y.number (full_entry (n, z)) counts named (own_full z mine)))
      (λ e k.
      let place = inside y d n z p h f in
      let s = t.stored z e place k mine in
      let Q : Kind → Type 0 = λ k. HoldsKind F z.number k in
      subst Q (sym (t.fits.is_dir z e place k)) (s.entries, s.held)))
  has_own c e (filed_row away r n) own = kind_same F full e.number e.kind (t.same c e r n own (away_below full x next t.fits c e r n away)) (t.fits.sound.owned c e r n own)

  one_site : (b c : ℕ) (e f : StoredEntry) → Site b e → Site c f → e.number ≡ f.number → (b ≡ c) × (e ≡ f)
  one_site b c e f (loaded_row y d n z p h g is entry) (loaded_row y2 d2 n2 z2 p2 h2 g2 is2 entry2) same =
      let number : z.number ≡ z2.number = ap (λ (s : StoredEntry). s.number) entry ∙ same ∙ sym (ap (λ (s : StoredEntry). s.number) entry2) in
      let one = one_row full x next t.fits y y2 d d2 n n2 z z2 p h g p2 h2 g2 number in
      (sym is ∙ ap (λ (r : Row). r.number) one.0 ∙ is2, sym entry ∙ ap (λ m. stored_entry (m, z)) one.1.0 ∙ ap (λ r. stored_entry (n2, r)) one.1.1 ∙ entry2)
  one_site b c e f (loaded_row y d n z p h g is entry) (filed_row away r m) same =
      let number : z.number ≡ f.number = ap (λ (s : StoredEntry). s.number) entry ∙ same in
      absurd (away y d p h (t.fits.sound.once y.number c (full_entry (n, z)) f (place_counts full x next t.fits y d p h) r (named_full full x next t.fits y d n z p h g) m number).0)
  one_site b c e f (filed_row away r m) (loaded_row y d n z p h g is entry) same =
      let number : z.number ≡ e.number = ap (λ (s : StoredEntry). s.number) entry ∙ sym same in
      absurd (away y d p h (t.fits.sound.once y.number b (full_entry (n, z)) e (place_counts full x next t.fits y d p h) r (named_full full x next t.fits y d n z p h g) m number).0)
  one_site b c e f (filed_row away r m) (filed_row away2 r2 m2) same = t.fits.sound.once b c e f r r2 m m2 same

  number_below : (c : ℕ) (e : StoredEntry) → Site c e → e.number < next
  number_below c e (loaded_row y d n z p h f is entry) =
      subst (λ k. k < next) (ap (λ (s : StoredEntry). s.number) entry)
      (t.fits.below y.number (full_entry (n, z)) (place_counts full x next t.fits y d p h) (named_full full x next t.fits y d n z p h f))
  number_below c e (filed_row away r n) = t.fits.below c e r n

  top_is : (root_file F ≡ None) ⊎ HoldsKind F 1 kind.Dir
  top_is = by_origin x.origin ((root_file F ≡ None) ⊎ HoldsKind F 1 kind.Dir) (λ other. inl (t.rootless other)) (λ own. inr (t.rooted own))

  tied_sound : AreSound F
  tied_sound = record {
    top = top_is;
    owned = λ c e r n own. has_own c e (site_of c e r n) own;
    once = λ b c e f r s n m same. one_site b c e f (site_of b e r n) (site_of c f s m) same;
  }

pub ties_sound : TiesSound
ties_sound F full x next t = tied_sound F full x next t

-- ---- numbers

pub numbers_below : NumbersBelow
numbers_below F full x next t c e r n = number_below F full x next t c e (site_of F full x next t c e r n)

pub rows_numbered : RowsNumbered
rows_numbered F full x next t y d n z p h f =
    let counts = place_counts full x next t.fits y d p h in
    let named = named_full full x next t.fits y d n z p h f in
    (numbers_from_two full y.number (full_entry (n, z)) named, t.fits.below y.number (full_entry (n, z)) counts named)

pub rows_once : RowsOnce
rows_once F full x next t y z d e n m v w p h f q k g same = one_row full x next t.fits y z d e n m v w p h f q k g same
