-- Directories that go, and what stays tied.
use Rattle.std.proofs.Common.{◌≡◌, ◌≢◌, ◌<◌, ◌⊎◌, ℕ, Bool, true, false, List, [], Some, None, Contains, refl, sym, ap, ◌∙◌, subst, inl, inr, arith}
use Rattle.std.proofs.lemmas.Option.{same_Some, none-some}
use Rattle.eden_model.specs.declared.kind.Origin.TheVariants as origin
use Rattle.eden_model.specs.Repository.{Repository, no_files}
use Rattle.eden_model.specs.Trees.{Path}
use Rattle.eden_overlay_format.specs.declared.stored_entry.StoredEntry.{StoredEntry}
use Rattle.eden_overlay_format.specs.Directory.{AreStorable}
use Rattle.eden_overlay.specs.Files.{Stored, with_file}
use Rattle.eden_overlay.specs.Held.{HoldsEntries, root_file}
use Rattle.eden_overlay.specs.Soundness.{Names, here, below, IsLive, AreSound}
use Rattle.eden_overlay.proofs.CallerLemmas.{put_here, rootless_sound, entries_held, apart, one_held, numbers_from_two, root_same}
use Rattle.eden_tree.specs.Directory.{Row, Directory, child_of, with_child}
use Rattle.eden_tree.specs.Rows.{find_row}
use Rattle.eden_tree.specs.Paths.{row_at, edit_row}
use Rattle.eden_coupling.specs.Listings.{stored_entry, full_entry, full_listing, Place}
use Rattle.eden_coupling.specs.Ties.{IsAway, SameFile, Ties}
use Rattle.eden_coupling.specs.Kept.{IsTable, IsKept}
use Rattle.eden_coupling.specs.Shown.{IsFrom}
use Rattle.eden_coupling.specs.Unloading.{HasNoneInside, Goes}
use Rattle.eden_coupling.proofs.Rows.{full_rising, by_origin}
use Rattle.eden_coupling.proofs.Edits.{map_set}
use Rattle.eden_coupling.proofs.Places.{named_full, place_counts, one_loaded}
use Rattle.eden_coupling.proofs.Chain.{place_at, root_loaded}
use Rattle.eden_coupling.proofs.Going.{goes_tied}
use Rattle.eden_coupling.proofs.Changing.{full_are}
use Rattle.eden_coupling.proofs.Entries.{each_entry}
use Rattle.eden_coupling.proofs.Grown.{AreFree, nothing_named, shrunk, shrunk_sound, shrunk_found}
use Rattle.eden_coupling.proofs.Steps.{Above, above, leaf_cases, edited_number, edited_origin, edited_forth, now_parent, now_row, Apart, place_parent, at_row, row_holds, forth, back, parent_was}
use Rattle.eden_coupling.proofs.Fine.{IsFine, from_alike, kept_from, was_fine, twin_held}
use Rattle.eden_coupling.proofs.Loaded.{same_after}

-- ---- one that isn't its own

module _ (R : Repository) (F : Stored) (x : Row) (next : ℕ) (table : IsTable x next) (k : IsKept R F x next) (p : Path) (y : Row) (d : Directory)
    (at : row_at p x ≡ Some y) (holds : child_of y ≡ Some d) (bare : HasNoneInside d) (other : y.origin ≢ origin.Own) where
  abbrev t : Ties F k.full x next
  t = k.ties

  abbrev then : Row
  then = edit_row p (with_child None) x

  abbrev left : Row
  left = with_child None y

  -- ---- not the root

  module _ (up : Above p x y) where
    abbrev u : Row
    u = up.row

    abbrev listed : Directory
    listed = now_parent k.full x next t.fits p y None up

    on_u : Place x u
    on_u = place_parent k.full x next t.fits p y None up

    counts_u : IsLive k.full u.number
    counts_u = place_counts k.full x next t.fits u up.directory on_u up.holds

    names_y : Names k.full u.number (full_entry (up.name, y))
    names_y = named_full k.full x next t.fits u up.directory up.name y on_u up.holds up.there

    listed_are : AreStorable (full_listing listed)
    listed_are =
        let P : List StoredEntry → Type 0 = λ es. AreStorable es in
        full_are listed (subst P (sym (map_set stored_entry up.name y left up.directory.rows up.there refl)) (table.listed u up.directory on_u up.holds))

    abbrev child : StoredEntry
    child = full_entry (up.name, left)

    each : (f : StoredEntry) → Contains (full_listing listed) f → (f ≡ child) ⊎ (Names k.full u.number f × (f.number ≢ y.number))
    each = each_entry k.full x next t.fits u up.directory up.name y left up.directory.stamp on_u up.holds up.there (full_rising listed listed_are)

    abbrev full2 : Stored
    full2 = shrunk k.full t.fits.sound u.number counts_u (full_entry (up.name, y)) names_y child refl (full_listing listed) each listed_are other

    sound2 : AreSound full2
    sound2 = shrunk_sound k.full t.fits.sound u.number counts_u (full_entry (up.name, y)) names_y child refl (full_listing listed) each listed_are other

    found2 : (c : ℕ) (e : StoredEntry) → IsLive full2 c → Names full2 c e → (e ≡ child) ⊎ (IsLive k.full c × Names k.full c e)
    found2 = shrunk_found k.full t.fits.sound u.number counts_u (full_entry (up.name, y)) names_y child refl (full_listing listed) each listed_are other

    at_u : HoldsEntries full2 u.number (full_listing listed)
    at_u = entries_held k.full u.number (full_listing listed) listed_are

    elsewhere : (j : ℕ) → j ≢ u.number → full2 j ≡ k.full j
    elsewhere j ne = apart k.full u.number (full_listing listed) listed_are j (λ is. ne (sym is))

    fine : (w : Row) (e : Directory) → Place then w → child_of w ≡ Some e → IsFine R F full2 w e
    fine w e q h = elim (forth k.full x next t.fits p y None up w e q h) [
      | inl is ↦
          (let P : ℕ → Type 0 = λ j. HoldsEntries full2 j (full_listing e) in
          let Q : Directory → Type 0 = λ c. HoldsEntries full2 u.number (full_listing c) in
          was_fine R F x next k full2 w e (parent_was k.full x next t.fits p y None up w e is.0 is.1)
          (subst P (sym (ap (λ (c : Row). c.number) is.0)) (subst Q (sym is.1) at_u)))
      | inr rest ↦ elim rest [
        | inl r ↦ absurd (root_loaded left w e r h refl)
        | inr b ↦ was_fine R F x next k full2 w e b.was (twin_held R F x next k full2 (Apart k.full x next t.fits p y None up) w e b (elsewhere b.was.row.number b.off))
      ]
    ]

    -- the directory above is live, and names it as it is now
    names_then : (e : StoredEntry) → (c : ℕ) → IsLive full2 c → Names full2 c e → e.number ≡ y.number → e ≡ child
    names_then e c r n is = elim (found2 c e r n) [
      | inl same ↦ same
      | inr old ↦ by_old (t.fits.sound.once c u.number e (full_entry (up.name, y)) old.0 counts_u old.1 names_y is)
    ]
      where
        by_old : (c ≡ u.number) × (e ≡ full_entry (up.name, y)) → e ≡ child
        by_old one =
            let P : ℕ → Type 0 = λ j. Names full2 j e in
            let there = subst P one.0 n in
            by_each (each e (in_listed there))
          where
            in_listed : Names full2 u.number e → Contains (full_listing listed) e
            in_listed m = let Q : List StoredEntry → Type 0 = λ es. Contains es e in subst Q (one_held full2 u.number m.entries (full_listing listed) m.held at_u) m.there

            by_each : (e ≡ child) ⊎ (Names k.full u.number e × (e.number ≢ y.number)) → e ≡ child
            by_each (inl same) = same
            by_each (inr off) = absurd (off.1 is)

    away_before : (j : ℕ) → j ≢ y.number → IsAway then j → IsAway x j
    away_before j ne away w e q h is = elim (back k.full x next t.fits p y None up w e q h) [
      | inl r ↦ ne (sym is ∙ ap (λ (c : Row). c.number) (leaf_cases y w d e holds bare r h).0)
      | inr b ↦ away b.row b.directory b.place b.holds (b.number ∙ is)
    ]

    same_then : (c : ℕ) (e : StoredEntry) → IsLive full2 c → Names full2 c e → e.origin ≡ origin.Own → IsAway then e.number → SameFile F full2 e.number
    same_then c e r n own away = elim (found2 c e r n) [
      | inl is ↦ absurd (other (ap (λ (s : StoredEntry). s.origin) (sym is) ∙ own))
      | inr old ↦ same_after F k.full full2 e.number
          (elsewhere e.number (λ is. away (now_row k.full x next t.fits p y None up) listed (at_row k.full x next t.fits p y None up) (row_holds k.full x next t.fits p y None up) (sym is)))
          (t.same c e old.0 old.1 own (away_before e.number (λ is. other (ap (λ (s : StoredEntry). s.origin) (sym (names_then e c r n is)) ∙ own)) away))
    ]

    gone_up : IsKept R F then next
    gone_up = kept_from R F full2 then next (edited_number p None x ∙ t.fits.root) sound2
        (λ c e r n. elim (found2 c e r n) [
          | inl is ↦ subst (λ j. j < next) (sym (ap (λ (s : StoredEntry). s.number) is)) (t.fits.below u.number (full_entry (up.name, y)) counts_u names_y)
          | inr old ↦ t.fits.below c e old.0 old.1
        ])
        fine same_then
        (λ none. absurd (root_loaded then (now_row k.full x next t.fits p y None up) listed (at_row k.full x next t.fits p y None up) (row_holds k.full x next t.fits p y None up) none))
        (λ o. t.rootless (λ own. o (edited_origin p None x ∙ own)))
        (λ own. t.rooted (sym (edited_origin p None x) ∙ own))

    -- nothing live names what it named

    on_y : Place x y
    on_y = place_at p x y at

    live_y : IsLive k.full y.number
    live_y = place_counts k.full x next t.fits y d on_y holds

    -- the directory above is another
    up_apart : u.number ≢ y.number
    up_apart is =
        let one = one_loaded k.full x next t.fits u y up.directory d on_u up.holds on_y holds is in
        let dir : up.directory ≡ d = same_Some up.directory d (sym up.holds ∙ ap child_of one ∙ holds) in
        none-some d (sym (bare up.name y (ap (λ (a : Directory). find_row up.name a.rows) (sym dir) ∙ up.there)) ∙ holds)

    -- and it isn't live itself
    dead_y : (c : ℕ) → IsLive full2 c → c ≢ y.number
    dead_y c here is = let least = numbers_from_two k.full u.number (full_entry (up.name, y)) names_y in absurd (omega (arith, least, is))
    dead_y c (below b g r n leads) is = other (ap (λ (s : StoredEntry). s.origin) (sym (names_then g b r n is)) ∙ leads.1)

    free_up : AreFree full2 (full_listing d)
    free_up f there c e r n is =
        let names_f : Names k.full y.number f = record { entries = full_listing d; held = t.fits.held y d on_y holds; there = there } in
        elim (found2 c e r n) [
          | inl same ↦ up_apart (t.fits.sound.once u.number y.number (full_entry (up.name, y)) f counts_u live_y names_y names_f (sym (ap (λ (s : StoredEntry). s.number) same) ∙ is)).0
          | inr old ↦ dead_y c r (t.fits.sound.once c y.number e f old.0 live_y old.1 names_f is).0
        ]

    pub gone_free : (z : IsKept R F then next) × AreFree z.full (full_listing d)
    unfolding gone_up kept_from
    gone_free = (gone_up, free_up)

  -- ---- the root

  module _ (is_root : (p ≡ []) × (x ≡ y)) where
    then_is : then ≡ left
    then_is = ap (λ q. edit_row q (with_child None) x) is_root.0 ∙ ap (with_child None) is_root.1

    then_shut : child_of then ≡ None
    then_shut = ap child_of then_is

    no_file : root_file F ≡ None
    no_file = t.rootless (λ own. other (ap (λ (c : Row). c.origin) (sym is_root.1) ∙ own))

    -- as file 1 stands, if with numbers alone
    abbrev full3 : Stored
    full3 = with_file k.full 1 (F 1)

    same3 : full3 1 ≡ F 1
    same3 = put_here k.full 1 1 (F 1) refl

    none3 : root_file full3 ≡ None
    none3 = root_same full3 F same3 ∙ no_file

    gone_root : IsKept R F then next
    gone_root = kept_from R F full3 then next (edited_number p None x ∙ t.fits.root) (rootless_sound full3 none3)
        (λ c e r n. absurd (nothing_named full3 none3 c e r n))
        (λ w e q h. absurd (root_loaded then w e q h then_shut))
        (λ c e r n own away. absurd (nothing_named full3 none3 c e r n))
        (λ none. inl (sym same3))
        (λ o. no_file)
        (λ own. absurd (other (ap (λ (c : Row). c.origin) (sym is_root.1) ∙ sym (edited_origin p None x) ∙ own)))

  pub other_gone_kept : IsKept R F then next
  other_gone_kept = elim (above p x y at) [ inl is ↦ gone_root is | inr up ↦ gone_up up ]

-- ---- one of its own, or not

module _ (honest : Type 0) (R : Repository) (clock age next : ℕ) (F : Stored) (x : Row) (G : Stored) (z : Row) (h : honest) (table : IsTable x next) (k : IsKept R F x next)
    (g : Goes honest clock age F x G z) where
  place : Place x g.row
  place = place_at g.path x g.row g.at

  -- what is still loaded agrees as it did
  agrees_then : (w : Row) (e : Directory) → Place (edit_row g.path (with_child None) x) w → child_of w ≡ Some e → w.origin ≢ origin.Own → IsFrom R no_files w e
  agrees_then w e q held other = elim (edited_forth g.path None x g.row g.at w e q held) [
    | inl r ↦ absurd (root_loaded (with_child None g.row) w e r held refl)
    | inr b ↦ from_alike R no_files w b.row e b.directory b.number b.origin b.listing (k.agrees b.row b.directory b.place b.holds (λ own. other (b.origin ∙ own)))
  ]

  own_goes : g.row.origin ≡ origin.Own → IsKept R G z next
  own_goes own = record {
    full = k.full;
    ties = goes_tied clock age next F G k.full x z k.ties (record {
      path = g.path;
      row = g.row;
      directory = g.directory;
      at = g.at;
      holds = g.holds;
      old = g.old;
      none_inside = g.none_inside;
      gone = g.gone;
      saved = λ u. g.saved h;
      stored = λ u. g.stored h;
    }) own (table.listed g.row g.directory place g.holds);
    agrees = λ w e q held other. agrees_then w e (subst (λ c. Place c w) g.gone q) held other;
  }

  same_files : (b : Bool) → g.directory.unsaved ≡ b → g.row.origin ≢ origin.Own → G ≡ F
  same_files false is other = g.saved h is
  same_files true is other = absurd (other (k.ties.marked g.row g.directory place g.holds is))

  other_goes : g.row.origin ≢ origin.Own → IsKept R G z next
  other_goes other =
      let P : Stored → Type 0 = λ H. IsKept R H z next in
      let Q : Row → Type 0 = λ c. IsKept R F c next in
      subst P (sym (same_files g.directory.unsaved refl other)) (subst Q (sym g.gone) (other_gone_kept R F x next table k g.path g.row g.directory g.at g.holds g.none_inside other))

  pub either_goes : IsKept R G z next
  either_goes = by_origin g.row.origin (IsKept R G z next) other_goes own_goes

-- a directory that goes keeps a table
abbrev pub GoesKept : Type 1
GoesKept = (honest : Type 0) (R : Repository) (clock age next : ℕ) (F : Stored) (x : Row) (G : Stored) (z : Row) → honest → IsTable x next → IsKept R F x next
    → Goes honest clock age F x G z → IsKept R G z next

pub goes_kept : GoesKept
goes_kept honest R clock age next F x G z h table k g = either_goes honest R clock age next F x G z h table k g
