-- Directories that are loaded, and what stays tied.
use Rattle.std.proofs.Common.{◌≡◌, ◌≢◌, ◌≤◌, ◌<◌, ℕ, true, false, List, [], Some, None, refl, sym, ap, ◌∙◌, subst, inl, inr, arith}
use Rattle.eden_model.specs.declared.kind.Kind.TheVariants as kind
use Rattle.eden_model.specs.declared.kind.Origin.TheVariants as origin
use Rattle.eden_model.specs.Repository.{Repository, no_files}
use Rattle.eden_model.specs.Trees.{Path}
use Rattle.eden_overlay_format.specs.declared.stored_entry.StoredEntry.{StoredEntry}
use Rattle.eden_overlay_format.specs.Directory.{AreStorable}
use Rattle.eden_overlay.specs.Files.{Stored}
use Rattle.eden_overlay.specs.Held.{HoldsEntries, root_file}
use Rattle.eden_overlay.specs.Soundness.{Names, IsLive, AreSound}
use Rattle.eden_overlay.proofs.CallerLemmas.{one_held, entries_held, root_same, entries_at_root}
use Rattle.eden_tree.specs.Directory.{Row, Directory, child_of, with_child}
use Rattle.eden_tree.specs.Paths.{row_at, edit_row}
use Rattle.eden_tree.proofs.CallerLemmas.{child_of-with_child}
use Rattle.eden_coupling.specs.Listings.{stored_entry, full_entry, listing_of, full_listing, Place}
use Rattle.eden_coupling.specs.Ties.{IsAway, SameFile, Ties}
use Rattle.eden_coupling.specs.Shown.{IsFrom}
use Rattle.eden_coupling.specs.Kept.{IsTable, IsKept}
use Rattle.eden_coupling.specs.Unloading.{HasNoneInside}
use Rattle.eden_coupling.proofs.Rows.{full_rising, stored_rising, own_loaded, own_full, as_is}
use Rattle.eden_coupling.proofs.Edits.{map_set}
use Rattle.eden_coupling.proofs.Places.{named_full, place_counts, away_row}
use Rattle.eden_coupling.proofs.Follows.{held_moved}
use Rattle.eden_coupling.proofs.Chain.{place_at, at_changed, root_loaded, stored_new}
use Rattle.eden_coupling.proofs.Going.{bare_listing}
use Rattle.eden_coupling.proofs.Changing.{full_are}
use Rattle.eden_coupling.proofs.Entries.{each_entry, entry_there, own_stays}
use Rattle.eden_coupling.proofs.Grown.{AreFresh, AreGrown, grows, rooted, rooted_sound, rooted_found}
use Rattle.eden_coupling.proofs.Steps.{Twin, Above, above, leaf_cases, full_same, edited_number, edited_origin, now_parent, now_row, Apart, place_parent, at_row, row_holds, forth, back, parent_was}
use Rattle.eden_coupling.proofs.Fine.{IsFine, kept_from, was_fine, twin_held}

-- equal files are the same as any third
pub same_after : (F G H : Stored) (k : ℕ) → H k ≡ G k → SameFile F G k → SameFile F H k
same_after F G H k is (inl same) = inl (same ∙ sym is)
same_after F G H k is (inr s) = inr (s.0, (s.1.0, held_moved G H k s.0 (sym is) s.1.1))

-- what the one holds, the other does
same_held : (F G : Stored) (k : ℕ) (es : List StoredEntry) → HoldsEntries F k es → SameFile F G k → HoldsEntries G k es
same_held F G k es h (inl same) = held_moved F G k es same h
same_held F G k es h (inr s) = let P : List StoredEntry → Type 0 = λ l. HoldsEntries G k l in subst P (one_held F k s.0 es s.1.0 h) s.1.1

module _ (R : Repository) (F : Stored) (x : Row) (next : ℕ) (table : IsTable x next) (k : IsKept R F x next) (p : Path) (y : Row) (d : Directory)
    (at : row_at p x ≡ Some y) (dir : y.kind ≡ kind.Dir) (shut : child_of y ≡ None) (saved : d.unsaved ≡ false) (bare : HasNoneInside d) (are : AreStorable (listing_of d)) where
  abbrev t : Ties F k.full x next
  t = k.ties

  -- the table then, and its new directory
  abbrev pub then : Row
  then = edit_row p (with_child (Some d)) x

  abbrev new : Row
  new = with_child (Some d) y

  new_holds : child_of new ≡ Some d
  new_holds = child_of-with_child (Some d) y

  at_new : Place then new
  at_new = place_at p then new (at_changed p (with_child (Some d)) x y at)

  full_is : full_listing d ≡ listing_of d
  full_is = bare_listing d (stored_rising d are) bare

  held_full : (full : Stored) (j : ℕ) → HoldsEntries full j (listing_of d) → HoldsEntries full j (full_listing d)
  held_full full j h = let P : List StoredEntry → Type 0 = λ es. HoldsEntries full j es in subst P (sym full_is) h

  -- what becomes of it
  record IsHad (full : Stored) : Type 0 where
    held : HoldsEntries full y.number (full_listing d)
    own : y.origin ≡ origin.Own → HoldsEntries F y.number (listing_of d)
    from : y.origin ≢ origin.Own → IsFrom R no_files y d

  new_fine : (full : Stored) → IsHad full → (w : Row) (e : Directory) → (w ≡ new) × (e ≡ d) → IsFine R F full w e
  new_fine full had w e is =
      let P : Row → Type 0 = λ c. IsFine R F full c e in
      let Q : Directory → Type 0 = λ c. IsFine R F full new c in
      subst P (sym is.0) (subst Q (sym is.1) (record {
        kind = dir;
        held = had.held;
        stored = λ o. stored_new F y.number d (had.own o);
        marked = λ unsaved. (let both : false ≡ true = sym saved ∙ unsaved in absurd (cc));
        agrees = λ o. (let f = had.from o in record { items = f.items; had = f.had; each = f.each });
      }))

  then_kept : (full : Stored) (after : ℕ) → AreSound full → ((c : ℕ) (e : StoredEntry) → IsLive full c → Names full c e → e.number < after)
      → ((w : Row) (e : Directory) → Place then w → child_of w ≡ Some e → IsFine R F full w e)
      → ((c : ℕ) (e : StoredEntry) → IsLive full c → Names full c e → e.origin ≡ origin.Own → IsAway then e.number → SameFile F full e.number) → IsKept R F then after
  then_kept full after sound below fine same = kept_from R F full then after (edited_number p (Some d) x ∙ t.fits.root) sound below fine same
      (λ none. absurd (root_loaded then new d at_new new_holds none))
      (λ other. t.rootless (λ own. other (edited_origin p (Some d) x ∙ own)))
      (λ own. t.rooted (sym (edited_origin p (Some d) x) ∙ own))

  -- ---- not the root

  module _ (up : Above p x y) where
    abbrev u : Row
    u = up.row

    abbrev listed : Directory
    listed = now_parent k.full x next t.fits p y (Some d) up

    on_u : Place x u
    on_u = place_parent k.full x next t.fits p y (Some d) up

    counts_u : IsLive k.full u.number
    counts_u = place_counts k.full x next t.fits u up.directory on_u up.holds

    names_y : Names k.full u.number (full_entry (up.name, y))
    names_y = named_full k.full x next t.fits u up.directory up.name y on_u up.holds up.there

    fine_up : (full : Stored) → IsHad full → HoldsEntries full u.number (full_listing listed)
        → ((w : Row) (e : Directory) → (b : Twin (Apart k.full x next t.fits p y (Some d) up) x w e) → full b.was.row.number ≡ k.full b.was.row.number)
        → (w : Row) (e : Directory) → Place then w → child_of w ≡ Some e → IsFine R F full w e
    fine_up full had held twins w e q h = elim (forth k.full x next t.fits p y (Some d) up w e q h) [
      | inl is ↦
          (let P : ℕ → Type 0 = λ j. HoldsEntries full j (full_listing e) in
          let Q : Directory → Type 0 = λ c. HoldsEntries full u.number (full_listing c) in
          was_fine R F x next k full w e (parent_was k.full x next t.fits p y (Some d) up w e is.0 is.1)
          (subst P (sym (ap (λ (c : Row). c.number) is.0)) (subst Q (sym is.1) held)))
      | inr other ↦ elim other [
        | inl r ↦ new_fine full had w e (leaf_cases new w d e new_holds bare r h)
        | inr b ↦ was_fine R F x next k full w e b.was (twin_held R F x next k full (Apart k.full x next t.fits p y (Some d) up) w e b (twins w e b))
      ]
    ]

    away_before : (j : ℕ) → IsAway then j → IsAway x j
    away_before j away w e q h is = elim (back k.full x next t.fits p y (Some d) up w e q h) [
      | inl r ↦ root_loaded y w e r h shut
      | inr b ↦ away b.row b.directory b.place b.holds (b.number ∙ is)
    ]

    away_y : IsAway x y.number
    away_y = away_row k.full x next t.fits u up.directory up.name y on_u up.holds up.there shut

    -- its own, it is stored

    own_up : y.origin ≡ origin.Own → HoldsEntries F y.number (listing_of d) → IsKept R F then next
    own_up own held =
        let mine = same_held F k.full y.number (listing_of d) held (t.same u.number (full_entry (up.name, y)) counts_u names_y (own_full y own) away_y) in
        let listing : full_listing listed ≡ full_listing up.directory = full_same u up.directory up.name y new up.directory.stamp up.holds up.there refl refl
        (own_loaded new d new_holds ∙ sym (own_full y own)) in
        let P : List StoredEntry → Type 0 = λ es. HoldsEntries k.full u.number es in
        then_kept k.full next t.fits.sound t.fits.below
        (fine_up k.full (record { held = held_full k.full y.number mine; own = λ o. held; from = λ other. absurd (other own) })
        (subst P (sym listing) (t.fits.held u up.directory on_u up.holds)) (λ w e b. refl))
        (λ c e r n o away. t.same c e r n o (away_before e.number away))

    -- else the full files grow

    module _ (after : ℕ) (other : y.origin ≢ origin.Own) (fresh : AreFresh k.full after (listing_of d)) (from : IsFrom R no_files y d) (rises : next ≤ after) where
      listed_are : AreStorable (full_listing listed)
      listed_are =
          let P : List StoredEntry → Type 0 = λ es. AreStorable es in
          full_are listed (subst P (sym (map_set stored_entry up.name y new up.directory.rows up.there refl)) (table.listed u up.directory on_u up.holds))

      abbrev child : StoredEntry
      child = full_entry (up.name, new)

      child_own : child.origin ≡ origin.Own
      child_own = own_loaded new d new_holds

      growth : (G : Stored) × AreGrown k.full y.number u.number child (full_listing listed) (listing_of d) G
      growth = grows k.full t.fits.sound u.number counts_u (full_entry (up.name, y)) names_y child refl (full_listing listed)
          (each_entry k.full x next t.fits u up.directory up.name y new up.directory.stamp on_u up.holds up.there (full_rising listed listed_are))
          listed_are (λ own. other (sym (as_is y shut) ∙ own)) dir child_own
          (entry_there k.full x next t.fits u up.directory up.name y new up.directory.stamp on_u up.holds up.there)
          (own_stays k.full x next t.fits u up.directory up.name y new up.directory.stamp on_u up.holds up.there shut other)
          after (listing_of d) are fresh

      abbrev full2 : Stored
      full2 = growth.0

      twins : (w : Row) (e : Directory) → (b : Twin (Apart k.full x next t.fits p y (Some d) up) x w e) → full2 b.was.row.number ≡ k.full b.was.row.number
      twins w e b = growth.1.elsewhere b.was.row.number (away_y b.was.row b.was.directory b.was.place b.was.holds) b.off

      y_given : y.number < next
      y_given = t.fits.below u.number (full_entry (up.name, y)) counts_u names_y

      below_then : (c : ℕ) (e : StoredEntry) → IsLive full2 c → Names full2 c e → e.number < after
      below_then c e r n = elim (growth.1.named c e r n) [
        | inl new_one ↦ fresh.most e new_one
        | inr rest ↦ elim rest [
          | inl is ↦ (let same : e.number ≡ y.number = ap (λ (s : StoredEntry). s.number) is in let given = y_given in omega (arith, same, given, rises))
          | inr old ↦ (let given = t.fits.below c e old.0 old.1 in omega (arith, given, rises))
        ]
      ]

      same_then : (c : ℕ) (e : StoredEntry) → IsLive full2 c → Names full2 c e → e.origin ≡ origin.Own → IsAway then e.number → SameFile F full2 e.number
      same_then c e r n own away = elim (growth.1.named c e r n) [
        | inl new_one ↦ absurd (fresh.quiet e new_one own)
        | inr rest ↦ elim rest [
          | inl is ↦ absurd (away new d at_new new_holds (sym (ap (λ (s : StoredEntry). s.number) is)))
          | inr old ↦ same_after F k.full full2 e.number
              (growth.1.elsewhere e.number (λ is. away new d at_new new_holds (sym is))
              (λ is. away (now_row k.full x next t.fits p y (Some d) up) listed (at_row k.full x next t.fits p y (Some d) up) (row_holds k.full x next t.fits p y (Some d) up) (sym is)))
              (t.same c e old.0 old.1 own (away_before e.number away))
        ]
      ]

      other_up : IsKept R F then after
      other_up = then_kept full2 after growth.1.sound below_then
          (fine_up full2 (record { held = held_full full2 y.number growth.1.at_k; own = λ own. absurd (other own); from = λ o. from }) growth.1.at_u twins)
          same_then

  -- ---- the root

  module _ (is_root : (p ≡ []) × (x ≡ y)) where
    then_is : then ≡ new
    then_is = ap (λ q. edit_row q (with_child (Some d)) x) is_root.0 ∙ ap (with_child (Some d)) is_root.1

    one : y.number ≡ 1
    one = ap (λ (c : Row). c.number) (sym is_root.1) ∙ t.fits.root

    root_shut : child_of x ≡ None
    root_shut = ap child_of is_root.1 ∙ shut

    fine_root : (full : Stored) → IsHad full → (w : Row) (e : Directory) → Place then w → child_of w ≡ Some e → IsFine R F full w e
    fine_root full had w e q h = new_fine full had w e (leaf_cases new w d e new_holds bare (subst (λ c. Place c w) then_is q) h)

    own_root : y.origin ≡ origin.Own → HoldsEntries F y.number (listing_of d) → IsKept R F then next
    own_root own held =
        let P : ℕ → Type 0 = λ j. SameFile F k.full j in
        let mine = same_held F k.full y.number (listing_of d) held (subst P (sym one) (t.same_root root_shut)) in
        then_kept k.full next t.fits.sound t.fits.below
        (fine_root k.full (record { held = held_full k.full y.number mine; own = λ o. held; from = λ other. absurd (other own) }))
        (λ c e r n o away. t.same c e r n o (λ w a q h is. absurd (root_loaded x w a q h root_shut)))

    module _ (after : ℕ) (other : y.origin ≢ origin.Own) (fresh : AreFresh k.full after (listing_of d)) (from : IsFrom R no_files y d) where
      no_file : root_file F ≡ None
      no_file = t.rootless (λ own. other (ap (λ (c : Row). c.origin) (sym is_root.1) ∙ own))

      none_full : SameFile F k.full 1 → root_file k.full ≡ None
      none_full (inl same) = sym (root_same F k.full same) ∙ no_file
      none_full (inr s) = absurd (entries_at_root F s.0 no_file s.1.0)

      abbrev nothing : root_file k.full ≡ None
      nothing = none_full (t.same_root root_shut)

      abbrev full3 : Stored
      full3 = rooted k.full nothing after (listing_of d) are fresh

      at_y : HoldsEntries full3 y.number (listing_of d)
      at_y = let P : ℕ → Type 0 = λ j. HoldsEntries full3 j (listing_of d) in subst P (sym one) (entries_held k.full 1 (listing_of d) are)

      other_root : IsKept R F then after
      other_root = then_kept full3 after (rooted_sound k.full nothing after (listing_of d) are fresh)
          (λ c e r n. fresh.most e (rooted_found k.full nothing after (listing_of d) are fresh c e r n))
          (fine_root full3 (record { held = held_full full3 y.number at_y; own = λ own. absurd (other own); from = λ o. from }))
          (λ c e r n own away. absurd (fresh.quiet e (rooted_found k.full nothing after (listing_of d) are fresh c e r n) own))

  -- ---- either

  pub own_loaded_kept : y.origin ≡ origin.Own → HoldsEntries F y.number (listing_of d) → IsKept R F then next
  own_loaded_kept own held = elim (above p x y at) [ inl is ↦ own_root is own held | inr up ↦ own_up up own held ]

  pub other_loaded_kept : (after : ℕ) → y.origin ≢ origin.Own → AreFresh k.full after (listing_of d) → IsFrom R no_files y d → next ≤ after → IsKept R F then after
  other_loaded_kept after other fresh from rises = elim (above p x y at) [ inl is ↦ other_root is after other fresh from | inr up ↦ other_up up after other fresh from rises ]
