-- What a chain of directories that becomes its own keeps of a table's invariant, and what is shown then.
use Rattle.std.proofs.Common.{◌≡◌, ◌≢◌, ◌⊎◌, ℕ, [], ◌∷◌, ◌++◌, Option, Some, None, refl, sym, ap, ◌∙◌, subst}
use Rattle.eden_model.specs.declared.kind.Kind.{Kind}
use Rattle.eden_model.specs.declared.kind.Origin.{Origin}
use Rattle.eden_model.specs.declared.kind.Origin.TheVariants as origin
use Rattle.eden_model.specs.Repository.{Repository, source_of, no_files, ground_with}
use Rattle.eden_model.specs.Shown.{shown}
use Rattle.eden_model.specs.Trees.{Name, Path, Tree, graft}
use Rattle.eden_overlay_format.specs.Directory.{AreStorable}
use Rattle.eden_overlay.specs.Files.{Stored}
use Rattle.eden_overlay.specs.Held.{own_files}
use Rattle.eden_overlay.proofs.CallerLemmas.{put_apart}
use Rattle.eden_tree.specs.Directory.{Row, Directory, child_of, with_child}
use Rattle.eden_tree.specs.Rows.{find_row}
use Rattle.eden_tree.specs.Paths.{row_at}
use Rattle.eden_tree.proofs.CallerLemmas.{child_of-with_child}
use Rattle.eden_coupling.specs.Chains.{chained, Above, at_end, as_is, again}
use Rattle.eden_coupling.specs.Changing.{with_listing}
use Rattle.eden_coupling.specs.Kept.{IsTable, IsKept}
use Rattle.eden_coupling.specs.Listings.{own_if_loaded, listing_of, Place, top, inside}
use Rattle.eden_coupling.specs.Materialising.{Chain, lowest_own, lowest, IsChain}
use Rattle.eden_coupling.specs.Shown.{shown_in, IsFrom}
use Rattle.eden_coupling.specs.ShownLaws.{full_item, shown_from}
use Rattle.eden_coupling.specs.Ties.{IsAway, Ties}
use Rattle.eden_coupling.proofs.Alike.{changes_graft}
use Rattle.eden_coupling.proofs.Backed.{backed_alike}
use Rattle.eden_coupling.proofs.Chain.{place_at, at_changed, root_loaded}
use Rattle.eden_coupling.proofs.Chained.{Then, on_chain, as_before, forth, chain_can, chained_number, chained_kind}
use Rattle.eden_coupling.proofs.Changing.{same_moved}
use Rattle.eden_coupling.proofs.Fine.{from_alike}
use Rattle.eden_coupling.proofs.Forward.{back}
use Rattle.eden_coupling.proofs.Loops.{loaded_above}
use Rattle.eden_coupling.proofs.Materialised.{chain_tied}
use Rattle.eden_coupling.proofs.Rows.{own_loaded, own_full}
use Rattle.eden_coupling.proofs.ShownFull.{Backs, backs_tied, shows_full, shows_as_full}
use Rattle.eden_coupling.proofs.Steps.{edited_number, edited_kind}

-- ---- files of loaded directories alone

-- files that differ in those back a table as well
pub backs_away : (F G full : Stored) (x : Row) (next : ℕ) → Backs F full x next → ((k : ℕ) → IsAway x k → G k ≡ F k) → Backs G full x next
backs_away F G full x next b elsewhere = record {
  fits = b.fits;
  same = λ c e live names own away. same_moved F G full full e.number (elsewhere e.number away) refl (b.same c e live names own away);
  same_root = λ none. same_moved F G full full 1 (elsewhere 1 (λ w a q h is. root_loaded x w a q h none)) refl (b.same_root none);
}

-- the stores of a chain are of such
pub above_elsewhere : (root : Row) (F : Stored) (x : Row) (p : Path) (G : Stored) → Place root x → Above F x p G → (k : ℕ) → IsAway root k → G k ≡ F k
above_elsewhere root F x p G place (at_end v) k away = refl
above_elsewhere root F x p G place (as_is v d n z q H h there c own own_z) k away = above_elsewhere root F z q G (inside x d n z place h there) c k away
above_elsewhere root F x p G place (again v d n z q H h there c other) k away =
    put_apart H x.number k _ (away x d place h) ∙ above_elsewhere root F z q H (inside x d n z place h there) c k away

lowest_elsewhere : (E : Stored) (y : Row) (F : Stored) → Chain E y [] F → (k : ℕ) → y.number ≢ k → F k ≡ E k
lowest_elsewhere E y F (lowest_own v own) k off = refl
lowest_elsewhere E y F (lowest v d h other) k off = put_apart E y.number k _ off

-- ---- the table then

module _ (x : Row) (next : ℕ) (table : IsTable x next) (p : Path) (y : Row) (d e : Directory) (at : row_at p x ≡ Some y) (holds : child_of y ≡ Some d)
    (are : AreStorable (listing_of e)) (each : (m : Name) (v : Row) → find_row m e.rows ≡ Some v → (find_row m d.rows ≡ Some v) ⊎ (child_of v ≡ None)) where
  abbrev now : Row
  now = chained p e x

  was : (w : Row) (c : Directory) → Place now w → child_of w ≡ Some c → Then y d e holds are each x w c
  was w c q h = forth y d e holds are each p x at table.listed w c q h

  pub table_now : IsTable now next
  table_now = record {
    root = chained_number e p x ∙ table.root;
    kind = chained_kind e p x ∙ table.kind;
    listed = λ w c q h. elim (was w c q h) [
      | on_chain own can ↦ can
      | as_before b ↦ subst AreStorable (sym b.listing) (table.listed b.row b.directory b.place b.holds)
    ];
    least = table.least;
    most = table.most;
  }

  pub can_chain : IsChain (with_listing p e x) p
  can_chain = chain_can e p x y at are table.listed

  module _ (R : Repository) (F : Stored) (k : IsKept R F x next) (E full : Stored) (t : Ties E full (with_listing p e x) next) (G : Stored) (c : Chain E (with_listing p e x) p G) where
    from_now : (w : Row) (c : Directory) → Place now w → child_of w ≡ Some c → w.origin ≢ origin.Own → IsFrom R no_files w c
    from_now w c q h other = elim (was w c q h) [
      | on_chain own can ↦ absurd (other own)
      | as_before b ↦ from_alike R no_files w b.row c b.directory b.number b.origin b.listing (k.agrees b.row b.directory b.place b.holds (λ own. other (b.origin ∙ own)))
    ]

    pub kept_now : IsKept R G now next
    kept_now = record { full = full; ties = chain_tied E full (with_listing p e x) next t p G can_chain c; agrees = from_now }

    now_place : Place (with_listing p e x) (with_child (Some e) y)
    now_place = place_at p (with_listing p e x) (with_child (Some e) y) (at_changed p (with_child (Some e)) x y at)

    -- what the table shows is what the files `full` do, both before its chain is its own and then
    full_now : full_item now ≡ full_item (with_listing p e x)
    full_now =
        let loaded = loaded_above (with_listing p e x) (with_child (Some e) y) e now_place (child_of-with_child (Some e) y) in
        ap (λ (s : Kind). record { kind = s; source = source_of now.number (own_if_loaded now.child now.origin) }) (chained_kind e p x ∙ sym (edited_kind p (Some e) x))
        ∙ ap (λ (j : ℕ). record { kind = (with_listing p e x).kind; source = source_of j (own_if_loaded now.child now.origin) }) (chained_number e p x ∙ sym (edited_number p (Some e) x))
        ∙ ap (λ (o : Origin). record { kind = (with_listing p e x).kind; source = source_of (with_listing p e x).number o })
        (own_full now refl ∙ sym (own_loaded (with_listing p e x) loaded.0 loaded.1))

    pub shown_full : shown_in R G now ≡ shown (ground_with R (own_files full)) (full_item (with_listing p e x))
    unfolding kept_now
    shown_full = shows_full R G now next kept_now ∙ ap (shown (ground_with R (own_files full))) full_now

    -- a change of one entry shows as a graft
    module _ (n : Name) (o : Option Row) (others : (m : Name) → m ≢ n → find_row m e.rows ≡ find_row m d.rows) (changed_here : find_row n e.rows ≡ o)
        (stays : (m : Name) (w : Row) (a : Directory) → find_row m d.rows ≡ Some w → child_of w ≡ Some a → find_row m e.rows ≡ Some w)
        (beside : (j : ℕ) → y.number ≢ j → E j ≡ F j) (M : Stored) (low : Chain E (with_child (Some e) y) [] M) (up : Above M x p G) where
      away_before : (j : ℕ) → IsAway (with_listing p e x) j → IsAway x j
      away_before j away w a q h is =
          let b = back k.full x next k.ties.fits y d e holds each stays p x at top w a q h in
          away b.row b.directory b.place b.holds (b.number ∙ is)

      as_in_e : (j : ℕ) → IsAway x j → G j ≡ E j
      as_in_e j away = above_elsewhere x M x p G top up j away ∙ lowest_elsewhere E (with_child (Some e) y) M low j (away y d (place_at p x y at) holds)

      as_in_f : (j : ℕ) → IsAway x j → G j ≡ F j
      as_in_f j away = as_in_e j away ∙ beside j (away y d (place_at p x y at) holds)

      backed : Backs F k.full x next
      backed = backs_tied F k.full x next k.ties

      shown_before : shown_in R G x ≡ shown_in R F x
      shown_before = backed_alike R F G k.full x next backed (backs_away F G k.full x next backed as_in_f) x top

      backed_then : Backs G full (with_listing p e x) next
      backed_then = backs_away E G full (with_listing p e x) next (backs_tied E full (with_listing p e x) next t) (λ j away. as_in_e j (away_before j away))

      pub grafted_now : shown_in R G now ≡ graft (p ++ n ∷ []) (shown_from R G o) (shown_in R F x)
      grafted_now =
          shown_full
          ∙ sym (shows_as_full R G full (with_listing p e x) next backed_then (with_listing p e x) top)
          ∙ changes_graft R G p n o x y d e k.ties.fits.is_dir at holds others changed_here
          ∙ ap (λ (T : Tree). graft (p ++ n ∷ []) (shown_from R G o) T) shown_before
