-- A chain that isn't stored to its end: what was stored is strays.
use Rattle.std.proofs.Common.{◌≡◌, ◌≢◌, ℕ, [], ◌∷◌, Some, None, inl, inr, refl, sym, ap, ◌∙◌, subst, arith}
use Rattle.std.proofs.lemmas.Option.{same_Some, none-some}
use Rattle.std.specs.Option.{option_map}
use Rattle.eden_model.specs.declared.kind.Origin.{Origin}
use Rattle.eden_model.specs.declared.kind.Origin.TheVariants as origin
use Rattle.eden_model.specs.declared.tree_entry.TreeEntry.{TreeEntry}
use Rattle.eden_model.specs.Named.{named}
use Rattle.eden_model.specs.Repository.{Repository, Source, Own, source_of, entries_with, no_files, item_by, items_of}
use Rattle.eden_model.specs.Shown.{Item, Items}
use Rattle.eden_model.specs.Trees.{Name, Path}
use Rattle.eden_overlay_format.specs.Directory.{AreStorable}
use Rattle.eden_overlay.specs.Files.{Stored}
use Rattle.eden_overlay.specs.Held.{with_entries}
use Rattle.eden_overlay.proofs.CallerLemmas.{numbers_from_two}
use Rattle.eden_tree.specs.Directory.{Row, Directory, child_of}
use Rattle.eden_tree.specs.Rows.{find_row}
use Rattle.eden_tree.specs.Paths.{row_at}
use Rattle.eden_coupling.specs.Chains.{Above, at_end, as_is, again, Unfinished, here, below}
use Rattle.eden_coupling.specs.Kept.{IsTable, IsKept}
use Rattle.eden_coupling.specs.Listings.{full_entry, Place, top, inside}
use Rattle.eden_coupling.specs.Materialising.{marked_listing}
use Rattle.eden_coupling.specs.Shown.{shown_in, item_away}
use Rattle.eden_coupling.specs.Ties.{Ties}
use Rattle.eden_coupling.proofs.Chain.{place_at, strays_tied}
use Rattle.eden_coupling.proofs.Chained.{marked_are, step, at_step}
use Rattle.eden_coupling.proofs.Materialised.{own_is, not_own}
use Rattle.eden_coupling.proofs.Places.{named_full}
use Rattle.eden_coupling.proofs.Rows.{map_some}
use Rattle.eden_coupling.proofs.ShownFull.{objects_own, shows_full}

-- no entry of what isn't the mount's own is
none_own : (R : Repository) (k : ℕ) (o : Origin) (items : Items Source) → o ≢ origin.Own → entries_with R no_files (source_of k o) ≡ Some items
    → (n : Name) (i : Item Source) → Some i ≡ items n → (q : ℕ) → i.source ≡ Own q → ⊥
none_own R k (origin.Object id) items other had n i is q own =
    let es = map_some items_of (R.tree id) items (sym had) in
    let e = map_some (λ (e : TreeEntry). item_by e.mode e.id) (named (λ (e : TreeEntry). e.name) n es.0) i (is ∙ ap (λ (a : Items Source). a n) (sym es.1.1)) in
    objects_own e.0.mode e.0.id q (ap (λ (a : Item Source). a.source) e.1.1 ∙ own)
none_own R k origin.Own items other had n i is q own = absurd (other refl)
none_own R k origin.Empty items other had n i is q own =
    none-some i (ap (λ (a : Items Source). a n) (same_Some (λ (m : Name). None) items had) ∙ sym is)

module _ (R : Repository) (F : Stored) (x : Row) (next : ℕ) (table : IsTable x next) (k : IsKept R F x next) where
  -- below a loaded directory that isn't its own nothing is
  pub not_own_below : (y : Row) (d : Directory) (n : Name) (z : Row) → Place x y → child_of y ≡ Some d → find_row n d.rows ≡ Some z → y.origin ≢ origin.Own → z.origin ≢ origin.Own
  not_own_below y d n z place h there other own =
      let f = k.agrees y d place h other in
      none_own R y.number y.origin f.items other f.had n (item_away z) (sym (ap (option_map item_away) there) ∙ f.each n) z.number (ap (source_of z.number) own)

  not_one_below : (y : Row) (d : Directory) (n : Name) (z : Row) → Place x y → child_of y ≡ Some d → find_row n d.rows ≡ Some z → z.number ≢ 1
  not_one_below y d n z place h there is =
      let least = numbers_from_two k.full y.number (full_entry (n, z)) (named_full k.full x next k.ties.fits y d n z place h there) in
      omega (arith, least, is)

  -- so neither is what stands at a path from there on
  along : (p : Path) (z y : Row) → Place x z → z.origin ≢ origin.Own → z.number ≢ 1 → row_at p z ≡ Some y → (y.origin ≢ origin.Own) × (y.number ≢ 1)
  along [] z y place other ne at =
      let P : Row → Type 0 = λ a. (a.origin ≢ origin.Own) × (a.number ≢ 1) in
      subst P (same_Some z y at) (other, ne)
  along (n ∷ p) z y place other ne at =
      let s = step n p z y at in
      along p s.row y (inside z s.directory n s.row place s.holds s.there) (not_own_below z s.directory n s.row place s.holds s.there other)
      (not_one_below z s.directory n s.row place s.holds s.there) s.at

  -- the directories from there on are stored as strays
  strays_up : (M : Stored) → Ties M k.full x next → (z : Row) (p : Path) (G : Stored) → Place x z → z.origin ≢ origin.Own → z.number ≢ 1 → Above M z p G → Ties G k.full x next
  strays_up M t z p G place other ne (at_end v) = t
  strays_up M t z p G place other ne (as_is v d n w q H h there c own own_w) = absurd (other (own_is z.origin own))
  strays_up M t z p G place other ne (again v d n w q H h there c needs) =
      strays_tied H k.full x next
      (strays_up M t w q H (inside z d n w place h there) (not_own_below z d n w place h there other) (not_one_below z d n w place h there) c)
      z d (marked_listing d n) place h other ne (marked_are d n (table.listed z d place h))

  unfinished_ties : (M : Stored) (y z : Row) (p : Path) (G : Stored) → Place x z → row_at p z ≡ Some y → (y.origin ≢ origin.Own → y.number ≢ 1 → Ties M k.full x next)
      → Unfinished M z p G → Ties G k.full x next
  unfinished_ties M y z p G place at t (here v d n w q H h there c needs) =
      let other : w.origin ≢ origin.Own = elim needs [
        | inl above ↦ not_own_below z d n w place h there (not_own z.origin above)
        | inr it ↦ not_own w.origin it
      ] in
      let on = inside z d n w place h there in
      let ne = not_one_below z d n w place h there in
      let end = along q w y on other ne (at_step n q z y d w h there at) in
      strays_up M (t end.0 end.1) w q G on other ne c
  unfinished_ties M y z p G place at t (below v d n w q H h there u) =
      unfinished_ties M y w q G (inside z d n w place h there) (at_step n q z y d w h there at) t u

  -- .. so the table is kept, and shows the same
  module _ (M : Stored) (p : Path) (y : Row) (G : Stored) (at : row_at p x ≡ Some y) (t : y.origin ≢ origin.Own → y.number ≢ 1 → Ties M k.full x next) (u : Unfinished M x p G) where
    pub strays_kept : IsKept R G x next
    strays_kept = record { full = k.full; ties = unfinished_ties M y x p G top at t u; agrees = k.agrees }

    pub strays_alike : shown_in R G x ≡ shown_in R F x
    unfolding strays_kept
    strays_alike = shows_full R G x next strays_kept ∙ sym (shows_full R F x next k)

  -- a listing that is stored of a directory that isn't its own
  pub first_stray : (p : Path) (y : Row) (d : Directory) (entries : _) → row_at p x ≡ Some y → child_of y ≡ Some d → AreStorable entries
      → y.origin ≢ origin.Own → y.number ≢ 1 → Ties (with_entries F y.number entries) k.full x next
  first_stray p y d entries at h are other ne = strays_tied F k.full x next k.ties y d entries (place_at p x y at) h other ne are
