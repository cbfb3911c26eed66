-- The entries of a loaded directory once one of them is another, in the full files.
use Rattle.std.proofs.Common.{◌≡◌, ◌≢◌, ◌⊎◌, ℕ, true, false, Some, None, List, Contains, refl, sym, ap, ◌∙◌, subst, inl, inr}
use Rattle.std.specs.Str.{bytes_eq}
use Rattle.std.proofs.lemmas.Option.{same_Some}
use Rattle.eden_model.specs.declared.kind.Origin.TheVariants as origin
use Rattle.eden_model.specs.Named.{AreRising}
use Rattle.eden_model.specs.Trees.{Name}
use Rattle.eden_overlay_format.specs.declared.stored_entry.StoredEntry.{StoredEntry}
use Rattle.eden_overlay.specs.Files.{Stored}
use Rattle.eden_overlay.specs.Soundness.{Names}
use Rattle.eden_overlay.proofs.CallerLemmas.{one_held}
use Rattle.eden_tree.specs.Directory.{Row, Directory, child_of}
use Rattle.eden_tree.specs.Rows.{find_row, set_row}
use Rattle.eden_tree.proofs.CallerLemmas.{same-≡, Contains-find_row, find_row-Contains}
use Rattle.eden_coupling.specs.Listings.{full_entry, own_if_loaded, full_listing, Place}
use Rattle.eden_coupling.specs.Ties.{Fits}
use Rattle.eden_coupling.proofs.Rows.{contains_mapped, mapped_from, as_is}
use Rattle.eden_coupling.proofs.Edits.{find_set, find_other, differ}
use Rattle.eden_coupling.proofs.Places.{rising_of, named_full, one_row}
use Rattle.eden_coupling.proofs.Steps.{with_entry}

module _ (full : Stored) (root : Row) (next : ℕ) (t : Fits full root next) (u : Row) (a : Directory) (n : Name) (y v : Row) (s : ℕ)
    (place : Place root u) (held : child_of u ≡ Some a) (there : find_row n a.rows ≡ Some y) where
  -- each is the new one, or was there, of another number than the old one
  pub each_entry : AreRising (λ r. r.0) (with_entry a n v s).rows → (f : StoredEntry) → Contains (full_listing (with_entry a n v s)) f
      → (f ≡ full_entry (n, v)) ⊎ (Names full u.number f × (f.number ≢ y.number))
  each_entry rising f c =
      let from = mapped_from full_entry (set_row n v a.rows) f c in
      let m = from.0.0 in
      let r = from.0.1 in
      let found : find_row m (set_row n v a.rows) ≡ Some r = find_row-Contains m (set_row n v a.rows) r rising from.1.0 in
      elim (bytes_eq m n) as (λ b. bytes_eq m n ≡ b → (f ≡ full_entry (n, v)) ⊎ (Names full u.number f × (f.number ≢ y.number))) [
        | true ↦ λ same.
            (let is : v ≡ r = same_Some v r (sym (find_set n y v a.rows there) ∙ ap (λ k. find_row k (set_row n v a.rows)) (sym (same-≡ m n same)) ∙ found) in
            inl (sym from.1.1 ∙ ap (λ (k : Name). full_entry (k, r)) (same-≡ m n same) ∙ ap (λ (k : Row). full_entry (n, k)) (sym is)))
        | false ↦ λ off.
            (let was : find_row m a.rows ≡ Some r = sym (find_other m n v a.rows off) ∙ found in
            let P : StoredEntry → Type 0 = λ e. Names full u.number e × (e.number ≢ y.number) in
            inr (subst P from.1.1 (named_full full root next t u a m r place held was, λ is. differ m n off (one_row full root next t u u a a m n r y place held was place held there is).1.0)))
      ] refl

  pub entry_there : Contains (full_listing (with_entry a n v s)) (full_entry (n, v))
  entry_there = contains_mapped full_entry (set_row n v a.rows) (n, v) (Contains-find_row n (set_row n v a.rows) v (find_set n y v a.rows there))

  -- what was its own is still there, where the old one wasn't
  pub own_stays : child_of y ≡ None → y.origin ≢ origin.Own → (f : StoredEntry) → Names full u.number f → f.origin ≡ origin.Own → Contains (full_listing (with_entry a n v s)) f
  own_stays shut other f names own =
      let P : List StoredEntry → Type 0 = λ es. Contains es f in
      let from = mapped_from full_entry a.rows f (subst P (one_held full u.number names.entries (full_listing a) names.held (t.held u a place held)) names.there) in
      let m = from.0.0 in
      let r = from.0.1 in
      let found : find_row m a.rows ≡ Some r = find_row-Contains m a.rows r (rising_of full root next t u a place held) from.1.0 in
      elim (bytes_eq m n) as (λ b. bytes_eq m n ≡ b → Contains (full_listing (with_entry a n v s)) f) [
        | true ↦ λ same.
            (let is : y ≡ r = same_Some y r (sym there ∙ ap (λ k. find_row k a.rows) (sym (same-≡ m n same)) ∙ found) in
            absurd (other (sym (as_is y shut) ∙ ap (λ (k : Row). own_if_loaded k.child k.origin) is ∙ ap (λ (e : StoredEntry). e.origin) from.1.1 ∙ own)))
        | false ↦ λ off.
            (let Q : StoredEntry → Type 0 = λ e. Contains (full_listing (with_entry a n v s)) e in
            subst Q from.1.1 (contains_mapped full_entry (set_row n v a.rows) (m, r) (Contains-find_row m (set_row n v a.rows) r (find_other m n v a.rows off ∙ found))))
      ] refl
