-- Loaded directories, told apart by their numbers.
use Rattle.std.proofs.Common.{◌≡◌, ◌≢◌, ◌≤◌, ℕ, Some, None, refl, sym, ap, ◌∙◌, subst, arith}
use Rattle.std.proofs.lemmas.Option.{same_Some, none-some}
use Rattle.eden_model.specs.Trees.{Name}
use Rattle.eden_model.specs.Named.{AreRising}
use Rattle.eden_overlay_format.specs.declared.stored_entry.StoredEntry.{StoredEntry}
use Rattle.eden_overlay.specs.Files.{Stored}
use Rattle.eden_overlay.specs.Soundness.{Names, LeadsOn, here, below, IsLive}
use Rattle.eden_overlay.proofs.CallerLemmas.{numbers_from_two, held_storable}
use Rattle.eden_tree.specs.Directory.{Row, Directory, child_of}
use Rattle.eden_tree.specs.Rows.{find_row}
use Rattle.eden_tree.proofs.CallerLemmas.{Contains-find_row}
use Rattle.eden_coupling.specs.Listings.{full_entry, full_listing, Place, top, inside}
use Rattle.eden_coupling.specs.Ties.{IsAway, Fits}
use Rattle.eden_coupling.proofs.Rows.{contains_mapped, full_rising, own_loaded}

module _ (full : Stored) (x : Row) (next : ℕ) (t : Fits full x next) where
  pub rising_of : (y : Row) (d : Directory) → Place x y → child_of y ≡ Some d → AreRising (λ r. r.0) d.rows
  rising_of y d p h = full_rising d (held_storable full y.number (full_listing d) (t.held y d p h))

  -- an entry of a loaded directory is named by it
  pub named_full : (y : Row) (d : Directory) (n : Name) (z : Row) → Place x y → child_of y ≡ Some d → find_row n d.rows ≡ Some z → Names full y.number (full_entry (n, z))
  named_full y d n z p h f = record { entries = full_listing d; held = t.held y d p h; there = contains_mapped full_entry d.rows (n, z) (Contains-find_row n d.rows z f) }

  leads_full : (n : Name) (z : Row) (e : Directory) → Place x z → child_of z ≡ Some e → LeadsOn (full_entry (n, z))
  leads_full n z e p h = (t.is_dir z e p h, own_loaded z e h)

  pub place_counts : (y : Row) (d : Directory) → Place x y → child_of y ≡ Some d → IsLive full y.number
  place_counts y d top h = subst (λ k. IsLive full k) (sym t.root) here
  place_counts y d (inside u e n z p k f) h = below u.number (full_entry (n, y)) (place_counts u e p k) (named_full u e n y p k f) (leads_full n y d (inside u e n y p k f) h)

  -- what a loaded directory names is not the root
  not_root : (y : Row) (d : Directory) (n : Name) (z : Row) → Place x y → child_of y ≡ Some d → find_row n d.rows ≡ Some z → x.number ≢ z.number
  not_root y d n z p h f is =
      let least : 2 ≤ z.number = numbers_from_two full y.number (full_entry (n, z)) (named_full y d n z p h f) in
      let one = t.root in
      absurd (omega (arith, least, one, is))

  -- of one number there is one entry in the loaded directories
  pub one_loaded : (y z : Row) (d e : Directory) → Place x y → child_of y ≡ Some d → Place x z → child_of z ≡ Some e → y.number ≡ z.number → y ≡ z
  one_loaded y z d e top h top k is = refl
  one_loaded y z d e top h (inside v b m w q j g) k is = absurd (not_root v b m z q j g is)
  one_loaded y z d e (inside u a n w p i f) h top k is = absurd (not_root u a n y p i f (sym is))
  one_loaded y z d e (inside u a n w p i f) h (inside v b m w2 q j g) k is =
      let once = t.sound.once u.number v.number (full_entry (n, y)) (full_entry (m, z)) (place_counts u a p i) (place_counts v b q j) (named_full u a n y p i f) (named_full v b m z q j g) is in
      let up : u ≡ v = one_loaded u v a b p i q j once.0 in
      let dir : a ≡ b = same_Some a b (sym i ∙ ap child_of up ∙ j) in
      let name : n ≡ m = ap (λ (s : StoredEntry). s.name) once.1 in
      same_Some y z (sym f ∙ ap (λ (s : Name). find_row s a.rows) name ∙ ap (λ (s : Directory). find_row m s.rows) dir ∙ g)

  -- two entries of loaded directories with one number are one
  pub one_row : (y z : Row) (d e : Directory) (n m : Name) (v w : Row) → Place x y → child_of y ≡ Some d → find_row n d.rows ≡ Some v
      → Place x z → child_of z ≡ Some e → find_row m e.rows ≡ Some w → v.number ≡ w.number → (y ≡ z) × ((n ≡ m) × (v ≡ w))
  one_row y z d e n m v w p h f q k g is =
      let once = t.sound.once y.number z.number (full_entry (n, v)) (full_entry (m, w)) (place_counts y d p h) (place_counts z e q k) (named_full y d n v p h f) (named_full z e m w q k g) is in
      let up : y ≡ z = one_loaded y z d e p h q k once.0 in
      let dir : d ≡ e = same_Some d e (sym h ∙ ap child_of up ∙ k) in
      let name : n ≡ m = ap (λ (s : StoredEntry). s.name) once.1 in
      (up, (name, same_Some v w (sym f ∙ ap (λ (s : Name). find_row s d.rows) name ∙ ap (λ (s : Directory). find_row m s.rows) dir ∙ g)))

  -- an entry that isn't loaded has no loaded directory's number
  pub away_row : (y : Row) (d : Directory) (n : Name) (z : Row) → Place x y → child_of y ≡ Some d → find_row n d.rows ≡ Some z → child_of z ≡ None → IsAway x z.number
  away_row y d n z p h f none w e top k is = not_root y d n z p h f is
  away_row y d n z p h f none w e (inside v b m u q j g) k is =
      let one = one_row y v d b n m z w p h f q j g (sym is) in
      none-some e (sym none ∙ ap child_of one.1.1 ∙ k)

  -- nor has what a directory names that isn't loaded
  pub away_below : (c : ℕ) (e : StoredEntry) → IsLive full c → Names full c e → IsAway x c → IsAway x e.number
  away_below c e r n away w d top k is =
      let least = numbers_from_two full c e n in
      let one = t.root in
      absurd (omega (arith, least, one, is))
  away_below c e r n away w d (inside v b m u q j g) k is =
      away v b q j (t.sound.once v.number c (full_entry (m, w)) e (place_counts v b q j) r (named_full v b m w q j g) n is).0
