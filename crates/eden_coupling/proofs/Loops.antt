-- Loaded directories below others: none is below itself, and none is below two entries of one directory.
use Rattle.std.proofs.Common.{◌≡◌, ◌≢◌, Some, ℕ, sym, ap, subst}
use Rattle.eden_model.specs.Trees.{Name}
use Rattle.eden_overlay.specs.Files.{Stored}
use Rattle.eden_overlay.specs.Soundness.{Reached, here, below}
use Rattle.eden_overlay.proofs.CallerLemmas.{no_cycle}
use Rattle.eden_tree.specs.Directory.{Row, Directory, child_of}
use Rattle.eden_tree.specs.Rows.{find_row}
use Rattle.eden_coupling.specs.Listings.{full_entry, Place, top, inside}
use Rattle.eden_coupling.specs.Ties.{Fits}
use Rattle.eden_coupling.proofs.Rows.{by_child, own_loaded}
use Rattle.eden_coupling.proofs.Places.{named_full, place_counts, one_row}
use Rattle.eden_coupling.proofs.Chain.{root_loaded}

-- what has a loaded directory below it is loaded
pub loaded_above : (x y : Row) (d : Directory) → Place x y → child_of y ≡ Some d → (c : Directory) × (child_of x ≡ Some c)
loaded_above x y d p h = by_child x ((c : Directory) × (child_of x ≡ Some c)) (λ none. absurd (root_loaded x y d p h none)) (λ c k. (c, k))

-- places below places
pub place_on : (u v w : Row) → Place u v → Place v w → Place u w
place_on u v w p top = p
place_on u v w p (inside a d n b q h f) = inside a d n b (place_on u v a p q) h f

module _ (full : Stored) (root : Row) (next : ℕ) (t : Fits full root next) where
  -- a loaded directory below another is reached from it
  reached_place : (z v : Row) (c : Directory) → Place root z → Place z v → child_of v ≡ Some c → Reached full z.number v.number
  reached_place z v c r top h = here
  reached_place z v c r (inside u e n w q k f) h =
      let on = place_on root z u r q in
      below u.number (full_entry (n, v)) (reached_place z u e r q k) (named_full full root next t u e n v on k f) (t.is_dir v c (inside u e n v on k f) h, own_loaded v c h)

  -- a directory isn't below itself
  pub no_loop : (u : Row) (d : Directory) (n : Name) (z v : Row) (c : Directory) → Place root u → child_of u ≡ Some d → find_row n d.rows ≡ Some z → Place z v → child_of v ≡ Some c
      → u.number ≢ v.number
  no_loop u d n z v c r h f q k is =
      let at = inside u d n z r h f in
      let up = loaded_above z v c q k in
      let reach : Reached full z.number u.number = subst (λ j. Reached full z.number j) (sym is) (reached_place z v c at q k) in
      no_cycle full t.sound u.number (full_entry (n, z)) (place_counts full root next t u d r h) (named_full full root next t u d n z r h f) (t.is_dir z up.0 at up.1, own_loaded z up.0 up.1) reach

  -- two entries of one directory have no loaded directory below both
  pub branches : (u : Row) (d : Directory) (m n : Name) (w z : Row) → Place root u → child_of u ≡ Some d → find_row m d.rows ≡ Some w → find_row n d.rows ≡ Some z → m ≢ n
      → (a b : Row) (c e : Directory) → Place w a → child_of a ≡ Some c → Place z b → child_of b ≡ Some e → a.number ≢ b.number
  branches u d m n w z r h f g ne a b c e top k top j is = ne (one_row full root next t u u d d m n w z r h f r h g is).1.0
  branches u d m n w z r h f g ne a b c e top k (inside v q l o p i s) j is =
      let on = place_on root z v (inside u d n z r h g) p in
      let one = one_row full root next t u v d q m l w b r h f on i s is in
      no_loop u d n z v q r h g p i (ap (λ (x : Row). x.number) one.0)
  branches u d m n w z r h f g ne a b c e (inside v q l o p i s) k top j is =
      let on = place_on root w v (inside u d m w r h f) p in
      let one = one_row full root next t u v d q n l z a r h g on i s (sym is) in
      no_loop u d m w v q r h f p i (ap (λ (x : Row). x.number) one.0)
  branches u d m n w z r h f g ne a b c e (inside v q l o p i s) k (inside v2 q2 l2 o2 p2 i2 s2) j is =
      let on = place_on root w v (inside u d m w r h f) p in
      let on2 = place_on root z v2 (inside u d n z r h g) p2 in
      let one = one_row full root next t v v2 q q2 l l2 a b on i s on2 i2 s2 is in
      branches u d m n w z r h f g ne v v2 q q2 p i p2 i2 (ap (λ (x : Row). x.number) one.0)
