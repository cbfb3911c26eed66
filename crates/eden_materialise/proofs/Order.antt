-- An entry that leaves one directory and comes into another, in either order.
use Rattle.std.proofs.Common.{◌≡◌, ◌≢◌, Bool, true, false, cond, List, [], ◌∷◌, map, Option, Some, None, IfSome, refl, sym, ap, ◌∙◌, subst}
use Rattle.std.specs.Str.{bytes_eq}
use Rattle.std.specs.Option.{option_map, option_and_then}
use Rattle.std.proofs.lemmas.Option.{same_Some, none-some}
use Rattle.eden_model.specs.Trees.{Name, Path}
use Rattle.eden_model.specs.Named.{AreRising}
use Rattle.eden_tree.specs.Directory.{Row, Directory, child_of, with_child, change_rows}
use Rattle.eden_tree.specs.Rows.{find_row, change_row, set_row}
use Rattle.eden_tree.specs.Paths.{row_at, edit_row}
use Rattle.eden_tree.proofs.CallerLemmas.{same-≡, same-refl, same-sym, find_row-change_row, find_row-drop_row, change_row-twice, change_row-found, child_of-with_child, child_of-change_child}
use Rattle.eden_tree.proofs.CallerLemmas.{change_rows-held, steps_down, find_row-put_row, find_row-set_row}
use Rattle.eden_coupling.specs.Listings.{stored_entry, listing_of}
use Rattle.eden_coupling.specs.Changing.{changed, placed, rows_with, MayGo}
use Rattle.eden_coupling.proofs.CallerLemmas.{and_then_some, number_kept, kind_stays, origin_kept}
use Rattle.eden_materialise.specs.Moves.{changed_in}
use Rattle.eden_materialise.proofs.Swapped.{changes_swapped, drop_swapped, placed_swapped, stored_alike}

pub changed_held : (n : Name) (o : Option Row) (x : Row) (d : Directory) → child_of x ≡ Some d → changed_in n o x ≡ with_child (Some (changed d n o)) x
changed_held n o x d h = ap (λ (c : Option Directory). with_child (option_map (λ a. changed a n o) c) x) h

find_placed : (m n : Name) (x : Row) (rows : List (Name × Row)) → find_row m (rows_with n (Some x) rows) ≡ cond (bytes_eq m n) (Some x) (find_row m rows)
find_placed m n x rows = by_found (find_row n rows) refl
  where
    by_found : (o : Option Row) → find_row n rows ≡ o → find_row m (placed o n x rows) ≡ cond (bytes_eq m n) (Some x) (find_row m rows)
    by_found None none = find_row-put_row m n x rows none
    by_found (Some was) some = find_row-set_row m n x was rows some

module _ (n m : Name) (z : Row) where
  -- the entry leaves its directory, and comes into the other
  abbrev leaves : Row → Row
  leaves x = changed_in n None x

  abbrev comes : Row → Row
  comes x = changed_in m (Some z) x

  -- the other directory before, where the entry `to` with the directory `target` stands at q once the entry left from p
  pub record IsOrdered (p q : Path) (x from to : Row) (source target : Directory) : Type 0 where
    pub before : Row
    pub directory : Directory
    pub at : row_at q x ≡ Some before
    pub holds : child_of before ≡ Some directory
    pub number : before.number ≡ to.number
    pub listing : listing_of (changed directory m (Some z)) ≡ listing_of (changed target m (Some z))
    pub swapped : edit_row p (changed_in n None) (edit_row q (changed_in m (Some z)) x) ≡ edit_row q (changed_in m (Some z)) (edit_row p (changed_in n None) x)
    -- .. and the first, where the entry `from` with the directory `source` stands at p, once the entry came into the other
    pub still : Row
    pub rest : Directory
    pub at_still : row_at p (edit_row q (changed_in m (Some z)) x) ≡ Some still
    pub holds_still : child_of still ≡ Some rest
    pub number_still : still.number ≡ from.number
    pub listing_still : listing_of (changed rest n None) ≡ listing_of (changed source n None)

  -- what stands at the end of a path is loaded, and stays so
  stays_loaded : (r : Path) (v from : Row) (source : Directory) → row_at r v ≡ Some from → child_of from ≡ Some source → child_of (edit_row r leaves v) ≡ None → ⊥
  stays_loaded [] v from source at h none =
      let here : v ≡ from = same_Some v from at in
      none-some (changed source n None)
      (sym none ∙ child_of-change_child (λ d. changed d n None) v ∙ ap (λ (c : Row). option_map (λ d. changed d n None) (child_of c)) here ∙ ap (option_map (λ d. changed d n None)) h)
  stays_loaded (b ∷ r) v from source at h none =
      let c = and_then_some (λ (d : Directory). option_and_then (row_at r) (find_row b d.rows)) (child_of v) from at in
      let k : Directory → Directory = λ d. record d { rows = change_row b (edit_row r leaves) d.rows } in
      none-some (k c.0) (sym none ∙ child_of-change_child k v ∙ ap (option_map k) c.1.0)

  -- one step of each path
  module _ (b : Name) (r : Path) (x from : Row) (source : Directory) (at : row_at (b ∷ r) x ≡ Some from) (held : child_of from ≡ Some source) where
    above : (d : Directory) × ((child_of x ≡ Some d) × ((v : Row) × ((find_row b d.rows ≡ Some v) × (row_at r v ≡ Some from))))
    above =
        let c = and_then_some (λ (d : Directory). option_and_then (row_at r) (find_row b d.rows)) (child_of x) from at in
        let e = and_then_some (row_at r) (find_row b c.0.rows) from c.1.1 in
        (c.0, (c.1.0, (e.0, (e.1.0, e.1.1))))

  two : (f g : List (Name × Row) → List (Name × Row)) (x : Row) (d : Directory) → child_of x ≡ Some d
      → change_rows f (change_rows g x) ≡ with_child (Some (record d { rows = f (g d.rows) })) x
  two f g x d h =
      ap (change_rows f) (change_rows-held g x d h)
      ∙ change_rows-held f (with_child (Some (record d { rows = g d.rows })) x) (record d { rows = g d.rows }) (child_of-with_child (Some (record d { rows = g d.rows })) x)

  not_dropped : (b : Bool) (o : Option Row) (v : Row) → cond b None o ≡ Some v → o ≡ Some v
  not_dropped true o v h = absurd (none-some v h)
  not_dropped false o v h = h

  -- the other directory is below the first
  below_it : (a : Name) (s : Path) (x from to : Row) (source target : Directory) → x ≡ from → child_of x ≡ Some source → AreRising (λ r. r.0) source.rows
      → row_at (a ∷ s) (leaves x) ≡ Some to → child_of to ≡ Some target → IsOrdered [] (a ∷ s) x from to source target
  below_it a s x from to source target here hx rising at_to h_to =
      let k = edit_row s comes in
      let left = changed source n None in
      let new : leaves x ≡ with_child (Some left) x = changed_held n None x source hx in
      let held : child_of (leaves x) ≡ Some left = ap child_of new ∙ child_of-with_child (Some left) x in
      let e = and_then_some (row_at s) (find_row a left.rows) to (sym (ap (option_and_then (λ (d : Directory). option_and_then (row_at s) (find_row a d.rows))) held) ∙ at_to) in
      let found : find_row a source.rows ≡ Some e.0 = not_dropped (bytes_eq a n) (find_row a source.rows) e.0 (sym (find_row-drop_row a n source.rows rising) ∙ e.1.0) in
      let there : Directory = record source { rows = change_row a k source.rows } in
      record {
        before = to;
        directory = target;
        at = steps_down a s x e.0 source hx found ∙ e.1.1;
        holds = h_to;
        number = refl;
        listing = refl;
        swapped = ap leaves (change_rows-held (change_row a k) x source hx)
            ∙ changed_held n None (with_child (Some there) x) there (child_of-with_child (Some there) x)
            ∙ ap (λ l. with_child (Some (record source { rows = l; unsaved = false })) x) (drop_swapped a n k source.rows rising)
            ∙ sym (ap (edit_row (a ∷ s) comes) new ∙ change_rows-held (change_row a k) (with_child (Some left) x) left (child_of-with_child (Some left) x));
        still = edit_row (a ∷ s) comes x;
        rest = there;
        at_still = refl;
        holds_still = ap child_of (change_rows-held (change_row a k) x source hx) ∙ child_of-with_child (Some there) x;
        number_still = ap (λ (r : Row). r.number) here;
        listing_still = ap (map stored_entry) (drop_swapped a n k source.rows rising)
            ∙ stored_alike a k (λ y. number_kept s comes y (λ b. refl)) (λ y. kind_stays s comes y (λ b. refl)) (λ y. origin_kept s comes y (λ b. refl)) left.rows;
      }

  -- it is above the first
  above_it : (b : Name) (r : Path) (x from to : Row) (source target : Directory) → row_at (b ∷ r) x ≡ Some from → child_of from ≡ Some source
      → edit_row (b ∷ r) leaves x ≡ to → child_of to ≡ Some target → MayGo target m → IsOrdered (b ∷ r) [] x from to source target
  above_it b r x from to source target at h here h_to go =
      let u = above b r x from source at h in
      let d = u.0 in
      let v = u.1.1.0 in
      let k = edit_row r leaves in
      let there : Directory = record d { rows = change_row b k d.rows } in
      let put = changed d m (Some z) in
      let old : edit_row (b ∷ r) leaves x ≡ with_child (Some there) x = change_rows-held (change_row b k) x d u.1.0 in
      let is : target ≡ there = same_Some target there (sym h_to ∙ ap child_of (sym here ∙ old) ∙ child_of-with_child (Some there) x) in
      let off : bytes_eq b m ≡ false = elim (bytes_eq b m) as (λ t. bytes_eq b m ≡ t → t ≡ false) [
        | true ↦ λ t. (let same : bytes_eq m b ≡ true = ap (bytes_eq m) (same-≡ b m t) ∙ same-refl m in
            let found : find_row m target.rows ≡ Some (k v) =
            ap (λ (a : Directory). find_row m a.rows) is ∙ find_row-change_row m b k d.rows ∙ ap (λ c. cond c (option_map k (find_row b d.rows)) (find_row m d.rows)) same ∙ ap
            (option_map k) u.1.1.1.0 in
            let P : Option Row → Type 0 = λ o. IfSome o (λ w. child_of w ≡ None) in
            absurd (stays_loaded r v from source u.1.1.1.1 h (subst P found go)))
        | false ↦ λ t. refl
      ] refl in
      record {
        before = x;
        directory = d;
        at = refl;
        holds = u.1.0;
        number = ap (λ (a : Row). a.number) here;
        listing = sym (stored_alike b k (λ y. number_kept r leaves y (λ a. refl)) (λ y. kind_stays r leaves y (λ a. refl)) (λ y. origin_kept r leaves y (λ a. refl)) put.rows)
            ∙ ap (map stored_entry) (sym (placed_swapped b m k z off d.rows))
            ∙ ap (λ (a : Directory). listing_of (changed a m (Some z))) (sym is);
        swapped = ap (edit_row (b ∷ r) leaves) (changed_held m (Some z) x d u.1.0)
            ∙ change_rows-held (change_row b k) (with_child (Some put) x) put (child_of-with_child (Some put) x)
            ∙ ap (λ l. with_child (Some (record d { rows = l; unsaved = false })) x) (sym (placed_swapped b m k z off d.rows))
            ∙ sym (ap comes old ∙ changed_held m (Some z) (with_child (Some there) x) there (child_of-with_child (Some there) x));
        still = from;
        rest = source;
        at_still = steps_down b r (comes x) v put (ap child_of (changed_held m (Some z) x d u.1.0) ∙ child_of-with_child (Some put) x)
            (find_placed b m z d.rows ∙ ap (λ t. cond t (Some z) (find_row b d.rows)) off ∙ u.1.1.1.0) ∙ u.1.1.1.1;
        holds_still = h;
        number_still = refl;
        listing_still = refl;
      }

  -- both are below entries of one directory: of the same one, or of two
  module _ (b a : Name) (r s : Path) (x from to : Row) (source target d : Directory) (v : Row) (hx : child_of x ≡ Some d) (fv : find_row b d.rows ≡ Some v)
      (h_to : child_of to ≡ Some target) where
    abbrev kf : Row → Row
    kf = edit_row r leaves

    abbrev kg : Row → Row
    kg = edit_row s comes

    both_swapped : change_row b kf (change_row a kg d.rows) ≡ change_row a kg (change_row b kf d.rows)
        → edit_row (b ∷ r) leaves (edit_row (a ∷ s) comes x) ≡ edit_row (a ∷ s) comes (edit_row (b ∷ r) leaves x)
    both_swapped rows =
        two (change_row b kf) (change_row a kg) x d hx ∙ ap (λ l. with_child (Some (record d { rows = l })) x) rows ∙ sym (two (change_row a kg) (change_row b kf) x d hx)

    abbrev came : Directory
    came = record d { rows = change_row a kg d.rows }

    came_in : child_of (edit_row (a ∷ s) comes x) ≡ Some came
    came_in = ap child_of (change_rows-held (change_row a kg) x d hx) ∙ child_of-with_child (Some came) x

    found_then : find_row b came.rows ≡ cond (bytes_eq b a) (option_map kg (find_row a d.rows)) (find_row b d.rows)
    found_then = find_row-change_row b a kg d.rows

    within_one : a ≡ b → IsOrdered r s v from to source target → IsOrdered (b ∷ r) (a ∷ s) x from to source target
    within_one one o = record {
      before = o.before;
      directory = o.directory;
      at = steps_down a s x v d hx (ap (λ c. find_row c d.rows) one ∙ fv) ∙ o.at;
      holds = o.holds;
      number = o.number;
      listing = o.listing;
      swapped = both_swapped (ap (λ c. change_row b kf (change_row c kg d.rows)) one ∙ change_row-twice b kf kg d.rows ∙ change_row-found b (λ y. kf (kg y)) v d.rows fv
          ∙ ap (λ w. set_row b w d.rows) o.swapped
          ∙ sym (ap (λ c. change_row c kg (change_row b kf d.rows)) one ∙ change_row-twice b kg kf d.rows ∙ change_row-found b (λ y. kg (kf y)) v d.rows fv));
      still = o.still;
      rest = o.rest;
      at_still = steps_down b r (edit_row (a ∷ s) comes x) (kg v) came came_in
          (found_then ∙ ap (λ t. cond t (option_map kg (find_row a d.rows)) (find_row b d.rows)) (ap (bytes_eq b) one ∙ same-refl b)
          ∙ ap (option_map kg) (ap (λ c. find_row c d.rows) one ∙ fv)) ∙ o.at_still;
      holds_still = o.holds_still;
      number_still = o.number_still;
      listing_still = o.listing_still;
    }

    within_two : bytes_eq a b ≡ false → (u : Row) → find_row a d.rows ≡ Some u → row_at s u ≡ Some to → row_at r v ≡ Some from → child_of from ≡ Some source
        → IsOrdered (b ∷ r) (a ∷ s) x from to source target
    within_two off u fu at at_from h_from = record {
      before = to;
      directory = target;
      at = steps_down a s x u d hx fu ∙ at;
      holds = h_to;
      number = refl;
      listing = refl;
      swapped = both_swapped (changes_swapped b a kf kg (same-sym a b off) d.rows);
      still = from;
      rest = source;
      at_still = steps_down b r (edit_row (a ∷ s) comes x) v came came_in
          (found_then ∙ ap (λ t. cond t (option_map kg (find_row a d.rows)) (find_row b d.rows)) (same-sym a b off) ∙ fv) ∙ at_from;
      holds_still = h_from;
      number_still = refl;
      listing_still = refl;
    }

  pub order : (p q : Path) (x from to : Row) (source target : Directory) → row_at p x ≡ Some from → child_of from ≡ Some source → AreRising (λ r. r.0) source.rows
      → row_at q (edit_row p leaves x) ≡ Some to → child_of to ≡ Some target → MayGo target m → p ≢ q → IsOrdered p q x from to source target
  order [] [] x from to source target at h rising at_to h_to go other =
      absurd (other refl)
  order [] (a ∷ s) x from to source target at h rising at_to h_to go other =
      let here : x ≡ from = same_Some x from at in
      below_it a s x from to source target here (ap child_of here ∙ h) rising at_to h_to
  order (b ∷ r) [] x from to source target at h rising at_to h_to go other = above_it b r x from to source target at h (same_Some (edit_row (b ∷ r) leaves x) to at_to) h_to go
  order (b ∷ r) (a ∷ s) x from to source target at h rising at_to h_to go other =
      let u = above b r x from source at h in
      let d = u.0 in
      let v = u.1.1.0 in
      let k = edit_row r leaves in
      let there : Directory = record d { rows = change_row b k d.rows } in
      let held : child_of (edit_row (b ∷ r) leaves x) ≡ Some there = ap child_of (change_rows-held (change_row b k) x d u.1.0) ∙ child_of-with_child (Some there) x in
      let e = and_then_some (row_at s) (find_row a there.rows) to (sym (ap (option_and_then (λ (c : Directory). option_and_then (row_at s) (find_row a c.rows))) held) ∙ at_to) in
      let looked = sym (find_row-change_row a b k d.rows) ∙ e.1.0 in
      elim (bytes_eq a b) as (λ t. bytes_eq a b ≡ t → cond t (option_map k (find_row b d.rows)) (find_row a d.rows) ≡ Some e.0 → IsOrdered (b ∷ r) (a ∷ s) x from to source target) [
        | true ↦ λ t l. (let same : k v ≡ e.0 = same_Some (k v) e.0 (sym (ap (option_map k) u.1.1.1.0) ∙ l) in
            within_one b a r s x from to source target d v u.1.0 u.1.1.1.0 h_to (same-≡ a b t) (order r s v from to source target u.1.1.1.1 h rising (ap (row_at s) same ∙ e.1.1) h_to go
            (λ is. other (ap (λ (l : Path). b ∷ l) is ∙ ap (λ (c : Name). c ∷ s) (sym (same-≡ a b t))))))
        | false ↦ λ t l. within_two b a r s x from to source target d v u.1.0 u.1.1.1.0 h_to t e.0 l e.1.1 u.1.1.1.1 h
      ] refl looked
