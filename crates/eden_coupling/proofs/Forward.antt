-- A table with the directory at a path become another: which loaded directories it has.
use Rattle.std.proofs.Common.{◌≡◌, ◌≢◌, ◌⊎◌, ℕ, true, false, [], ◌∷◌, Some, None, refl, sym, ap, ◌∙◌, subst, inl, inr}
use Rattle.std.specs.Str.{bytes_eq}
use Rattle.std.specs.Option.{option_and_then}
use Rattle.std.proofs.lemmas.Option.{same_Some}
use Rattle.eden_model.specs.Trees.{Name, Path}
use Rattle.eden_overlay.specs.Files.{Stored}
use Rattle.eden_tree.specs.Directory.{Row, Directory, child_of, with_child}
use Rattle.eden_tree.specs.Rows.{find_row, set_row}
use Rattle.eden_tree.specs.Paths.{row_at, edit_row}
use Rattle.eden_tree.proofs.CallerLemmas.{same-≡, child_of-with_child, steps_back}
use Rattle.eden_coupling.specs.Listings.{stored_entry, full_entry, own_if_loaded, listing_of, full_listing, Place, top, inside}
use Rattle.eden_coupling.specs.Ties.{Fits}
use Rattle.eden_coupling.proofs.Rows.{and_then_some, own_loaded}
use Rattle.eden_coupling.proofs.Edits.{find_set, find_other, map_set, differ}
use Rattle.eden_coupling.proofs.Follows.{below_top, place_cases, Back}
use Rattle.eden_coupling.proofs.Chain.{place_at, at_changed, origin_kept, root_loaded}
use Rattle.eden_coupling.proofs.Loops.{loaded_above, no_loop, branches}

-- a change of what entries hold leaves the first one's number and kind
pub number_kept : (p : Path) (g : Row → Row) (x : Row) → ((a : Row) → (g a).number ≡ a.number) → (edit_row p g x).number ≡ x.number
number_kept [] g x same = same x
number_kept (n ∷ p) g x same = refl

pub kind_stays : (p : Path) (g : Row → Row) (x : Row) → ((a : Row) → (g a).kind ≡ a.kind) → (edit_row p g x).kind ≡ x.kind
kind_stays [] g x same = same x
kind_stays (n ∷ p) g x same = refl

-- a loaded directory that the new table has, as the old one had it
pub record Same (x : Row) (not : ℕ) (a : Row) (b : Directory) : Type 0 where
  pub row : Row
  pub directory : Directory
  pub place : Place x row
  pub holds : child_of row ≡ Some directory
  pub number : a.number ≡ row.number
  pub kind : a.kind ≡ row.kind
  pub origin : a.origin ≡ row.origin
  pub mark : b.unsaved ≡ directory.unsaved
  pub listing : listing_of b ≡ listing_of directory
  pub full : full_listing b ≡ full_listing directory
  pub off : row.number ≢ not

module _ (full : Stored) (root : Row) (next : ℕ) (t : Fits full root next) where
  module _ (y : Row) (d e : Directory) (held : child_of y ≡ Some d)
      (each : (n : Name) (w : Row) → find_row n e.rows ≡ Some w → (find_row n d.rows ≡ Some w) ⊎ (child_of w ≡ None))
      (loaded : (n : Name) (w : Row) (c : Directory) → find_row n d.rows ≡ Some w → child_of w ≡ Some c → find_row n e.rows ≡ Some w) where
    -- the change
    abbrev pub g : Row → Row
    g a = with_child (Some e) a

    as_was : (x : Row) (a : Row) (b : Directory) → Place x a → child_of a ≡ Some b → a.number ≢ y.number → Same x y.number a b
    as_was x a b p h off = record { row = a; directory = b; place = p; holds = h; number = refl; kind = refl; origin = refl; mark = refl; listing = refl; full = refl; off = off }

    -- a loaded directory that the new table has is the changed one, or as the old table had it
    abbrev pub Forward : Row → Row → Directory → Type 0
    Forward x a b = ((a ≡ g y) × (b ≡ e)) ⊎ Same x y.number a b

    -- one step of the path
    module _ (n : Name) (p : Path) (x : Row) (c : Directory) (z : Row) (h : child_of x ≡ Some c) (f : find_row n c.rows ≡ Some z)
        (at : row_at p z ≡ Some y) (r : Place root x) where
      abbrev v : Row
      v = edit_row p g z

      abbrev new : Directory
      new = record c { rows = set_row n v c.rows }

      place_z : Place root z
      place_z = inside x c n z r h f

      place_below : Place z y
      place_below = place_at p z y at

      now_holds : child_of (edit_row (n ∷ p) g x) ≡ Some new
      now_holds = ap child_of (sym (steps_back n p g x z c h f)) ∙ child_of-with_child (Some new) x

      v_loaded : (q : Directory) × (child_of v ≡ Some q)
      v_loaded = loaded_above v (g y) e (place_at p v (g y) (at_changed p g z y at)) (child_of-with_child (Some e) y)

      z_loaded : (q : Directory) × (child_of z ≡ Some q)
      z_loaded = loaded_above z y d place_below held

      same_number : v.number ≡ z.number
      same_number = number_kept p g z (λ a. refl)

      same_kind : v.kind ≡ z.kind
      same_kind = kind_stays p g z (λ a. refl)

      entry_full : full_entry (n, v) ≡ full_entry (n, z)
      entry_full =
          ap (λ k. record { name = n; kind = k; origin = own_if_loaded v.child v.origin; number = v.number }) same_kind
          ∙ ap (λ o. record { name = n; kind = z.kind; origin = o; number = v.number }) (own_loaded v v_loaded.0 v_loaded.1 ∙ sym (own_loaded z z_loaded.0 z_loaded.1))
          ∙ ap (λ k. record { name = n; kind = z.kind; origin = own_if_loaded z.child z.origin; number = k }) same_number

      entry_stored : stored_entry (n, v) ≡ stored_entry (n, z)
      entry_stored =
          ap (λ k. record { name = n; kind = k; origin = v.origin; number = v.number }) same_kind
          ∙ ap (λ o. record { name = n; kind = z.kind; origin = o; number = v.number }) (origin_kept p g z (λ a. refl))
          ∙ ap (λ k. record { name = n; kind = z.kind; origin = z.origin; number = k }) same_number

      at_top : (a : Row) (b : Directory) → a ≡ edit_row (n ∷ p) g x → b ≡ new → Same x y.number a b
      at_top a b is dir = record {
        row = x;
        directory = c;
        place = top;
        holds = h;
        number = ap (λ (q : Row). q.number) is;
        kind = ap (λ (q : Row). q.kind) is;
        origin = ap (λ (q : Row). q.origin) is;
        mark = ap (λ (q : Directory). q.unsaved) dir;
        listing = ap listing_of dir ∙ map_set stored_entry n z v c.rows f entry_stored;
        full = ap full_listing dir ∙ map_set full_entry n z v c.rows f entry_full;
        off = no_loop full root next t x c n z y d r h f place_below held;
      }

      lift : (a : Row) (b : Directory) → Forward z a b → Forward x a b
      lift a b (inl is) = inl is
      lift a b (inr s) = inr (record {
        row = s.row;
        directory = s.directory;
        place = below_top x z s.row c n h f s.place;
        holds = s.holds;
        number = s.number;
        kind = s.kind;
        origin = s.origin;
        mark = s.mark;
        listing = s.listing;
        full = s.full;
        off = s.off;
      })

      in_row : ((a : Row) (b : Directory) → Place v a → child_of a ≡ Some b → Forward z a b) → (a : Row) (b : Directory) (m : Name) (w : Row)
          → find_row m (set_row n v c.rows) ≡ Some w → Place w a → child_of a ≡ Some b → Forward x a b
      in_row rest a b m w there q k = elim (bytes_eq m n) as (λ s. bytes_eq m n ≡ s → Forward x a b) [
        | true ↦ λ s.
            (let is : v ≡ w = same_Some v w (sym (find_set n z v c.rows f) ∙ ap (λ l. find_row l (set_row n v c.rows)) (sym (same-≡ m n s)) ∙ there) in
            lift a b (rest a b (subst (λ l. Place l a) (sym is) q) k))
        | false ↦ λ s.
            (let was : find_row m c.rows ≡ Some w = sym (find_other m n v c.rows s) ∙ there in
            inr (as_was x a b (below_top x w a c m h was q) k (branches full root next t x c m n w z r h was f (differ m n s) a y b d q k place_below held)))
      ] refl

      step : ((a : Row) (b : Directory) → Place v a → child_of a ≡ Some b → Forward z a b) → (a : Row) (b : Directory) → Place (edit_row (n ∷ p) g x) a → child_of a ≡ Some b → Forward x a b
      step rest a b q k = elim (place_cases (edit_row (n ∷ p) g x) a q) [
        | inl is ↦ inr (at_top a b is (same_Some b new (sym k ∙ ap child_of is ∙ now_holds)))
        | inr l ↦
            (let same : l.directory ≡ new = same_Some l.directory new (sym l.holds ∙ now_holds) in
            in_row rest a b l.name l.row (ap (λ (j : Directory). find_row l.name j.rows) (sym same) ∙ l.there) l.place k)
      ]

      back_step : ((a : Row) (b : Directory) → Place z a → child_of a ≡ Some b → Back v a.number)
          → (a : Row) (b : Directory) → Place x a → child_of a ≡ Some b → Back (edit_row (n ∷ p) g x) a.number
      back_step rest a b q k = elim (place_cases x a q) [
        | inl is ↦ record { row = edit_row (n ∷ p) g x; directory = new; place = top; holds = now_holds; number = ap (λ (j : Row). j.number) (sym is) }
        | inr l ↦
            (let same : l.directory ≡ c = same_Some l.directory c (sym l.holds ∙ h) in
            inner l.name l.row (ap (λ (j : Directory). find_row l.name j.rows) (sym same) ∙ l.there) l.place)
      ]
        where
          inner : (m : Name) (w : Row) → find_row m c.rows ≡ Some w → Place w a → Back (edit_row (n ∷ p) g x) a.number
          inner m w there under = elim (bytes_eq m n) as (λ s. bytes_eq m n ≡ s → Back (edit_row (n ∷ p) g x) a.number) [
            | true ↦ λ s.
                (let is : z ≡ w = same_Some z w (sym f ∙ ap (λ l. find_row l c.rows) (sym (same-≡ m n s)) ∙ there) in
                let o = rest a b (subst (λ l. Place l a) (sym is) under) k in
                let on = below_top (edit_row (n ∷ p) g x) v o.row new n now_holds (find_set n z v c.rows f) o.place in
                record { row = o.row; directory = o.directory; place = on; holds = o.holds; number = o.number })
            | false ↦ λ s.
                (let on = below_top (edit_row (n ∷ p) g x) w a new m now_holds (find_other m n v c.rows s ∙ there) under in
                record { row = a; directory = b; place = on; holds = k; number = refl })
          ] refl

    here_forward : (x : Row) → x ≡ y → Place root x → (a : Row) (b : Directory) → Place (g x) a → child_of a ≡ Some b → Forward x a b
    here_forward x is r a b q k = elim (place_cases (g x) a q) [
      | inl one ↦ inl (one ∙ ap g is, same_Some b e (sym k ∙ ap child_of one ∙ child_of-with_child (Some e) x))
      | inr l ↦
          (let same : l.directory ≡ e = same_Some l.directory e (sym l.holds ∙ child_of-with_child (Some e) x) in
          let holds : child_of x ≡ Some d = ap child_of is ∙ held in
          elim (each l.name l.row (ap (λ (j : Directory). find_row l.name j.rows) (sym same) ∙ l.there)) [
            | inl was ↦
                inr (as_was x a b (below_top x l.row a d l.name holds was l.place) k
                (λ number. no_loop full root next t x d l.name l.row a b r holds was l.place k (ap (λ (j : Row). j.number) is ∙ sym number)))
            | inr none ↦ absurd (root_loaded l.row a b l.place k none)
          ])
    ]

    pub forward : (p : Path) (x : Row) → row_at p x ≡ Some y → Place root x → (a : Row) (b : Directory) → Place (edit_row p g x) a → child_of a ≡ Some b → Forward x a b
    forward [] x at r = here_forward x (same_Some x y at) r
    forward (n ∷ p) x at r =
        let one = and_then_some (λ (a : Directory). option_and_then (row_at p) (find_row n a.rows)) (child_of x) y at in
        let two = and_then_some (row_at p) (find_row n one.0.rows) y one.1.1 in
        step n p x one.0 two.0 one.1.0 two.1.0 two.1.1 r (forward p two.0 two.1.1 (inside x one.0 n two.0 r one.1.0 two.1.0))

    here_back : (x : Row) → x ≡ y → (a : Row) (b : Directory) → Place x a → child_of a ≡ Some b → Back (g x) a.number
    here_back x is a b q k = elim (place_cases x a q) [
      | inl one ↦ record { row = g x; directory = e; place = top; holds = child_of-with_child (Some e) x; number = ap (λ (j : Row). j.number) (sym one) }
      | inr l ↦
          (let same : l.directory ≡ d = same_Some l.directory d (sym l.holds ∙ ap child_of is ∙ held) in
          let up = loaded_above l.row a b l.place k in
          let there = loaded l.name l.row up.0 (ap (λ (j : Directory). find_row l.name j.rows) (sym same) ∙ l.there) up.1 in
          record { row = a; directory = b; place = below_top (g x) l.row a e l.name (child_of-with_child (Some e) x) there l.place; holds = k; number = refl })
    ]

    pub back : (p : Path) (x : Row) → row_at p x ≡ Some y → Place root x → (a : Row) (b : Directory) → Place x a → child_of a ≡ Some b → Back (edit_row p g x) a.number
    back [] x at r = here_back x (same_Some x y at)
    back (n ∷ p) x at r =
        let one = and_then_some (λ (a : Directory). option_and_then (row_at p) (find_row n a.rows)) (child_of x) y at in
        let two = and_then_some (row_at p) (find_row n one.0.rows) y one.1.1 in
        back_step n p x one.0 two.0 one.1.0 two.1.0 two.1.1 r (back p two.0 two.1.1 (inside x one.0 n two.0 r one.1.0 two.1.0))
