-- A table with one entry in the place of another, and what of it is as before.
use Rattle.std.proofs.Common.{◌≡◌, ◌≢◌, ◌⊎◌, ℕ, true, false, [], ◌∷◌, ◌++◌, Option, Some, None, refl, sym, ap, ◌∙◌, subst, inl, inr}
use Rattle.std.specs.Str.{bytes_eq}
use Rattle.std.specs.Option.{option_and_then}
use Rattle.std.proofs.lemmas.Option.{same_Some}
use Rattle.eden_model.specs.declared.kind.Kind.{Kind}
use Rattle.eden_model.specs.declared.kind.Origin.{Origin}
use Rattle.eden_model.specs.Trees.{Name, Path}
use Rattle.eden_overlay_format.specs.declared.stored_entry.StoredEntry.{StoredEntry}
use Rattle.eden_overlay.specs.Files.{Stored}
use Rattle.eden_tree.specs.Directory.{Row, Directory, child_of, with_child}
use Rattle.eden_tree.specs.Rows.{find_row, set_row}
use Rattle.eden_tree.specs.Paths.{row_at, edit_row, stamped_along}
use Rattle.eden_tree.proofs.CallerLemmas.{same-≡, child_of-with_child, steps_down, steps_back, edits_on, edits_alike}
use Rattle.eden_tree.proofs.CallerLemmas.{stamped_along-unloaded, stamped_along-end, stamped_along-absent, stamped_along-found}
use Rattle.eden_coupling.specs.Listings.{stored_entry, full_entry, own_if_loaded, listing_of, full_listing, Place, top, inside}
use Rattle.eden_coupling.specs.Ties.{Fits}
use Rattle.eden_coupling.specs.Unloading.{HasNoneInside}
use Rattle.eden_coupling.proofs.Rows.{and_then_some, by_child, own_loaded}
use Rattle.eden_coupling.proofs.Edits.{find_set, find_other, map_set, differ}
use Rattle.eden_coupling.proofs.Follows.{below_top, place_cases, Back}
use Rattle.eden_coupling.proofs.Chain.{place_at, at_changed, origin_kept, root_loaded}
use Rattle.eden_coupling.proofs.Forward.{number_kept, kind_stays}
use Rattle.eden_coupling.proofs.Loops.{loaded_above, place_on, no_loop, branches}

-- ---- a loaded directory, as another table has it

-- but for its stamp, and for what is loaded of its entries
pub record Was (x w : Row) (e : Directory) : Type 0 where
  pub row : Row
  pub directory : Directory
  pub place : Place x row
  pub holds : child_of row ≡ Some directory
  pub number : w.number ≡ row.number
  pub kind : w.kind ≡ row.kind
  pub origin : w.origin ≡ row.origin
  pub mark : e.unsaved ≡ directory.unsaved
  pub listing : listing_of e ≡ listing_of directory

-- .. and the same in full, its number one of those that Off has
pub record Twin (Off : ℕ → Type 0) (x w : Row) (e : Directory) : Type 0 where
  pub was : Was x w e
  pub full : full_listing e ≡ full_listing was.directory
  pub off : Off was.row.number

-- a loaded directory as it is
pub was_itself : (x w : Row) (e : Directory) → Place x w → child_of w ≡ Some e → Was x w e
was_itself x w e p h = record { row = w; directory = e; place = p; holds = h; number = refl; kind = refl; origin = refl; mark = refl; listing = refl }

pub itself : (Off : ℕ → Type 0) (x w : Row) (e : Directory) → Place x w → child_of w ≡ Some e → Off w.number → Twin Off x w e
unfolding was_itself
itself Off x w e p h off = record { was = was_itself x w e p h; full = refl; off = off }

-- an entry in the place of another, which is stored and in full alike
pub record SameEntry (v z : Row) : Type 0 where
  pub number : v.number ≡ z.number
  pub kind : v.kind ≡ z.kind
  pub origin : v.origin ≡ z.origin
  pub own : own_if_loaded v.child v.origin ≡ own_if_loaded z.child z.origin

-- an entry as it is stored, by its parts
abbrev entry_of : Name → Kind → Origin → ℕ → StoredEntry
entry_of n s o j = record { name = n; kind = s; origin = o; number = j }

entry_same : (n : Name) (j k : ℕ) (s t : Kind) (o p : Origin) → j ≡ k → s ≡ t → o ≡ p → entry_of n s o j ≡ entry_of n t p k
entry_same n j k s t o p e f g = ap (λ (i : ℕ). entry_of n s o i) e ∙ ap (λ (i : Kind). entry_of n i o k) f ∙ ap (λ (i : Origin). entry_of n t i k) g

-- ---- one level

-- w stands at or below an entry of another name than n
pub record Beside (d : Directory) (n : Name) (w : Row) : Type 0 where
  pub name : Name
  pub row : Row
  pub other : bytes_eq name n ≡ false
  pub there : find_row name d.rows ≡ Some row
  pub place : Place row w

-- what stands beside an entry stands below the one above
pub beside_place : (x : Row) (d : Directory) (n : Name) (w : Row) → child_of x ≡ Some d → Beside d n w → Place x w
beside_place x d n w held b = below_top x b.row w d b.name held b.there b.place

-- what is loaded at or below an entry: its own directory, or one at or below the entry n, or beside that
pub level_cases : (x : Row) (d : Directory) (n : Name) (z w : Row) (e : Directory) → child_of x ≡ Some d → find_row n d.rows ≡ Some z → Place x w → child_of w ≡ Some e
    → ((w ≡ x) × (e ≡ d)) ⊎ (Place z w ⊎ Beside d n w)
level_cases x d n z w e held there p h = elim (place_cases x w p) [
  | inl is ↦ inl (is, same_Some e d (sym h ∙ ap child_of is ∙ held))
  | inr b ↦ inr (below b.name b.row (ap (λ (a : Directory). find_row b.name a.rows) (sym (same_Some b.directory d (sym b.holds ∙ held))) ∙ b.there) b.place)
]
  where
    below : (m : Name) (u : Row) → find_row m d.rows ≡ Some u → Place u w → Place z w ⊎ Beside d n w
    below m u f q = elim (bytes_eq m n) as (λ b. bytes_eq m n ≡ b → Place z w ⊎ Beside d n w) [
      | true ↦ λ same.
          (let is : z ≡ u = same_Some z u (sym there ∙ ap (λ a. find_row a d.rows) (sym (same-≡ m n same)) ∙ f) in
          inl (subst (λ a. Place a w) (sym is) q))
      | false ↦ λ off. inr (record { name = m; row = u; other = off; there = f; place = q })
    ] refl

-- a directory with none inside, where it is all that is loaded of an entry
pub leaf_cases : (x w : Row) (d e : Directory) → child_of x ≡ Some d → HasNoneInside d → Place x w → child_of w ≡ Some e → (w ≡ x) × (e ≡ d)
leaf_cases x w d e held bare p h = elim (place_cases x w p) [
  | inl is ↦ (is, same_Some e d (sym h ∙ ap child_of is ∙ held))
  | inr b ↦ absurd (root_loaded b.row w e b.place h (bare b.name b.row (ap (λ (a : Directory). find_row b.name a.rows) (sym (same_Some b.directory d (sym b.holds ∙ held))) ∙ b.there)))
]

-- the directory with z as its entry n, and that stamp
abbrev pub with_entry : Directory → Name → Row → ℕ → Directory
with_entry d n z s = record d { stamp = s; rows = set_row n z d.rows }

module _ (x : Row) (d : Directory) (n : Name) (z v : Row) (s : ℕ) (held : child_of x ≡ Some d) (there : find_row n d.rows ≡ Some z) where
  -- the entry x, v in the place of its entry z
  abbrev pub over : Row
  over = with_child (Some (with_entry d n v s)) x

  -- it holds the new directory, which has the new entry
  pub over_holds : child_of over ≡ Some (with_entry d n v s)
  over_holds = child_of-with_child (Some (with_entry d n v s)) x

  pub over_there : find_row n (with_entry d n v s).rows ≡ Some v
  over_there = find_set n z v d.rows there

  pub over_cases : (w : Row) (e : Directory) → Place over w → child_of w ≡ Some e → ((w ≡ over) × (e ≡ with_entry d n v s)) ⊎ (Place v w ⊎ Beside d n w)
  over_cases w e p h = elim (level_cases over (with_entry d n v s) n v w e over_holds over_there p h) [
    | inl is ↦ inl is
    | inr below ↦ elim below [
      | inl q ↦ inr (inl q)
      | inr b ↦ inr (inr (record { name = b.name; row = b.row; other = b.other; there = sym (find_other b.name n v d.rows b.other) ∙ b.there; place = b.place }))
    ]
  ]

  -- what stands beside, or in the new entry, does so in the new one
  pub over_beside : (w : Row) → Beside d n w → Place over w
  over_beside w b = below_top over b.row w (with_entry d n v s) b.name over_holds (find_other b.name n v d.rows b.other ∙ b.there) b.place

  pub over_below : (w : Row) → Place v w → Place over w
  over_below w p = below_top over v w (with_entry d n v s) n over_holds over_there p

  -- the new one is the old but for its entry, and in full where that is alike; and what is as below the entry is so below x
  pub top_was : (w : Row) (e : Directory) → v.number ≡ z.number → v.kind ≡ z.kind → v.origin ≡ z.origin → w ≡ over → e ≡ with_entry d n v s → Was x w e
  top_was w e number kind origin is dir = record {
    row = x;
    directory = d;
    place = top;
    holds = held;
    number = ap (λ (a : Row). a.number) is;
    kind = ap (λ (a : Row). a.kind) is;
    origin = ap (λ (a : Row). a.origin) is;
    mark = ap (λ (a : Directory). a.unsaved) dir;
    listing = ap listing_of dir ∙ map_set stored_entry n z v d.rows there (entry_same n v.number z.number v.kind z.kind v.origin z.origin number kind origin);
  }

  pub full_same : v.number ≡ z.number → v.kind ≡ z.kind → own_if_loaded v.child v.origin ≡ own_if_loaded z.child z.origin → full_listing (with_entry d n v s) ≡ full_listing d
  full_same number kind own = map_set full_entry n z v d.rows there (entry_same n v.number z.number v.kind z.kind (own_if_loaded v.child v.origin) (own_if_loaded z.child z.origin) number kind own)

  pub was_up : (w : Row) (e : Directory) → Was z w e → Was x w e
  was_up w e b = record {
    row = b.row;
    directory = b.directory;
    place = below_top x z b.row d n held there b.place;
    holds = b.holds;
    number = b.number;
    kind = b.kind;
    origin = b.origin;
    mark = b.mark;
    listing = b.listing;
  }

  -- all that is loaded in the new one, by what is loaded in the new entry
  pub level_forth : (A : Row → Type 0) (Off : ℕ → Type 0) → SameEntry v z → Off x.number → ((w : Row) (e : Directory) → Beside d n w → child_of w ≡ Some e → Off w.number)
      → ((w : Row) (e : Directory) → Place v w → child_of w ≡ Some e → A w ⊎ Twin Off z w e)
      → (w : Row) (e : Directory) → Place over w → child_of w ≡ Some e → A w ⊎ Twin Off x w e
  unfolding top_was was_up
  level_forth A Off same here beside below w e p h = elim (over_cases w e p h) [
    | inl is ↦ inr (record { was = top_was w e same.number same.kind same.origin is.0 is.1; full = ap full_listing is.1 ∙ full_same same.number same.kind same.own; off = here })
    | inr deeper ↦ elim deeper [
      | inl q ↦ elim (below w e q h) [
        | inl a ↦ inl a
        | inr t ↦ inr (record { was = was_up w e t.was; full = t.full; off = t.off })
      ]
      | inr b ↦ inr (itself Off x w e (beside_place x d n w held b) h (beside w e b h))
    ]
  ]

  -- and all that was loaded in the old one
  pub level_back : (B : Row → Type 0) → ((w : Row) (e : Directory) → Place z w → child_of w ≡ Some e → B w ⊎ Back v w.number)
      → (w : Row) (e : Directory) → Place x w → child_of w ≡ Some e → B w ⊎ Back over w.number
  level_back B below w e p h = elim (level_cases x d n z w e held there p h) [
    | inl is ↦ inr (record { row = over; directory = with_entry d n v s; place = top; holds = over_holds; number = ap (λ (a : Row). a.number) (sym is.0) })
    | inr deeper ↦ elim deeper [
      | inl q ↦ elim (below w e q h) [
        | inl b ↦ inl b
        | inr k ↦ inr (record { row = k.row; directory = k.directory; place = over_below k.row k.place; holds = k.holds; number = k.number })
      ]
      | inr b ↦ inr (record { row = w; directory = e; place = over_beside w b; holds = h; number = refl })
    ]
  ]

-- ---- stamps

-- any number, and no entry
abbrev pub Any : ℕ → Type 0
Any k = Unit {0}

abbrev pub Nothing : Row → Type 0
Nothing w = ⊥

-- by whether an entry has the name
by_found : (n : Name) (d : Directory) (P : Type 0) → (find_row n d.rows ≡ None → P) → ((z : Row) → find_row n d.rows ≡ Some z → P) → P
by_found n d P none some = elim (find_row n d.rows) as (λ o. find_row n d.rows ≡ o → P) [ None ↦ none | Some z ↦ some z ] refl

-- a stamped entry is one in the place of the other
pub stamped_same : (p : Path) (s : ℕ) (x : Row) → SameEntry (stamped_along p s x) x
stamped_same p s x = record {
  number = number p;
  kind = kind p;
  origin = origin p;
  own = by_child x (own_if_loaded (stamped_along p s x).child (stamped_along p s x).origin ≡ own_if_loaded x.child x.origin)
      (λ none. ap (λ (a : Row). own_if_loaded a.child a.origin) (stamped_along-unloaded s x p none))
      (λ d held. let l = still p d held in own_loaded (stamped_along p s x) l.0 l.1 ∙ sym (own_loaded x d held));
}
  where
    number : (p : Path) → (stamped_along p s x).number ≡ x.number
    number [] = refl
    number (n ∷ p) = refl

    kind : (p : Path) → (stamped_along p s x).kind ≡ x.kind
    kind [] = refl
    kind (n ∷ p) = refl

    origin : (p : Path) → (stamped_along p s x).origin ≡ x.origin
    origin [] = refl
    origin (n ∷ p) = refl

    still : (p : Path) (d : Directory) → child_of x ≡ Some d → (e : Directory) × (child_of (stamped_along p s x) ≡ Some e)
    still [] d held = (record d { stamp = s }, ap child_of (stamped_along-end s x d held) ∙ child_of-with_child (Some (record d { stamp = s })) x)
    still (n ∷ p) d held = by_found n d ((e : Directory) × (child_of (stamped_along (n ∷ p) s x) ≡ Some e))
        (λ absent. (record d { stamp = s }, ap child_of (stamped_along-absent s x n p d held absent) ∙ child_of-with_child (Some (record d { stamp = s })) x))
        (λ z there. (with_entry d n (stamped_along p s z) s, ap child_of (stamped_along-found s x n p d held z there) ∙ child_of-with_child (Some (with_entry d n (stamped_along p s z) s)) x))

-- one directory stamped
module _ (x : Row) (d : Directory) (s : ℕ) (held : child_of x ≡ Some d) where
  abbrev restamped : Row
  restamped = with_child (Some (record d { stamp = s })) x

  restamped_holds : child_of restamped ≡ Some (record d { stamp = s })
  restamped_holds = child_of-with_child (Some (record d { stamp = s })) x

  restamped_forth : (w : Row) (e : Directory) → Place restamped w → child_of w ≡ Some e → Twin Any x w e
  restamped_forth w e p h = elim (place_cases restamped w p) [
    | inl is ↦
        (let dir : e ≡ record d { stamp = s } = same_Some e (record d { stamp = s }) (sym h ∙ ap child_of is ∙ restamped_holds) in
        record {
          was = record {
            row = x;
            directory = d;
            place = top;
            holds = held;
            number = ap (λ (a : Row). a.number) is;
            kind = ap (λ (a : Row). a.kind) is;
            origin = ap (λ (a : Row). a.origin) is;
            mark = ap (λ (a : Directory). a.unsaved) dir;
            listing = ap listing_of dir;
          };
          full = ap full_listing dir;
          off = tt;
        })
    | inr b ↦
        (let dir : b.directory ≡ record d { stamp = s } = same_Some b.directory (record d { stamp = s }) (sym b.holds ∙ restamped_holds) in
        itself Any x w e (below_top x b.row w d b.name held (ap (λ (a : Directory). find_row b.name a.rows) (sym dir) ∙ b.there) b.place) h tt)
  ]

  restamped_back : (w : Row) (e : Directory) → Place x w → child_of w ≡ Some e → Back restamped w.number
  restamped_back w e p h = elim (place_cases x w p) [
    | inl is ↦ record { row = restamped; directory = record d { stamp = s }; place = top; holds = restamped_holds; number = ap (λ (a : Row). a.number) (sym is) }
    | inr b ↦
        (let dir : b.directory ≡ d = same_Some b.directory d (sym b.holds ∙ held) in
        record {
          row = w;
          directory = e;
          holds = h;
          number = refl;
          place = below_top restamped b.row w (record d { stamp = s }) b.name restamped_holds (ap (λ (a : Directory). find_row b.name a.rows) (sym dir) ∙ b.there) b.place;
        })
  ]

-- what is loaded once a path was stamped was loaded alike, and what was loaded still is
pub stamped_forth : (p : Path) (s : ℕ) (x w : Row) (e : Directory) → Place (stamped_along p s x) w → child_of w ≡ Some e → Twin Any x w e
stamped_forth [] s x w e q h = by_child x (Twin Any x w e)
    (λ none. itself Any x w e (subst (λ a. Place a w) (stamped_along-unloaded s x [] none) q) h tt)
    (λ d held. restamped_forth x d s held w e (subst (λ a. Place a w) (stamped_along-end s x d held) q) h)
stamped_forth (n ∷ p) s x w e q h = by_child x (Twin Any x w e)
    (λ none. itself Any x w e (subst (λ a. Place a w) (stamped_along-unloaded s x (n ∷ p) none) q) h tt)
    (λ d held. by_found n d (Twin Any x w e)
    (λ absent. restamped_forth x d s held w e (subst (λ a. Place a w) (stamped_along-absent s x n p d held absent) q) h)
    (λ z there. elim (level_forth x d n z (stamped_along p s z) s held there Nothing Any (stamped_same p s z) tt (λ a b c k. tt) (λ a b r k. inr (stamped_forth p s z a b r k)) w e
    (subst (λ a. Place a w) (stamped_along-found s x n p d held z there) q) h) [ inl none ↦ absurd none | inr t ↦ t ]))

pub stamped_back : (p : Path) (s : ℕ) (x w : Row) (e : Directory) → Place x w → child_of w ≡ Some e → Back (stamped_along p s x) w.number
stamped_back [] s x w e q h = by_child x (Back (stamped_along [] s x) w.number)
    (λ none. subst (λ a. Back a w.number) (sym (stamped_along-unloaded s x [] none)) (record { row = w; directory = e; place = q; holds = h; number = refl }))
    (λ d held. subst (λ a. Back a w.number) (sym (stamped_along-end s x d held)) (restamped_back x d s held w e q h))
stamped_back (n ∷ p) s x w e q h = by_child x (Back (stamped_along (n ∷ p) s x) w.number)
    (λ none. subst (λ a. Back a w.number) (sym (stamped_along-unloaded s x (n ∷ p) none)) (record { row = w; directory = e; place = q; holds = h; number = refl }))
    (λ d held. by_found n d (Back (stamped_along (n ∷ p) s x) w.number)
    (λ absent. subst (λ a. Back a w.number) (sym (stamped_along-absent s x n p d held absent)) (restamped_back x d s held w e q h))
    (λ z there. subst (λ a. Back a w.number) (sym (stamped_along-found s x n p d held z there))
    (elim (level_back x d n z (stamped_along p s z) s held there Nothing (λ a b r k. inr (stamped_back p s z a b r k)) w e q h) [ inl none ↦ absurd none | inr k ↦ k ])))

-- ---- another directory, or none, at a path

-- what an entry is stays, whatever becomes of a directory at or below it
pub edited_number : (p : Path) (o : Option Directory) (x : Row) → (edit_row p (with_child o) x).number ≡ x.number
edited_number p o x = number_kept p (with_child o) x (λ a. refl)

pub edited_kind : (p : Path) (o : Option Directory) (x : Row) → (edit_row p (with_child o) x).kind ≡ x.kind
edited_kind p o x = kind_stays p (with_child o) x (λ a. refl)

pub edited_origin : (p : Path) (o : Option Directory) (x : Row) → (edit_row p (with_child o) x).origin ≡ x.origin
edited_origin p o x = origin_kept p (with_child o) x (λ a. refl)

-- whatever the files: what is loaded then stands at or below the new one, or was so
pub edited_forth : (p : Path) (o : Option Directory) (x y : Row) → row_at p x ≡ Some y → (w : Row) (e : Directory) → Place (edit_row p (with_child o) x) w → child_of w ≡ Some e
    → Place (with_child o y) w ⊎ Was x w e
edited_forth [] o x y at w e q h = inl (subst (λ c. Place (with_child o c) w) (same_Some x y at) q)
edited_forth (n ∷ p) o x y at w e q h =
    let one = and_then_some (λ (a : Directory). option_and_then (row_at p) (find_row n a.rows)) (child_of x) y at in
    let two = and_then_some (row_at p) (find_row n one.0.rows) y one.1.1 in
    let d = one.0 in
    let z = two.0 in
    let v = edit_row p (with_child o) z in
    elim (over_cases x d n z v d.stamp one.1.0 two.1.0 w e (subst (λ c. Place c w) (sym (steps_back n p (with_child o) x z d one.1.0 two.1.0)) q) h) [
      | inl is ↦ inr (top_was x d n z v d.stamp one.1.0 two.1.0 w e (edited_number p o z) (edited_kind p o z) (edited_origin p o z) is.0 is.1)
      | inr deeper ↦ elim deeper [
        | inl r ↦ elim (edited_forth p o z y two.1.1 w e r h) [
          | inl new ↦ inl new
          | inr b ↦ inr (was_up x d n z v d.stamp one.1.0 two.1.0 w e b)
        ]
        | inr b ↦ inr (was_itself x w e (beside_place x d n w one.1.0 b) h)
      ]
    ]

-- the directory above the entry at a path
pub record Above (p : Path) (x y : Row) : Type 0 where
  pub front : Path
  pub name : Name
  pub row : Row
  pub directory : Directory
  pub is : p ≡ front ++ name ∷ []
  pub at : row_at front x ≡ Some row
  pub holds : child_of row ≡ Some directory
  pub there : find_row name directory.rows ≡ Some y

-- the entry at a path is the root's, or has one above
pub above : (p : Path) (x y : Row) → row_at p x ≡ Some y → ((p ≡ []) × (x ≡ y)) ⊎ Above p x y
above [] x y at = inl (refl, same_Some x y at)
above (n ∷ p) x y at =
    let one = and_then_some (λ (a : Directory). option_and_then (row_at p) (find_row n a.rows)) (child_of x) y at in
    let two = and_then_some (row_at p) (find_row n one.0.rows) y one.1.1 in
    elim (above p two.0 y two.1.1) [
      | inl is ↦ inr (record { front = []; name = n; row = x; directory = one.0; is = ap (λ q. n ∷ q) is.0; at = refl; holds = one.1.0; there = two.1.0 ∙ ap Some is.1 })
      | inr a ↦ inr (record {
        front = n ∷ a.front;
        name = a.name;
        row = a.row;
        directory = a.directory;
        is = ap (λ q. n ∷ q) a.is;
        at = steps_down n a.front x two.0 one.0 one.1.0 two.1.0 ∙ a.at;
        holds = a.holds;
        there = a.there;
      })
    ]

module _ (full : Stored) (root : Row) (next : ℕ) (t : Fits full root next) where
  -- with the directory b for a at a path, what is loaded stands in the new entry, or is as before, and not the directory a
  module _ (u : Row) (a b : Directory) (held : child_of u ≡ Some a) where
    -- the entry with the new directory
    abbrev changed : Row → Row
    changed c = with_child (Some b) c

    -- another number than its
    abbrev Other : ℕ → Type 0
    Other k = k ≢ u.number

    -- on the way there the entries are as before
    same_at : (p : Path) (z : Row) → row_at p z ≡ Some u → SameEntry (edit_row p changed z) z
    same_at p z at =
        let now = loaded_above (edit_row p changed z) (changed u) b (place_at p (edit_row p changed z) (changed u) (at_changed p changed z u at)) (child_of-with_child (Some b) u) in
        let was = loaded_above z u a (place_at p z u at) held in
        record {
          number = edited_number p (Some b) z;
          kind = edited_kind p (Some b) z;
          origin = edited_origin p (Some b) z;
          own = own_loaded (edit_row p changed z) now.0 now.1 ∙ sym (own_loaded z was.0 was.1);
        }

    forth_at : (p : Path) (x : Row) → row_at p x ≡ Some u → Place root x → (w : Row) (e : Directory) → Place (edit_row p changed x) w → child_of w ≡ Some e
        → Place (changed u) w ⊎ Twin Other x w e
    forth_at [] x at r w e q h = inl (subst (λ c. Place (changed c) w) (same_Some x u at) q)
    forth_at (n ∷ p) x at r w e q h =
        let one = and_then_some (λ (c : Directory). option_and_then (row_at p) (find_row n c.rows)) (child_of x) u at in
        let two = and_then_some (row_at p) (find_row n one.0.rows) u one.1.1 in
        let d = one.0 in
        let z = two.0 in
        let under = place_at p z u two.1.1 in
        level_forth x d n z (edit_row p changed z) d.stamp one.1.0 two.1.0 (λ c. Place (changed u) c) Other (same_at p z two.1.1)
        (no_loop full root next t x d n z u a r one.1.0 two.1.0 under held)
        (λ c f s k. branches full root next t x d s.name n s.row z r one.1.0 s.there two.1.0 (differ s.name n s.other) c u f a s.place k under held)
        (λ c f s k. forth_at p z two.1.1 (inside x d n z r one.1.0 two.1.0) c f s k)
        w e (subst (λ c. Place c w) (sym (steps_back n p changed x z d one.1.0 two.1.0)) q) h

    -- and what was loaded stood in the old entry, or still is
    back_at : (p : Path) (x : Row) → row_at p x ≡ Some u → (w : Row) (e : Directory) → Place x w → child_of w ≡ Some e → Place u w ⊎ Back (edit_row p changed x) w.number
    back_at [] x at w e q h = inl (subst (λ c. Place c w) (same_Some x u at) q)
    back_at (n ∷ p) x at w e q h =
        let one = and_then_some (λ (c : Directory). option_and_then (row_at p) (find_row n c.rows)) (child_of x) u at in
        let two = and_then_some (row_at p) (find_row n one.0.rows) u one.1.1 in
        let d = one.0 in
        let z = two.0 in
        let B : Row → Type 0 = λ c. Place u c in
        subst (λ c. Place u w ⊎ Back c w.number) (steps_back n p changed x z d one.1.0 two.1.0)
        (level_back x d n z (edit_row p changed z) d.stamp one.1.0 two.1.0 B (λ c f s k. back_at p z two.1.1 c f s k) w e q h)

  -- ---- another directory, or none, at a path that isn't the root's

  module _ (p : Path) (y : Row) (o : Option Directory) (up : Above p root y) where
    -- the entry then, the directory above, its entry, and the table
    abbrev pub now_child : Row
    now_child = with_child o y

    abbrev pub now_parent : Directory
    now_parent = with_entry up.directory up.name now_child up.directory.stamp

    abbrev pub now_row : Row
    now_row = with_child (Some now_parent) up.row

    abbrev pub table : Row
    table = edit_row p (with_child o) root

    -- where they stand, and what they hold
    pub place_parent : Place root up.row
    place_parent = place_at up.front root up.row up.at

    pub place_child : Place root y
    place_child = inside up.row up.directory up.name y place_parent up.holds up.there

    table_is : table ≡ edit_row up.front (with_child (Some now_parent)) root
    table_is =
        ap (λ q. edit_row q (with_child o) root) up.is ∙ edits_on up.front (up.name ∷ []) (with_child o) root
        ∙ edits_alike up.front (edit_row (up.name ∷ []) (with_child o)) (with_child (Some now_parent)) root up.row up.at
        (sym (steps_back up.name [] (with_child o) up.row y up.directory up.holds up.there))

    pub at_row : Place table now_row
    at_row = subst (λ c. Place c now_row) (sym table_is)
        (place_at up.front (edit_row up.front (with_child (Some now_parent)) root) now_row (at_changed up.front (with_child (Some now_parent)) root up.row up.at))

    pub row_holds : child_of now_row ≡ Some now_parent
    row_holds = over_holds up.row up.directory up.name y now_child up.directory.stamp up.holds up.there

    pub at_child : Place table now_child
    at_child = inside now_row now_parent up.name now_child at_row row_holds (over_there up.row up.directory up.name y now_child up.directory.stamp up.holds up.there)

    -- another number than that of the directory above
    abbrev pub Apart : ℕ → Type 0
    Apart k = k ≢ up.row.number

    -- what is loaded then is the directory above, or stands in the new entry, or is as before
    pub forth : (w : Row) (e : Directory) → Place table w → child_of w ≡ Some e → ((w ≡ now_row) × (e ≡ now_parent)) ⊎ (Place now_child w ⊎ Twin Apart root w e)
    forth w e q h = elim (forth_at up.row up.directory now_parent up.holds up.front root up.at top w e (subst (λ c. Place c w) table_is q) h) [
      | inl r ↦ elim (over_cases up.row up.directory up.name y now_child up.directory.stamp up.holds up.there w e r h) [
        | inl is ↦ inl is
        | inr deeper ↦ elim deeper [
          | inl s ↦ inr (inl s)
          | inr b ↦ inr (inr (itself Apart root w e (place_on root up.row w place_parent (beside_place up.row up.directory up.name w up.holds b)) h
              (λ is. no_loop full root next t up.row up.directory b.name b.row w e place_parent up.holds b.there b.place h (sym is))))
        ]
      ]
      | inr twin ↦ inr (inr twin)
    ]

    -- the directory above is stored as before
    pub parent_was : (w : Row) (e : Directory) → w ≡ now_row → e ≡ now_parent → Was root w e
    parent_was w e is dir =
        let b = top_was up.row up.directory up.name y now_child up.directory.stamp up.holds up.there w e refl refl refl is dir in
        record {
          row = b.row;
          directory = b.directory;
          place = place_on root up.row b.row place_parent b.place;
          holds = b.holds;
          number = b.number;
          kind = b.kind;
          origin = b.origin;
          mark = b.mark;
          listing = b.listing;
        }

    -- what was loaded stood in the old entry, or still is
    pub back : (w : Row) (e : Directory) → Place root w → child_of w ≡ Some e → Place y w ⊎ Back table w.number
    back w e q h = elim (back_at up.row up.directory now_parent up.holds up.front root up.at w e q h) [
      | inl r ↦ elim (level_back up.row up.directory up.name y now_child up.directory.stamp up.holds up.there (λ c. Place y c) (λ c f s k. inl s) w e r h) [
        | inl s ↦ inl s
        | inr k ↦ inr (record { row = k.row; directory = k.directory; place = place_on table now_row k.row at_row k.place; holds = k.holds; number = k.number })
      ]
      | inr k ↦ inr (subst (λ c. Back c w.number) (sym table_is) k)
    ]
