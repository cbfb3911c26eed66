-- A table changed at a path, and what stays tied.
use Rattle.std.proofs.Common.{◌≡◌, ◌≢◌, ◌⊎◌, ℕ, Bool, true, false, List, [], ◌∷◌, Some, None, refl, sym, ap, ◌∙◌, subst, inl, inr}
use Rattle.std.specs.Str.{bytes_eq}
use Rattle.std.specs.Option.{option_and_then}
use Rattle.std.proofs.lemmas.Option.{same_Some}
use Rattle.eden_model.specs.declared.kind.Kind.TheVariants as kind
use Rattle.eden_model.specs.declared.kind.Origin.TheVariants as origin
use Rattle.eden_model.specs.Trees.{Name, Path}
use Rattle.eden_overlay_format.specs.declared.stored_entry.StoredEntry.{StoredEntry}
use Rattle.eden_overlay_format.specs.Values.{entries_in}
use Rattle.eden_overlay.specs.Files.{Stored}
use Rattle.eden_overlay.specs.Held.{HoldsEntries, root_file}
use Rattle.eden_overlay.specs.Soundness.{Names, IsLive, HoldsKind}
use Rattle.eden_overlay.proofs.CallerLemmas.{same_or_apart, moved as moved_to}
use Rattle.eden_tree.specs.Directory.{Row, Directory, child_of, with_child}
use Rattle.eden_tree.specs.Rows.{find_row, set_row}
use Rattle.eden_tree.specs.Paths.{row_at, edit_row}
use Rattle.eden_tree.proofs.CallerLemmas.{same-≡, child_of-with_child, steps_back}
use Rattle.eden_coupling.specs.Listings.{stored_entry, full_entry, own_if_loaded, listing_of, full_listing, Place, top, inside}
use Rattle.eden_coupling.specs.Laws.{owned}
use Rattle.eden_coupling.specs.Ties.{IsAway, SameFile, IsStoredAs, Fits, Ties}
use Rattle.eden_coupling.proofs.Rows.{and_then_some, own_loaded, own_full}
use Rattle.eden_coupling.proofs.Edits.{find_set, find_other, map_set}

-- equal files hold the same entries
pub held_moved : (F G : Stored) (k : ℕ) (es : List StoredEntry) → F k ≡ G k → HoldsEntries F k es → HoldsEntries G k es
held_moved F G k es is h = moved_to entries_in (F k) (G k) es is h

-- ---- places, the first step first

pub below_top : (x y w : Row) (d : Directory) (n : Name) → child_of x ≡ Some d → find_row n d.rows ≡ Some y → Place y w → Place x w
below_top x y w d n h f top = inside x d n y top h f
below_top x y w d n h f (inside v e m u p k g) = inside v e m w (below_top x y v d n h f p) k g

-- w stands at or below an entry of the directory that x holds
pub record Below (x w : Row) : Type 0 where
  pub directory : Directory
  pub name : Name
  pub row : Row
  pub holds : child_of x ≡ Some directory
  pub there : find_row name directory.rows ≡ Some row
  pub place : Place row w

pub place_cases : (x w : Row) → Place x w → (w ≡ x) ⊎ Below x w
place_cases x w top = inl refl
place_cases x w (inside v e m u p k g) = elim (place_cases x v p) [
  | inl is ↦ inr (record { directory = e; name = m; row = w; holds = ap child_of (sym is) ∙ k; there = g; place = top })
  | inr b ↦ inr (record { directory = b.directory; name = b.name; row = b.row; holds = b.holds; there = b.there; place = inside v e m w b.place k g })
]

-- w with its directory d is of the origin, the mark and the listing that y has with e
abbrev pub AreAlike : Row → Directory → Row → Directory → Type 0
AreAlike w d y e = (w.origin ≡ y.origin) × ((d.unsaved ≡ e.unsaved) × (listing_of d ≡ listing_of e))

-- a loaded directory of a new table, as the old one had it; where its number is in C its listing, its mark and its origin
-- may differ
pub record Kept (C : ℕ → Type 0) (x w : Row) (d : Directory) : Type 0 where
  pub row : Row
  pub directory : Directory
  pub place : Place x row
  pub holds : child_of row ≡ Some directory
  pub number : w.number ≡ row.number
  pub kind : w.kind ≡ row.kind
  pub full : full_listing d ≡ full_listing directory
  pub alike : AreAlike w d row directory ⊎ C w.number

-- a loaded directory of that number, in the entry v
pub record Back (v : Row) (k : ℕ) : Type 0 where
  pub row : Row
  pub directory : Directory
  pub place : Place v row
  pub holds : child_of row ≡ Some directory
  pub number : row.number ≡ k

-- ---- one entry follows another: what is loaded in the new one was loaded in the old, under the same numbers and as
-- large in full, and all but the directory of the number `gone` still is; in those whose numbers are in C the listing
-- and the mark may differ, and the origin
pub record Follows (gone : ℕ) (C : ℕ → Type 0) (x v : Row) : Type 0 where
  pub number : v.number ≡ x.number
  pub kind : v.kind ≡ x.kind
  pub full : own_if_loaded v.child v.origin ≡ own_if_loaded x.child x.origin
  pub kept : (w : Row) (d : Directory) → Place v w → child_of w ≡ Some d → Kept C x w d
  pub back : (w : Row) (d : Directory) → Place x w → child_of w ≡ Some d → (w.number ≡ gone) ⊎ Back v w.number

module _ (gone : ℕ) (C : ℕ → Type 0) where
  pub itself : (x w : Row) (d : Directory) → Place x w → child_of w ≡ Some d → Kept C x w d
  itself x w d p h = record { row = w; directory = d; place = p; holds = h; number = refl; kind = refl; full = refl; alike = inl (refl, (refl, refl)) }

  -- the directory above, with the new entry in the place of the old
  module _ (x : Row) (d : Directory) (n : Name) (z v : Row) (holds : child_of x ≡ Some d) (there : find_row n d.rows ≡ Some z)
      (f : Follows gone C z v) (mark : Bool) (listed : ((v.origin ≡ z.origin) × (mark ≡ d.unsaved)) ⊎ C x.number) where
    abbrev new : Directory
    new = record d { rows = set_row n v d.rows; unsaved = mark }

    abbrev pub up : Row
    up = with_child (Some new) x

    now_holds : child_of up ≡ Some new
    now_holds = child_of-with_child (Some new) x

    entry_full : full_entry (n, v) ≡ full_entry (n, z)
    entry_full =
        ap (λ k. record { name = n; kind = k; origin = own_if_loaded v.child v.origin; number = v.number }) f.kind
        ∙ ap (λ o. record { name = n; kind = z.kind; origin = o; number = v.number }) f.full
        ∙ ap (λ k. record { name = n; kind = z.kind; origin = own_if_loaded z.child z.origin; number = k }) f.number

    entry_stored : v.origin ≡ z.origin → stored_entry (n, v) ≡ stored_entry (n, z)
    entry_stored o =
        ap (λ k. record { name = n; kind = k; origin = v.origin; number = v.number }) f.kind
        ∙ ap (λ o. record { name = n; kind = z.kind; origin = o; number = v.number }) o
        ∙ ap (λ k. record { name = n; kind = z.kind; origin = z.origin; number = k }) f.number

    kept_top : Kept C x up new
    kept_top = record {
      row = x;
      directory = d;
      place = top;
      holds = holds;
      number = refl;
      kind = refl;
      full = map_set full_entry n z v d.rows there entry_full;
      alike = elim listed [ inl o ↦ inl (refl, (o.1, map_set stored_entry n z v d.rows there (entry_stored o.0))) | inr c ↦ inr c ];
    }

    lift_kept : (w : Row) (e : Directory) → Kept C z w e → Kept C x w e
    lift_kept w e k = record {
      row = k.row;
      directory = k.directory;
      place = below_top x z k.row d n holds there k.place;
      holds = k.holds;
      number = k.number;
      kind = k.kind;
      full = k.full;
      alike = k.alike;
    }

    kept_below : (w : Row) (e : Directory) (m : Name) (u : Row) → find_row m (set_row n v d.rows) ≡ Some u → Place u w → child_of w ≡ Some e → Kept C x w e
    kept_below w e m u g p h = elim (bytes_eq m n) as (λ b. bytes_eq m n ≡ b → Kept C x w e) [
      | true ↦ λ s.
          (let was : find_row n (set_row n v d.rows) ≡ Some u = ap (λ a. find_row a (set_row n v d.rows)) (sym (same-≡ m n s)) ∙ g in
          let is : v ≡ u = same_Some v u (sym (find_set n z v d.rows there) ∙ was) in
          lift_kept w e (f.kept w e (subst (λ a. Place a w) (sym is) p) h))
      | false ↦ λ s.
          (let was : find_row m d.rows ≡ Some u = sym (find_other m n v d.rows s) ∙ g in
          itself x w e (below_top x u w d m holds was p) h)
    ] refl

    kept_up : (w : Row) (e : Directory) → Place up w → child_of w ≡ Some e → Kept C x w e
    kept_up w e p h = elim (place_cases up w p) [
      | inl is ↦
          (let same : new ≡ e = same_Some new e (sym now_holds ∙ ap child_of (sym is) ∙ h) in
          subst (λ a. Kept C x w a) same (subst (λ a. Kept C x a new) (sym is) kept_top))
      | inr b ↦
          (let same : b.directory ≡ new = same_Some b.directory new (sym b.holds ∙ now_holds) in
          kept_below w e b.name b.row (ap (λ (a : Directory). find_row b.name a.rows) (sym same) ∙ b.there) b.place h)
    ]

    back_below : (w : Row) (e : Directory) (m : Name) (u : Row) → find_row m d.rows ≡ Some u → Place u w → child_of w ≡ Some e → (w.number ≡ gone) ⊎ Back up w.number
    back_below w e m u g p h = elim (bytes_eq m n) as (λ b. bytes_eq m n ≡ b → (w.number ≡ gone) ⊎ Back up w.number) [
      | true ↦ λ s.
          (let is : z ≡ u = same_Some z u (sym there ∙ ap (λ a. find_row a d.rows) (sym (same-≡ m n s)) ∙ g) in
          elim (f.back w e (subst (λ a. Place a w) (sym is) p) h) [
            | inl l ↦ inl l
            | inr k ↦
                (let at = below_top up v k.row new n now_holds (find_set n z v d.rows there) k.place in
                inr (record { row = k.row; directory = k.directory; place = at; holds = k.holds; number = k.number }))
          ])
      | false ↦ λ s. inr (record { row = w; directory = e; place = below_top up u w new m now_holds (find_other m n v d.rows s ∙ g) p; holds = h; number = refl })
    ] refl

    back_up : (w : Row) (e : Directory) → Place x w → child_of w ≡ Some e → (w.number ≡ gone) ⊎ Back up w.number
    back_up w e p h = elim (place_cases x w p) [
      | inl is ↦ inr (record { row = up; directory = new; place = top; holds = now_holds; number = ap (λ (a : Row). a.number) (sym is) })
      | inr b ↦
          (let same : b.directory ≡ d = same_Some b.directory d (sym b.holds ∙ holds) in
          back_below w e b.name b.row (ap (λ (a : Directory). find_row b.name a.rows) (sym same) ∙ b.there) b.place h)
    ]

    pub follows_up : Follows gone C x up
    follows_up = record {
      number = refl;
      kind = refl;
      full = own_loaded up new now_holds ∙ sym (own_loaded x d holds);
      kept = kept_up;
      back = back_up;
    }

  -- along a path: the entry at its end follows, with its origin, or its directory is in C
  pub follows_at : (p : Path) (g : Row → Row) (x y : Row) → row_at p x ≡ Some y → Follows gone C y (g y) → ((g y).origin ≡ y.origin) ⊎ ((k : ℕ) → C k)
      → Follows gone C x (edit_row p g x)
  follows_at [] g x y at f o = subst (λ (a : Row). Follows gone C a (g a)) (sym (same_Some x y at)) f
  follows_at (n ∷ p) g x y at f o =
      let one = and_then_some (λ (a : Directory). option_and_then (row_at p) (find_row n a.rows)) (child_of x) y at in
      let two = and_then_some (row_at p) (find_row n one.0.rows) y one.1.1 in
      let z = two.0 in
      let v = edit_row p g z in
      let below = follows_at p g z y two.1.1 f o in
      let as_was = origin_at p g z y two.1.1 o x one.0.unsaved in
      let P : Row → Type 0 = λ a. Follows gone C x a in
      subst P (steps_back n p g x z one.0 one.1.0 two.1.0) (follows_up x one.0 n z v one.1.0 two.1.0 below one.0.unsaved as_was)
    where
      origin_at : (p : Path) (g : Row → Row) (z y : Row) → row_at p z ≡ Some y → ((g y).origin ≡ y.origin) ⊎ ((k : ℕ) → C k) → (x : Row) (b : Bool)
          → (((edit_row p g z).origin ≡ z.origin) × (b ≡ b)) ⊎ C x.number
      origin_at [] g z y at (inl same) x b = inl (subst (λ (a : Row). (g a).origin ≡ a.origin) (sym (same_Some z y at)) same, refl)
      origin_at [] g z y at (inr c) x b = inr (c x.number)
      origin_at (m ∷ q) g z y at o x b = inl (refl, refl)

  -- one after the other
  pub follows_on : (x v u : Row) → Follows gone C x v → Follows gone C v u → Follows gone C x u
  follows_on x v u f g = record {
    number = g.number ∙ f.number;
    kind = g.kind ∙ f.kind;
    full = g.full ∙ f.full;
    kept = λ w d p h. both w d (g.kept w d p h);
    back = λ w d p h. elim (f.back w d p h) [
      | inl l ↦ inl l
      | inr b ↦ elim (g.back b.row b.directory b.place b.holds) [
        | inl l ↦ inl (sym b.number ∙ l)
        | inr a ↦ inr (record { row = a.row; directory = a.directory; place = a.place; holds = a.holds; number = a.number ∙ b.number })
      ]
    ];
  }
    where
      alike : (w : Row) (d : Directory) (k : Kept C v w d) (j : Kept C x k.row k.directory) → AreAlike w d j.row j.directory ⊎ C w.number
      alike w d k j = elim k.alike [
        | inr c ↦ inr c
        | inl a ↦ elim j.alike [
          | inr c ↦ inr (subst C (sym k.number) c)
          | inl b ↦ inl (a.0 ∙ b.0, (a.1.0 ∙ b.1.0, a.1.1 ∙ b.1.1))
        ]
      ]

      both : (w : Row) (d : Directory) → Kept C v w d → Kept C x w d
      both w d k =
          let j = f.kept k.row k.directory k.place k.holds in
          record {
            row = j.row;
            directory = j.directory;
            place = j.place;
            holds = j.holds;
            number = k.number ∙ j.number;
            kind = k.kind ∙ j.kind;
            full = k.full ∙ j.full;
            alike = alike w d k j;
          }

  -- a loaded entry that becomes its own
  pub follows_owned : (z : Row) (d : Directory) → child_of z ≡ Some d → C z.number → Follows gone C z (owned z)
  follows_owned z d holds c = record {
    number = refl;
    kind = refl;
    full = own_full (owned z) refl ∙ sym (own_loaded z d holds);
    kept = λ w e p h. elim (place_cases (owned z) w p) [
      | inl is ↦
          (let number : w.number ≡ z.number = ap (λ (a : Row). a.number) is in record {
            row = z;
            directory = e;
            place = top;
            holds = ap child_of (sym is) ∙ h;
            number = number;
            kind = ap (λ (a : Row). a.kind) is;
            full = refl;
            alike = inr (subst C (sym number) c);
          })
      | inr b ↦ itself z w e (below_top z b.row w b.directory b.name b.holds b.there b.place) h
    ];
    back = λ w e p h. elim (place_cases z w p) [
      | inl is ↦ inr (record { row = owned z; directory = e; place = top; holds = ap child_of (sym is) ∙ h; number = ap (λ (a : Row). a.number) (sym is) })
      | inr b ↦ inr (record { row = w; directory = e; place = below_top (owned z) b.row w b.directory b.name b.holds b.there b.place; holds = h; number = refl })
    ];
  }

-- ---- and then the tie is kept

module _ (full : Stored) (x v : Row) (next gone : ℕ) (C : ℕ → Type 0) (t : Fits full x next) (f : Follows gone C x v) where
  pub kept_fits : Fits full v next
  kept_fits = record {
    root = f.number ∙ t.root;
    sound = t.sound;
    below = t.below;
    is_dir = λ w d p h. (let k = f.kept w d p h in k.kind ∙ t.is_dir k.row k.directory k.place k.holds);
    held = λ w d p h.
        (let k = f.kept w d p h in
        let P : ℕ → Type 0 = λ j. HoldsEntries full j (full_listing d) in
        let Q : List StoredEntry → Type 0 = λ es. HoldsEntries full k.row.number es in
        subst P (sym k.number) (subst Q (sym k.full) (t.held k.row k.directory k.place k.holds)));
  }

module _ (F G full : Stored) (x v : Row) (next gone : ℕ) (C : ℕ → Type 0) (t : Ties F full x next) (f : Follows gone C x v) where
  -- Where G is as F but at loaded directories: what remains to be shown is that the loaded directories are stored and
  -- marked as they should, what became of the directory that went, and file 1.
  pub kept_ties : ((w : Row) (d : Directory) → Place v w → child_of w ≡ Some d → w.origin ≡ origin.Own → IsStoredAs G w.number d)
      → ((w : Row) (d : Directory) → Place v w → child_of w ≡ Some d → d.unsaved ≡ true → w.origin ≡ origin.Own)
      → ((k : ℕ) → IsAway x k → G k ≡ F k)
      → ((c : ℕ) (e : StoredEntry) → IsLive full c → Names full c e → e.origin ≡ origin.Own → e.number ≡ gone → SameFile G full e.number)
      → (child_of v ≡ None → SameFile G full 1) → (v.origin ≢ origin.Own → root_file G ≡ None) → (v.origin ≡ origin.Own → HoldsKind G 1 kind.Dir)
      → Ties G full v next
  kept_ties stored marked files went same_root rootless rooted = record {
    fits = kept_fits full x v next gone C t.fits f;
    stored = stored;
    marked = marked;
    same = λ c e r n own away. elim (same_or_apart e.number gone) [
      | inl is ↦ went c e r n own is
      | inr ne ↦
          (let off : IsAway x e.number = λ w d p h is. still w d p h e.number is away ne in
          moved e.number (files e.number off) (t.same c e r n own off))
    ];
    same_root = same_root;
    rootless = rootless;
    rooted = rooted;
  }
    where
      still : (w : Row) (d : Directory) → Place x w → child_of w ≡ Some d → (k : ℕ) → w.number ≡ k → IsAway v k → k ≢ gone → ⊥
      still w d p h k is away ne = elim (f.back w d p h) [
        | inl g ↦ ne (sym is ∙ g)
        | inr b ↦ away b.row b.directory b.place b.holds (b.number ∙ is)
      ]

      moved : (k : ℕ) → G k ≡ F k → SameFile F full k → SameFile G full k
      moved k is (inl same) = inl (is ∙ same)
      moved k is (inr s) = inr (s.0, (held_moved F G k s.0 (sym is) s.1.0, s.1.1))
