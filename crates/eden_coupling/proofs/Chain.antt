-- Directories that become their own, from the lowest up.
use Rattle.std.proofs.Common.{◌≡◌, ◌≢◌, ◌⊎◌, ℕ, true, false, List, [], ◌∷◌, Some, None, Contains, refl, sym, ap, ◌∙◌, subst, inl, inr, arith}
use Rattle.std.specs.Option.{option_map, option_and_then}
use Rattle.std.proofs.lemmas.Option.{same_Some, none-some}
use Rattle.eden_model.specs.declared.kind.Kind.TheVariants as kind
use Rattle.eden_model.specs.declared.kind.Origin.TheVariants as origin
use Rattle.eden_model.specs.Trees.{Name, Path}
use Rattle.eden_overlay_format.specs.declared.stored_entry.StoredEntry.{StoredEntry}
use Rattle.eden_overlay_format.specs.Directory.{AreStorable}
use Rattle.eden_overlay.specs.Files.{Stored}
use Rattle.eden_overlay.specs.Held.{HoldsEntries, with_entries, root_file}
use Rattle.eden_overlay.proofs.CallerLemmas.{same_or_apart, kind_moved, apart, entries_held, numbers_from_two, root_same}
use Rattle.eden_tree.specs.Directory.{Row, Directory, child_of, with_child}
use Rattle.eden_tree.specs.Rows.{find_row}
use Rattle.eden_tree.specs.Paths.{row_at, edit_row}
use Rattle.eden_tree.proofs.CallerLemmas.{child_of-with_child, edits_there}
use Rattle.eden_coupling.specs.Listings.{listing_of, Place, top, inside}
use Rattle.eden_coupling.specs.Laws.{owned, with_owned, ChildrenTied, StraysTied, RootTied}
use Rattle.eden_coupling.specs.Ties.{SameFile, IsStoredAs, Fits, Ties}
use Rattle.eden_coupling.proofs.Rows.{and_then_some, by_child}
use Rattle.eden_coupling.proofs.Edits.{find_set}
use Rattle.eden_coupling.proofs.Places.{one_loaded}
use Rattle.eden_coupling.proofs.Follows.{held_moved, below_top, place_cases, Follows, Kept, AreAlike, follows_up, follows_at, follows_owned, kept_fits, kept_ties}

-- ---- the entry at a path

pub place_at : (p : Path) (x y : Row) → row_at p x ≡ Some y → Place x y
place_at [] x y at = subst (λ (a : Row). Place x a) (same_Some x y at) top
place_at (n ∷ p) x y at =
    let one = and_then_some (λ (a : Directory). option_and_then (row_at p) (find_row n a.rows)) (child_of x) y at in
    let two = and_then_some (row_at p) (find_row n one.0.rows) y one.1.1 in
    below_top x two.0 y one.0 n one.1.0 two.1.0 (place_at p two.0 y two.1.1)

pub at_changed : (p : Path) (g : Row → Row) (x y : Row) → row_at p x ≡ Some y → row_at p (edit_row p g x) ≡ Some (g y)
at_changed p g x y at = edits_there p g x ∙ ap (option_map g) at

-- a change of what entries hold leaves the first one's origin
pub origin_kept : (p : Path) (g : Row → Row) (x : Row) → ((a : Row) → (g a).origin ≡ a.origin) → (edit_row p g x).origin ≡ x.origin
origin_kept [] g x same = same x
origin_kept (n ∷ p) g x same = refl

-- what is below a root that isn't loaded isn't
pub root_loaded : (x y : Row) (d : Directory) → Place x y → child_of y ≡ Some d → child_of x ≡ None → ⊥
root_loaded x y d p h none = elim (place_cases x y p) [
  | inl is ↦ none-some d (sym none ∙ ap child_of (sym is) ∙ h)
  | inr b ↦ none-some b.directory (sym none ∙ b.holds)
]

-- what is stored for a directory, where neither its file nor the directory differs
pub stored_moved : (F G : Stored) (j k : ℕ) (d e : Directory) → F k ≡ G k → j ≡ k → d.unsaved ≡ e.unsaved → listing_of d ≡ listing_of e → IsStoredAs F k e → IsStoredAs G j d
stored_moved F G j k d e is number mark listing s =
    subst (λ i. IsStoredAs G i d) (sym number)
    (record {
      entries = s.entries;
      held = held_moved F G k s.entries is s.held;
      some = λ f there. subst (λ (es : List StoredEntry). Contains es f) (sym listing) (s.some f there);
      all = λ saved. s.all (sym mark ∙ saved) ∙ sym listing;
    })

pub stored_new : (G : Stored) (k : ℕ) (d : Directory) → HoldsEntries G k (listing_of d) → IsStoredAs G k d
stored_new G k d h = record { entries = listing_of d; held = h; some = λ e there. there; all = λ saved. refl }

module _ (F full : Stored) (x : Row) (next : ℕ) (t : Ties F full x next) where
  -- the root, where its number is an entry's
  pub is_root : (y : Row) (d : Directory) → Place x y → child_of y ≡ Some d → y.number ≡ 1 → x ≡ y
  is_root y d p h one =
      by_child x (x ≡ y) (λ none. absurd (root_loaded x y d p h none))
      (λ e k. one_loaded full x next t.fits x y e d top k p h (t.fits.root ∙ sym one))

  -- ---- a child on the way becomes its own, once it is stored

  module _ (G : Stored) (p : Path) (y : Row) (d : Directory) (n : Name) (z : Row) (e : Directory)
      (at : row_at p x ≡ Some y) (holds : child_of y ≡ Some d) (there : find_row n d.rows ≡ Some z) (loaded : child_of z ≡ Some e)
      (filed : IsStoredAs F z.number e) where
    abbrev marked_directory : Directory
    marked_directory = with_owned d n z

    abbrev set_child : Row → Row
    set_child a = with_child (Some marked_directory) a

    abbrev marked_table : Row
    marked_table = edit_row p set_child x

    abbrev Changed : ℕ → Type 0
    Changed k = (k ≡ y.number) ⊎ (k ≡ z.number)

    follows : Follows 0 Changed x marked_table
    follows = follows_at 0 Changed p set_child x y at (follows_up 0 Changed y d n z (owned z) holds there (follows_owned 0 Changed z e loaded (inr refl)) false (inr (inl refl))) (inl refl)

    fits : Fits full marked_table next
    fits = kept_fits full x marked_table next 0 Changed t.fits follows

    place_y : Place marked_table (set_child y)
    place_y = place_at p marked_table (set_child y) (at_changed p set_child x y at)

    holds_y : child_of (set_child y) ≡ Some marked_directory
    holds_y = child_of-with_child (Some marked_directory) y

    place_z : Place marked_table (owned z)
    place_z = inside (set_child y) marked_directory n (owned z) place_y holds_y (find_set n z (owned z) d.rows there)

    -- a loaded directory of the new table is the changed one, or the child, or as it was
    data Which (w : Row) (a : Directory) : Type 0 where
      changed : w.number ≡ y.number → a ≡ marked_directory → Which w a
      child : w.number ≢ y.number → w ≡ owned z → a ≡ e → Which w a
      same : w.number ≢ y.number → (k : Kept Changed x w a) → AreAlike w a k.row k.directory → Which w a

    which : (w : Row) (a : Directory) → Place marked_table w → child_of w ≡ Some a → Which w a
    which w a q h = elim (same_or_apart w.number y.number) [
      | inl is ↦
          (let one = one_loaded full marked_table next fits w (set_child y) a marked_directory q h place_y holds_y is in
          changed is (same_Some a marked_directory (sym h ∙ ap child_of one ∙ holds_y)))
      | inr ne ↦ elim (same_or_apart w.number z.number) [
        | inl is ↦
            (let one = one_loaded full marked_table next fits w (owned z) a e q h place_z loaded is in
            child ne one (same_Some a e (sym h ∙ ap child_of one ∙ loaded)))
        | inr off ↦
            (let k = follows.kept w a q h in
            elim k.alike [
              | inl l ↦ same ne k l
              | inr c ↦ elim c [ inl is ↦ absurd (ne is) | inr is ↦ absurd (off is) ]
            ])
      ]
    ]

    marked_ties : ((k : ℕ) → k ≢ y.number → G k ≡ F k) → (y.origin ≡ origin.Own → HoldsEntries G y.number (listing_of marked_directory))
        → (y.origin ≢ origin.Own → y.number ≡ 1 → root_file G ≡ None) → Ties G full marked_table next
    marked_ties elsewhere mine unrooted = kept_ties F G full x marked_table next 0 Changed t follows
        (λ w a q h own. stored w a h own (which w a q h) (follows.kept w a q h) q)
        (λ w a q h unsaved. mark w a unsaved (which w a q h))
        (λ k away. elsewhere k (λ is. away y d (place_at p x y at) holds (sym is)))
        (λ c f r m own is. (let least = numbers_from_two full c f m in absurd (omega (arith, least, is))))
        (λ none. absurd (root_loaded marked_table (set_child y) marked_directory place_y holds_y none))
        (λ other. elim (same_or_apart y.number 1) [
          | inl is ↦ (let root = is_root y d (place_at p x y at) holds is in unrooted (λ own. other (kept_origin ∙ ap (λ (a : Row). a.origin) root ∙ own)) is)
          | inr ne ↦ root_same G F (elsewhere 1 (λ is. ne (sym is))) ∙ t.rootless (λ own. other (kept_origin ∙ own))
        ])
        (λ own. elim (same_or_apart y.number 1) [
          | inl is ↦
              (let root = is_root y d (place_at p x y at) holds is in
              let P : ℕ → Type 0 = λ k. HoldsEntries G k (listing_of marked_directory) in
              (listing_of marked_directory, subst P is (mine (ap (λ (a : Row). a.origin) (sym root) ∙ sym kept_origin ∙ own))))
          | inr ne ↦ kind_moved F G 1 kind.Dir (sym (elsewhere 1 (λ is. ne (sym is)))) (t.rooted (sym kept_origin ∙ own))
        ])
      where
        kept_origin : marked_table.origin ≡ x.origin
        kept_origin = origin_kept p set_child x (λ a. refl)

        stored : (w : Row) (a : Directory) → child_of w ≡ Some a → w.origin ≡ origin.Own → Which w a → Kept Changed x w a → Place marked_table w → IsStoredAs G w.number a
        stored w a h own (changed is dir) k q =
            let one = one_loaded full marked_table next fits w (set_child y) a marked_directory q h place_y holds_y is in
            let mine_own : y.origin ≡ origin.Own = ap (λ (b : Row). b.origin) (sym one) ∙ own in
            let P : ℕ → Type 0 = λ j. IsStoredAs G j a in
            let Q : Directory → Type 0 = λ b. IsStoredAs G y.number b in
            subst P (sym is) (subst Q (sym dir) (stored_new G y.number marked_directory (mine mine_own)))
        stored w a h own (child ne is dir) k q =
            let number : w.number ≡ z.number = ap (λ (b : Row). b.number) is in
            stored_moved F G w.number z.number a e (sym (elsewhere z.number (λ same. ne (number ∙ same)))) number (ap (λ (b : Directory). b.unsaved) dir) (ap listing_of dir) filed
        stored w a h own (same ne j l) k q =
            stored_moved F G w.number j.row.number a j.directory (sym (elsewhere j.row.number (λ is. ne (j.number ∙ is)))) j.number l.1.0 l.1.1
            (t.stored j.row j.directory j.place j.holds (sym l.0 ∙ own))

        mark : (w : Row) (a : Directory) → a.unsaved ≡ true → Which w a → w.origin ≡ origin.Own
        mark w a unsaved (changed is dir) = let both : false ≡ true = ap (λ (b : Directory). b.unsaved) (sym dir) ∙ unsaved in absurd (cc)
        mark w a unsaved (child ne is dir) = ap (λ (b : Row). b.origin) is
        mark w a unsaved (same ne j l) = l.0 ∙ t.marked j.row j.directory j.place j.holds (sym l.1.0 ∙ unsaved)

  -- ---- a directory that isn't its own may be stored: nothing shows it

  stray_ties : (y : Row) (d : Directory) (entries : List StoredEntry) → Place x y → child_of y ≡ Some d → y.origin ≢ origin.Own → y.number ≢ 1 → AreStorable entries
      → Ties (with_entries F y.number entries) full x next
  stray_ties y d entries p h other ne are = record {
    fits = t.fits;
    stored = λ w a q k own.
        (let off : y.number ≢ w.number = λ is. other (ap (λ (b : Row). b.origin) (one_loaded full x next t.fits y w d a p h q k is) ∙ own) in
        stored_moved F (with_entries F y.number entries) w.number w.number a a (sym (apart F y.number entries are w.number off)) refl refl refl (t.stored w a q k own));
    marked = t.marked;
    same = λ c e r n own away. same_at e.number (λ is. away y d p h is) (t.same c e r n own away);
    same_root = λ none. absurd (root_loaded x y d p h none);
    rootless = λ o. root_same (with_entries F y.number entries) F (apart F y.number entries are 1 ne) ∙ t.rootless o;
    rooted = λ o. kind_moved F (with_entries F y.number entries) 1 kind.Dir (sym (apart F y.number entries are 1 ne)) (t.rooted o);
  }
    where
      same_at : (k : ℕ) → y.number ≢ k → SameFile F full k → SameFile (with_entries F y.number entries) full k
      same_at k off (inl is) = inl (apart F y.number entries are k off ∙ is)
      same_at k off (inr s) = inr (s.0, (held_moved F (with_entries F y.number entries) k s.0 (sym (apart F y.number entries are k off)) s.1.0, s.1.1))

  -- ---- the root becomes its own, once file 1 is stored

  root_ties : (d : Directory) → child_of x ≡ Some d → x.origin ≢ origin.Own → d.unsaved ≡ false → AreStorable (listing_of d)
      → Ties (with_entries F 1 (listing_of d)) full (owned x) next
  root_ties d holds other saved are = kept_ties F (with_entries F 1 (listing_of d)) full x (owned x) next 0 (λ k. k ≡ 1) t f
      (λ w a q h own. stored w a q h own)
      (λ w a q h unsaved. mark w a q h unsaved)
      (λ k away. apart F 1 (listing_of d) are k (λ is. away x d top holds (t.fits.root ∙ is)))
      (λ c e r m own is. (let least = numbers_from_two full c e m in absurd (omega (arith, least, is))))
      (λ none. absurd (none-some d (sym none ∙ holds)))
      (λ no. absurd (no refl))
      (λ own. (listing_of d, entries_held F 1 (listing_of d) are))
    where
      f : Follows 0 (λ k. k ≡ 1) x (owned x)
      f = follows_owned 0 (λ k. k ≡ 1) x d holds t.fits.root

      fits : Fits full (owned x) next
      fits = kept_fits full x (owned x) next 0 (λ k. k ≡ 1) t.fits f

      is_top : (w : Row) (a : Directory) → Place (owned x) w → child_of w ≡ Some a → w.number ≡ 1 → w ≡ owned x
      is_top w a q h is = one_loaded full (owned x) next fits w (owned x) a d q h top holds (is ∙ sym t.fits.root)

      stored : (w : Row) (a : Directory) → Place (owned x) w → child_of w ≡ Some a → w.origin ≡ origin.Own → IsStoredAs (with_entries F 1 (listing_of d)) w.number a
      stored w a q h own = elim (same_or_apart 1 w.number) [
        | inl is ↦
            (let dir : a ≡ d = same_Some a d (sym h ∙ ap child_of (is_top w a q h (sym is)) ∙ holds) in
            let P : ℕ → Type 0 = λ j. IsStoredAs (with_entries F 1 (listing_of d)) j a in
            let Q : Directory → Type 0 = λ b. IsStoredAs (with_entries F 1 (listing_of d)) 1 b in
            subst P is (subst Q (sym dir) (stored_new (with_entries F 1 (listing_of d)) 1 d (entries_held F 1 (listing_of d) are))))
        | inr ne ↦
            (let k = f.kept w a q h in
            elim k.alike [
              | inl l ↦
                  stored_moved F (with_entries F 1 (listing_of d)) w.number k.row.number a k.directory
                  (sym (apart F 1 (listing_of d) are k.row.number (λ is. ne (is ∙ sym k.number)))) k.number l.1.0 l.1.1
                  (t.stored k.row k.directory k.place k.holds (sym l.0 ∙ own))
              | inr c ↦ absurd (ne (sym c))
            ])
      ]

      mark : (w : Row) (a : Directory) → Place (owned x) w → child_of w ≡ Some a → a.unsaved ≡ true → w.origin ≡ origin.Own
      mark w a q h unsaved =
          let k = f.kept w a q h in
          elim k.alike [
            | inl l ↦ l.0 ∙ t.marked k.row k.directory k.place k.holds (sym l.1.0 ∙ unsaved)
            | inr c ↦ ap (λ (b : Row). b.origin) (is_top w a q h c)
          ]

-- ---- the laws

pub children_tied : ChildrenTied
children_tied F full x next t G p y d n z e at holds there loaded filed elsewhere mine unrooted =
    marked_ties F full x next t G p y d n z e at holds there loaded filed elsewhere mine unrooted

pub strays_tied : StraysTied
strays_tied F full x next t y d entries p h other ne are = stray_ties F full x next t y d entries p h other ne are

pub root_tied : RootTied
root_tied F full x next t d holds other saved are = root_ties F full x next t d holds other saved are
