-- A directory of its own that goes, and that its files and the table stay tied.
use Rattle.std.proofs.Common.{◌≡◌, ◌≢◌, ◌+◌, ℕ, suc, Bool, true, false, List, [], ◌∷◌, map, get_or, Some, None, Contains, refl, sym, ap, ◌∙◌, subst, inl, inr, arith}
use Rattle.std.proofs.lemmas.Option.{same_Some}
use Rattle.eden_model.specs.declared.kind.Kind.TheVariants as kind
use Rattle.eden_model.specs.declared.kind.Origin.TheVariants as origin
use Rattle.eden_model.specs.Trees.{Name, Path}
use Rattle.eden_model.specs.Named.{AreRising}
use Rattle.eden_overlay_format.specs.declared.stored_entry.StoredEntry.{StoredEntry}
use Rattle.eden_overlay_format.specs.Directory.{AreStorable}
use Rattle.eden_overlay.specs.Files.{Stored}
use Rattle.eden_overlay.specs.Held.{HoldsEntries, with_entries}
use Rattle.eden_overlay.proofs.CallerLemmas.{same_or_apart, kind_moved, apart, entries_held, root_same}
use Rattle.eden_tree.specs.Directory.{Row, Directory, child_of, with_child}
use Rattle.eden_tree.specs.Rows.{find_row}
use Rattle.eden_tree.specs.Paths.{row_at, edit_row}
use Rattle.eden_tree.proofs.CallerLemmas.{find_row-Contains}
use Rattle.eden_coupling.specs.Listings.{stored_entry, full_entry, listing_of, full_listing, Place, top}
use Rattle.eden_coupling.specs.Laws.{GoesTied}
use Rattle.eden_coupling.specs.Ties.{SameFile, IsStoredAs, Ties}
use Rattle.eden_coupling.specs.Unloading.{HasNoneInside, Goes}
use Rattle.eden_coupling.proofs.Rows.{by_child, own_loaded, entry_as_is}
use Rattle.eden_coupling.proofs.Places.{one_loaded, rising_of}
use Rattle.eden_coupling.proofs.Follows.{place_cases, Follows, Kept, AreAlike, follows_at, kept_ties}
use Rattle.eden_coupling.proofs.Chain.{place_at, origin_kept, root_loaded, stored_moved, stored_new, is_root}

-- with none inside, the full listing is the listing
bare_entries : (es : List (Name × Row)) → ((e : Name × Row) → Contains es e → child_of e.1 ≡ None) → map full_entry es ≡ map stored_entry es
bare_entries [] h = refl
bare_entries (e ∷ es) h =
    ap (λ s. s ∷ map full_entry es) (entry_as_is e.0 e.1 (h e (0, omega arith, refl)))
    ∙ ap (λ l. stored_entry e ∷ l) (bare_entries es (λ f there. h f (let within = there.1 in (there.0 + 1, omega (arith, within), later e es f there))))
  where
    later : (e : Name × Row) (es : List (Name × Row)) (f : Name × Row) (there : Contains es f) → get_or (e ∷ es) (there.0 + 1) f ≡ f
    later e es f there = ap (λ k. get_or (e ∷ es) k f) {x = there.0 + 1} {y = suc there.0} (omega arith) ∙ there.2

pub bare_listing : (d : Directory) → AreRising (λ r. r.0) d.rows → HasNoneInside d → full_listing d ≡ listing_of d
bare_listing d rising none = bare_entries d.rows (λ e there. none e.0 e.1 (find_row-Contains e.0 d.rows e.1 rising there))

-- none of the directories differs
abbrev Nowhere : ℕ → Type 0
Nowhere k = ⊥

-- an own leaf follows as an entry that isn't loaded
leaf_follows : (y : Row) (d : Directory) → child_of y ≡ Some d → y.origin ≡ origin.Own → HasNoneInside d → Follows y.number Nowhere y (with_child None y)
leaf_follows y d h own none = record {
  number = refl;
  kind = refl;
  full = own ∙ sym (own_loaded y d h);
  kept = λ w e p k. absurd (root_loaded (with_child None y) w e p k refl);
  back = λ w e p k. elim (place_cases y w p) [
    | inl is ↦ inl (ap (λ (a : Row). a.number) is)
    | inr b ↦
        (let same : b.directory ≡ d = same_Some b.directory d (sym b.holds ∙ h) in
        absurd (root_loaded b.row w e b.place k (none b.name b.row (ap (λ (a : Directory). find_row b.name a.rows) (sym same) ∙ b.there))))
  ];
}

module _ (F G full : Stored) (x : Row) (next : ℕ) (t : Ties F full x next) (p : Path) (y : Row) (d : Directory)
    (at : row_at p x ≡ Some y) (holds : child_of y ≡ Some d) (own : y.origin ≡ origin.Own) (leaf : HasNoneInside d)
    (elsewhere : (k : ℕ) → k ≢ y.number → G k ≡ F k) (mine : HoldsEntries G y.number (listing_of d)) where
  abbrev left : Row
  left = edit_row p (with_child None) x

  place : Place x y
  place = place_at p x y at

  follows : Follows y.number Nowhere x left
  follows = follows_at y.number Nowhere p (with_child None) x y at (leaf_follows y d holds own leaf) (inl refl)

  alike_full : full_listing d ≡ listing_of d
  alike_full = bare_listing d (rising_of full x next t.fits y d place holds) leaf

  mine_full : SameFile G full y.number
  mine_full = inr (listing_of d, (mine, (let Q : List StoredEntry → Type 0 = λ es. HoldsEntries full y.number es in subst Q alike_full (t.fits.held y d place holds))))

  of_alike : (w : Row) (a : Directory) (k : Kept Nowhere x w a) → AreAlike w a k.row k.directory
  of_alike w a k = elim k.alike [ inl l ↦ l | inr c ↦ absurd c ]

  stored : (w : Row) (a : Directory) → Place left w → child_of w ≡ Some a → w.origin ≡ origin.Own → IsStoredAs G w.number a
  stored w a q h mine_own =
      let k = follows.kept w a q h in
      let l = of_alike w a k in
      elim (same_or_apart k.row.number y.number) [
        | inl is ↦
            (let one : k.row ≡ y = one_loaded full x next t.fits k.row y k.directory d k.place k.holds place holds is in
            let dir : k.directory ≡ d = same_Some k.directory d (sym k.holds ∙ ap child_of one ∙ holds) in
            let listed : listing_of a ≡ listing_of d = l.1.1 ∙ ap listing_of dir in
            let P : ℕ → Type 0 = λ j. HoldsEntries G j (listing_of a) in
            let Q : List StoredEntry → Type 0 = λ es. HoldsEntries G y.number es in
            stored_new G w.number a (subst P (sym (k.number ∙ is)) (subst Q (sym listed) mine)))
        | inr ne ↦
            stored_moved F G w.number k.row.number a k.directory (sym (elsewhere k.row.number ne)) k.number l.1.0 l.1.1
            (t.stored k.row k.directory k.place k.holds (sym l.0 ∙ mine_own))
      ]

  same_origin : left.origin ≡ x.origin
  same_origin = origin_kept p (with_child None) x (λ a. refl)

  root_gone : child_of left ≡ None → y.number ≡ 1
  root_gone none =
      by_child x (y.number ≡ 1) (λ shut. absurd (root_loaded x y d place holds shut))
      (λ e h. elim (follows.back x e top h) [
        | inl is ↦ sym is ∙ t.fits.root
        | inr b ↦ absurd (root_loaded left b.row b.directory b.place b.holds none)
      ])

  pub gone_ties : Ties G full left next
  gone_ties = kept_ties F G full x left next y.number Nowhere t follows
      stored
      (λ w a q h unsaved. (let k = follows.kept w a q h in let l = of_alike w a k in l.0 ∙ t.marked k.row k.directory k.place k.holds (sym l.1.0 ∙ unsaved)))
      (λ k away. elsewhere k (λ is. away y d place holds (sym is)))
      (λ c e r n o is. (let P : ℕ → Type 0 = λ k. SameFile G full k in subst P (sym is) mine_full))
      (λ none. (let P : ℕ → Type 0 = λ k. SameFile G full k in subst P (root_gone none) mine_full))
      (λ other. elim (same_or_apart 1 y.number) [
        | inl is ↦ (let root = is_root F full x next t y d place holds (sym is) in absurd (other (same_origin ∙ ap (λ (a : Row). a.origin) root ∙ own)))
        | inr ne ↦ root_same G F (elsewhere 1 ne) ∙ t.rootless (λ o. other (same_origin ∙ o))
      ])
      (λ o. elim (same_or_apart 1 y.number) [
        | inl is ↦ (let P : ℕ → Type 0 = λ k. HoldsEntries G k (listing_of d) in (listing_of d, subst P (sym is) mine))
        | inr ne ↦ kind_moved F G 1 kind.Dir (sym (elsewhere 1 ne)) (t.rooted (sym same_origin ∙ o))
      ])

-- of its own, what goes as unloading has it leaves the table tied
module _ (clock age next : ℕ) (F G full : Stored) (x z : Row) (t : Ties F full x next) (g : Goes (Unit {0}) clock age F x G z)
    (own : g.row.origin ≡ origin.Own) (are : AreStorable (listing_of g.directory)) where
  place_y : Place x g.row
  place_y = place_at g.path x g.row g.at

  -- the files elsewhere, and its own: where the directory was marked it was stored
  saved_or : (b : Bool) → g.directory.unsaved ≡ b → ((k : ℕ) → k ≢ g.row.number → G k ≡ F k) × HoldsEntries G g.row.number (listing_of g.directory)
  saved_or false is =
      let s = t.stored g.row g.directory place_y g.holds own in
      let same : G ≡ F = g.saved tt is in
      let P : Stored → Type 0 = λ H. HoldsEntries H g.row.number (listing_of g.directory) in
      let Q : List StoredEntry → Type 0 = λ es. HoldsEntries F g.row.number es in
      ((λ k ne. ap (λ (H : Stored). H k) same), subst P (sym same) (subst Q (s.all is) s.held))
  saved_or true is =
      let same : G ≡ with_entries F g.row.number (listing_of g.directory) = g.stored tt is in
      let P : Stored → Type 0 = λ H. HoldsEntries H g.row.number (listing_of g.directory) in
      let elsewhere : (k : ℕ) → k ≢ g.row.number → G k ≡ F k = λ k ne. ap (λ (H : Stored). H k) same ∙ apart F g.row.number (listing_of g.directory) are k (λ e. ne (sym e)) in
      (elsewhere, subst P (sym same) (entries_held F g.row.number (listing_of g.directory) are))

  goes_ties : Ties G full z next
  goes_ties =
      let s = saved_or g.directory.unsaved refl in
      let P : Row → Type 0 = λ v. Ties G full v next in
      subst P (sym g.gone) (gone_ties F G full x next t g.path g.row g.directory g.at g.holds own g.none_inside s.0 s.1)

pub goes_tied : GoesTied
goes_tied clock age next F G full x z t g own are = goes_ties clock age next F G full x z t g own are
