-- A directory that was unsaved, and is stored again.
use Rattle.std.proofs.Common.{◌≡◌, ◌≢◌, ℕ, Bool, true, false, List, [], ◌∷◌, ◌++◌, Option, Some, None, inl, inr, refl, ap, sym, ◌∙◌, subst, arith}
use Rattle.std.specs.Option.{option_map, option_and_then}
use Rattle.std.proofs.lemmas.Option.{same_Some}
use Rattle.eden_model.specs.declared.kind.Kind.TheVariants as kind
use Rattle.eden_model.specs.declared.kind.Origin.TheVariants as origin
use Rattle.eden_model.specs.Paths.{behind_of}
use Rattle.eden_model.specs.Repository.{Repository, no_files}
use Rattle.eden_model.specs.Trees.{Path, grafted}
use Rattle.eden_model.proofs.CallerLemmas.{behind_sound}
use Rattle.eden_overlay_format.specs.Directory.{AreStorable}
use Rattle.eden_overlay.specs.Files.{Stored}
use Rattle.eden_overlay.specs.Held.{HoldsEntries, with_entries}
use Rattle.eden_overlay.proofs.CallerLemmas.{same_or_apart, kind_moved, apart, entries_held, numbers_from_two, root_same}
use Rattle.eden_tree.specs.Directory.{Row, Directory, child_of, with_child}
use Rattle.eden_tree.specs.Rows.{find_row}
use Rattle.eden_tree.specs.Paths.{row_at, Standing, standing, standing_at}
use Rattle.eden_tree.proofs.CallerLemmas.{child_of-with_child, reads_on, edits_one}
use Rattle.eden_coupling.specs.Chains.{IsUnsavedAt, NoneMarked}
use Rattle.eden_coupling.specs.Changing.{with_listing}
use Rattle.eden_coupling.specs.Kept.{IsTable, IsKept}
use Rattle.eden_coupling.specs.Listings.{listing_of, full_listing, Place, top}
use Rattle.eden_coupling.specs.Saving.{saved, Saves, unmarked, AreAlikeUnmarked, SavesTable, SavesKept, SavesAlike, SavesMarks, SavesUnmarked}
use Rattle.eden_coupling.specs.Shown.{shown_in}
use Rattle.eden_coupling.specs.Ties.{IsStoredAs, Fits, Ties}
use Rattle.eden_coupling.proofs.Rows.{own_loaded}
use Rattle.eden_coupling.proofs.Places.{one_loaded}
use Rattle.eden_coupling.proofs.Follows.{below_top, place_cases, Follows, itself, follows_at, kept_fits, kept_ties}
use Rattle.eden_coupling.proofs.Chain.{place_at, at_changed, origin_kept, root_loaded, stored_moved, stored_new, is_root}
use Rattle.eden_coupling.proofs.Steps.{edited_number, edited_kind}
use Rattle.eden_coupling.proofs.Fine.{from_alike}
use Rattle.eden_coupling.proofs.Alike.{directories_alike, edited_alike}
use Rattle.eden_coupling.proofs.ShownFull.{backs_tied}
use Rattle.eden_coupling.proofs.Backed.{backs_loaded, backed_alike}
use Rattle.eden_coupling.proofs.Remarked.{before}

-- ---- the same witness ties what is stored then

module _ (F G full : Stored) (x : Row) (next : ℕ) (t : Ties F full x next) (p : Path) (y : Row) (d : Directory)
    (at : row_at p x ≡ Some y) (holds : child_of y ≡ Some d) (own : y.origin ≡ origin.Own)
    (elsewhere : (k : ℕ) → k ≢ y.number → G k ≡ F k) (mine : HoldsEntries G y.number (listing_of d)) where
  abbrev new : Row
  new = with_child (Some (saved d)) y

  abbrev then : Row
  then = with_listing p (saved d) x

  -- its mark may differ
  abbrev Mine : ℕ → Type 0
  Mine k = k ≡ y.number

  new_holds : child_of new ≡ Some (saved d)
  new_holds = child_of-with_child (Some (saved d)) y

  here_follows : Follows 0 Mine y new
  here_follows = record {
    number = refl;
    kind = refl;
    full = own_loaded new (saved d) new_holds ∙ sym (own_loaded y d holds);
    kept = λ w a q h. elim (place_cases new w q) [
      | inl is ↦
          (let dir : a ≡ saved d = same_Some a (saved d) (sym h ∙ ap child_of is ∙ new_holds) in
          let number : w.number ≡ y.number = ap (λ (c : Row). c.number) is in
          record {
            row = y;
            directory = d;
            place = top;
            holds = holds;
            number = number;
            kind = ap (λ (c : Row). c.kind) is;
            full = ap full_listing dir;
            alike = inr number;
          })
      | inr b ↦
          (let dir : b.directory ≡ saved d = same_Some b.directory (saved d) (sym b.holds ∙ new_holds) in
          itself 0 Mine y w a (below_top y b.row w d b.name holds (ap (λ (c : Directory). find_row b.name c.rows) (sym dir) ∙ b.there) b.place) h)
    ];
    back = λ w a q h. elim (place_cases y w q) [
      | inl is ↦ inr (record { row = new; directory = saved d; place = top; holds = new_holds; number = ap (λ (c : Row). c.number) (sym is) })
      | inr b ↦
          (let dir : b.directory ≡ d = same_Some b.directory d (sym b.holds ∙ holds) in
          let there : find_row b.name d.rows ≡ Some b.row = ap (λ (c : Directory). find_row b.name c.rows) (sym dir) ∙ b.there in
          inr (record { row = w; directory = a; place = below_top new b.row w (saved d) b.name new_holds there b.place; holds = h; number = refl }))
    ];
  }

  follows : Follows 0 Mine x then
  follows = follows_at 0 Mine p (with_child (Some (saved d))) x y at here_follows (inl refl)

  fits : Fits full then next
  fits = kept_fits full x then next 0 Mine t.fits follows

  place_y : Place x y
  place_y = place_at p x y at

  place_new : Place then new
  place_new = place_at p then new (at_changed p (with_child (Some (saved d))) x y at)

  stored : (w : Row) (a : Directory) → Place then w → child_of w ≡ Some a → w.origin ≡ origin.Own → IsStoredAs G w.number a
  stored w a q h w_own = elim (same_or_apart w.number y.number) [
    | inl is ↦
        (let one = one_loaded full then next fits w new a (saved d) q h place_new new_holds is in
        let dir : a ≡ saved d = same_Some a (saved d) (sym h ∙ ap child_of one ∙ new_holds) in
        let P : ℕ → Type 0 = λ j. IsStoredAs G j a in
        let Q : Directory → Type 0 = λ b. IsStoredAs G y.number b in
        subst P (sym is) (subst Q (sym dir) (stored_new G y.number (saved d) mine)))
    | inr ne ↦
        (let k = follows.kept w a q h in
        elim k.alike [
          | inl l ↦
              stored_moved F G w.number k.row.number a k.directory (sym (elsewhere k.row.number (λ is. ne (k.number ∙ is)))) k.number l.1.0 l.1.1
              (t.stored k.row k.directory k.place k.holds (sym l.0 ∙ w_own))
          | inr c ↦ absurd (ne c)
        ])
  ]

  marked : (w : Row) (a : Directory) → Place then w → child_of w ≡ Some a → a.unsaved ≡ true → w.origin ≡ origin.Own
  marked w a q h unsaved =
      let k = follows.kept w a q h in
      elim k.alike [
        | inl l ↦ l.0 ∙ t.marked k.row k.directory k.place k.holds (sym l.1.0 ∙ unsaved)
        | inr is ↦ ap (λ (c : Row). c.origin) (one_loaded full then next fits w new a (saved d) q h place_new new_holds is) ∙ own
      ]

  same_origin : then.origin ≡ x.origin
  same_origin = origin_kept p (with_child (Some (saved d))) x (λ a. refl)

  pub saved_ties : Ties G full then next
  saved_ties = kept_ties F G full x then next 0 Mine t follows stored marked
      (λ k away. elsewhere k (λ is. away y d place_y holds (sym is)))
      (λ c e r n o is. (let least = numbers_from_two full c e n in absurd (omega (arith, least, is))))
      (λ none. absurd (root_loaded then new (saved d) place_new new_holds none))
      (λ other. elim (same_or_apart 1 y.number) [
        | inl is ↦ (let root = is_root F full x next t y d place_y holds (sym is) in absurd (other (same_origin ∙ ap (λ (a : Row). a.origin) root ∙ own)))
        | inr ne ↦ root_same G F (elsewhere 1 ne) ∙ t.rootless (λ o. other (same_origin ∙ o))
      ])
      (λ o. elim (same_or_apart 1 y.number) [
        | inl is ↦ (let P : ℕ → Type 0 = λ k. HoldsEntries G k (listing_of d) in (listing_of d, subst P (sym is) mine))
        | inr ne ↦ kind_moved F G 1 kind.Dir (sym (elsewhere 1 ne)) (t.rooted (sym same_origin ∙ o))
      ])

-- ---- what a table keeps

module _ (honest : Type 0) (F : Stored) (x : Row) (next : ℕ) (p : Path) (G : Stored) (z : Row) (table : IsTable x next) (s : Saves honest p F x G z) where
  abbrev y : Row
  y = s.row

  abbrev d : Directory
  d = s.directory

  abbrev now : Row
  now = with_listing p (saved d) x

  on_row : Place x y
  on_row = place_at p x y s.at

  are : AreStorable (listing_of d)
  are = table.listed y d on_row s.holds

  now_table : IsTable now next
  now_table = record {
    root = edited_number p (Some (saved d)) x ∙ table.root;
    kind = edited_kind p (Some (saved d)) x ∙ table.kind;
    listed = λ w e r h. (let b = before x p y d s.at s.holds false w e r h in subst AreStorable (sym b.listing) (table.listed b.row b.directory b.place b.holds));
    least = table.least;
    most = table.most;
  }

  pub table_then : IsTable z next
  table_then = subst (λ (a : Row). IsTable a next) (sym s.then) now_table

  module _ (R : Repository) (h : honest) (k : IsKept R F x next) where
    abbrev files : Stored
    files = with_entries F y.number (listing_of d)

    now_kept : IsKept R files now next
    now_kept = record {
      full = k.full;
      ties = saved_ties F files k.full x next k.ties p y d s.at s.holds (k.ties.marked y d on_row s.holds s.unsaved)
          (λ j off. apart F y.number (listing_of d) are j (λ is. off (sym is))) (entries_held F y.number (listing_of d) are);
      agrees = λ w e r held other.
          (let b = before x p y d s.at s.holds false w e r held in
          from_alike R no_files w b.row e b.directory b.number b.origin b.listing (k.agrees b.row b.directory b.place b.holds (λ own. other (b.origin ∙ own))));
    }

    pub kept_then : IsKept R G z next
    kept_then =
        let P : Stored → Type 0 = λ H. IsKept R H z next in
        let Q : Row → Type 0 = λ a. IsKept R files a next in
        subst P (sym (s.stored h)) (subst Q (sym s.then) now_kept)

    pub shown_then : shown_in R G z ≡ shown_in R F x
    shown_then =
        let was = backs_tied F k.full x next k.ties in
        ap (λ (H : Stored). shown_in R H z) (s.stored h)
        ∙ ap (shown_in R files) s.then
        ∙ edited_alike R files p (with_child (Some (saved d))) x y s.at (directories_alike R files y d (saved d) s.holds (λ m. refl))
        ∙ backed_alike R F files k.full x next was (backs_loaded F files k.full x next was y d on_row s.holds (λ j off. apart F y.number (listing_of d) are j off)) x top

pub saves_table : SavesTable
saves_table honest F x next p G z table s = table_then honest F x next p G z table s

pub saves_kept : SavesKept
saves_kept honest R F x next p G z h table k s = kept_then honest F x next p G z table s R h k

pub saves_alike : SavesAlike
saves_alike honest R F x next p G z h table k s = shown_then honest F x next p G z table s R h k

-- ---- each entry, and its mark

-- the mark of the directory at a path, by the entry as it stands
abbrev mark_of : Option Standing → Option Bool
mark_of o = option_map (λ (l : ℕ × Bool). l.1) (option_and_then (λ (v : Standing). v.loaded) o)

marks_at : (o : Option Row) → option_map (λ (d : Directory). d.unsaved) (option_and_then child_of o) ≡ mark_of (option_map standing o)
marks_at None = refl
marks_at (Some y) = by (child_of y) where
  by : (o : Option Directory) → option_map (λ (d : Directory). d.unsaved) o ≡ option_map (λ (l : ℕ × Bool). l.1) (option_map (λ (d : Directory). (d.stamp, d.unsaved)) o)
  by None = refl
  by (Some d) = refl

module _ (x : Row) (p : Path) (y : Row) (d : Directory) (at : row_at p x ≡ Some y) (holds : child_of y ≡ Some d) (was : d.unsaved ≡ true) where
  abbrev new_row : Row
  new_row = with_child (Some (saved d)) y

  new_row_holds : child_of new_row ≡ Some (saved d)
  new_row_holds = child_of-with_child (Some (saved d)) y

  below_same : (n : List ℕ) (r : Path) → row_at (n ∷ r) new_row ≡ row_at (n ∷ r) y
  below_same n r =
      ap (option_and_then (λ (e : Directory). option_and_then (row_at r) (find_row n e.rows))) new_row_holds
      ∙ sym (ap (option_and_then (λ (e : Directory). option_and_then (row_at r) (find_row n e.rows))) holds)

  stands_below : (q r : Path) → q ≡ p ++ r → standing_at q x ≡ standing_at r y
  stands_below q r is = ap (option_map standing) (ap (λ (s : Path). row_at s x) is ∙ reads_on p r x ∙ ap (option_and_then (row_at r)) at)

  -- the entry itself, and what stands below it
  entries_here : (r : Path) → option_map unmarked (standing_at r new_row) ≡ option_map unmarked (standing_at r y)
  entries_here [] = ap (λ (l : Option (ℕ × Bool)). Some (record { number = y.number; kind = y.kind; origin = y.origin; loaded = l }))
      (ap (λ (o : Option Directory). option_map (λ (l : ℕ × Bool). (l.0, false)) (option_map (λ (e : Directory). (e.stamp, e.unsaved)) o)) new_row_holds
      ∙ sym (ap (λ (o : Option Directory). option_map (λ (l : ℕ × Bool). (l.0, false)) (option_map (λ (e : Directory). (e.stamp, e.unsaved)) o)) holds))
  entries_here (n ∷ r) = ap (λ (o : Option Row). option_map unmarked (option_map standing o)) (below_same n r)

  mark_here : mark_of (standing_at [] new_row) ≡ Some false
  mark_here = ap (λ (o : Option Directory). option_map (λ (l : ℕ × Bool). l.1) (option_map (λ (e : Directory). (e.stamp, e.unsaved)) o)) new_row_holds

  mark_was : mark_of (standing_at [] y) ≡ Some true
  mark_was =
      ap (λ (o : Option Directory). option_map (λ (l : ℕ × Bool). l.1) (option_map (λ (e : Directory). (e.stamp, e.unsaved)) o)) holds
      ∙ ap (λ (b : Bool). Some b) was

  marks_here : (r : Path) → mark_of (standing_at r new_row) ≡ Some true → mark_of (standing_at r y) ≡ Some true
  marks_here [] is = mark_was
  marks_here (n ∷ r) is = sym (ap (λ (o : Option Row). mark_of (option_map standing o)) (below_same n r)) ∙ is

  by_entries : (q : Path) (o : Option Path) → behind_of p q ≡ o
      → option_map unmarked (grafted o (λ r. standing_at r new_row) (standing_at q x)) ≡ option_map unmarked (standing_at q x)
  by_entries q None front = refl
  by_entries q (Some r) front = entries_here r ∙ sym (ap (option_map unmarked) (stands_below q r (behind_sound p q r front)))

  by_marks : (q : Path) (o : Option Path) → behind_of p q ≡ o → mark_of (grafted o (λ r. standing_at r new_row) (standing_at q x)) ≡ Some true → mark_of (standing_at q x) ≡ Some true
  by_marks q None front is = is
  by_marks q (Some r) front is = ap mark_of (stands_below q r (behind_sound p q r front)) ∙ marks_here r is

  pub entries_alike : AreAlikeUnmarked x (with_listing p (saved d) x)
  entries_alike q = ap (option_map unmarked) (edits_one p (with_child (Some (saved d))) x y q at) ∙ by_entries q (behind_of p q) refl

  pub none_marked : NoneMarked x (with_listing p (saved d) x)
  none_marked q is =
      marks_at (row_at q x)
      ∙ by_marks q (behind_of p q) refl
      (sym (ap mark_of (edits_one p (with_child (Some (saved d))) x y q at)) ∙ sym (marks_at (row_at q (with_listing p (saved d) x))) ∙ is)

  pub mark_off : ¬ IsUnsavedAt p (with_listing p (saved d) x)
  mark_off is =
      let now : Some false ≡ Some true = sym (ap (λ (o : Option Row). option_map (λ (e : Directory). e.unsaved) (option_and_then child_of o)) (at_changed p (with_child (Some (saved d))) x y at)
      ∙ ap (option_map (λ (e : Directory). e.unsaved)) new_row_holds) ∙ is in
      cc

pub saves_marks : SavesMarks
saves_marks honest F x p G z s = (
  subst (NoneMarked x) (sym s.then) (none_marked x p s.row s.directory s.at s.holds s.unsaved),
  λ is. mark_off x p s.row s.directory s.at s.holds s.unsaved (subst (λ (a : Row). IsUnsavedAt p a) s.then is),
)

pub saves_unmarked : SavesUnmarked
saves_unmarked honest F x p G z s = subst (AreAlikeUnmarked x) (sym s.then) (entries_alike x p s.row s.directory s.at s.holds s.unsaved)
