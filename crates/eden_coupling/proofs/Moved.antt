-- An entry that comes, goes or moves, and what stays tied.
use Rattle.std.proofs.Common.{◌≡◌, ◌≢◌, ◌≤◌, ◌<◌, ◌⊎◌, ℕ, zero, suc, true, false, cond, List, [], ◌∷◌, Option, Some, None, IfSome, Contains, refl, sym, ap, ◌∙◌, subst, inl, inr, arith}
use Rattle.std.specs.Str.{bytes_eq}
use Rattle.std.proofs.lemmas.Option.{same_Some, none-some}
use Rattle.eden_model.specs.declared.kind.Kind.TheVariants as kind
use Rattle.eden_model.specs.declared.kind.Origin.TheVariants as origin
use Rattle.eden_model.specs.Trees.{Name, Path}
use Rattle.eden_model.specs.Named.{AreRising}
use Rattle.eden_overlay_format.specs.declared.stored_entry.StoredEntry.{StoredEntry}
use Rattle.eden_overlay_format.specs.Directory.{AreStorable}
use Rattle.eden_overlay.specs.Files.{Stored, with_file}
use Rattle.eden_overlay.specs.Held.{HoldsEntries, with_entries}
use Rattle.eden_overlay.specs.Soundness.{Names, LeadsOn, Reached, here, below, IsLive, HoldsKind, AreSound}
use Rattle.eden_overlay.specs.Laws.{Brings, IsStray, IsUnnamed, IsFresh, Drops, Moves}
use Rattle.eden_overlay.proofs.CallerLemmas.{put_here, put_apart, names_moved, kind_moved, one_held, apart, was_named, named, joined, root_same}
use Rattle.eden_overlay.proofs.CallerLemmas.{dropped_stay, dropped_unnamed, moved_stay, strays_stay, live_stay, added_stay}
use Rattle.eden_tree.specs.Directory.{Row, Directory, child_of}
use Rattle.eden_tree.specs.Rows.{find_row, drop_row}
use Rattle.eden_tree.specs.Paths.{row_at}
use Rattle.eden_tree.proofs.CallerLemmas.{same-≡, same-refl, find_row-put_row, find_row-drop_row, find_row-set_row, Contains-find_row, find_row-Contains}
use Rattle.eden_coupling.specs.Listings.{stored_entry, full_entry, listing_of, full_listing, Place, top, inside}
use Rattle.eden_coupling.specs.Ties.{IsAway, SameFile, Ties, Tied}
use Rattle.eden_coupling.specs.Changing.{IsCarried, MayBecome, with_listing, placed, rows_with, changed, MayGo, MayCome, EntryTied, DropTied, MoveTied, NewFileTied}
use Rattle.eden_coupling.specs.Changing.{MayMove, files_left, files_moved, moved_in, IsMoveKept, MovesKept, NewEntryTied}
use Rattle.eden_coupling.proofs.Rows.{mapped_from, contains_mapped, full_rising, entry_as_is, gone_after}
use Rattle.eden_coupling.proofs.Places.{rising_of, named_full, place_counts, away_row, away_below}
use Rattle.eden_coupling.proofs.Follows.{held_moved, Back}
use Rattle.eden_coupling.proofs.Chain.{place_at, stored_moved}
use Rattle.eden_coupling.proofs.Forward.{forward}
use Rattle.eden_coupling.proofs.Grown.{AreFree}
use Rattle.eden_coupling.proofs.Changing.{full_are, same_moved, changes_tied, left_out_tied}
use Rattle.eden_coupling.proofs.Sound.{ties_sound}

-- ---- the rows then

find_placed : (m n : Name) (x : Row) (rows : List (Name × Row)) → find_row m (placed (find_row n rows) n x rows) ≡ cond (bytes_eq m n) (Some x) (find_row m rows)
find_placed m n x rows = elim (find_row n rows) as (λ o. find_row n rows ≡ o → find_row m (placed o n x rows) ≡ cond (bytes_eq m n) (Some x) (find_row m rows)) [
  | None ↦ λ none. find_row-put_row m n x rows none
  | Some was ↦ λ some. find_row-set_row m n x was rows some
] refl

pub find_with : (m n : Name) (o : Option Row) (rows : List (Name × Row)) → AreRising (λ r. r.0) rows → find_row m (rows_with n o rows) ≡ cond (bytes_eq m n) o (find_row m rows)
find_with m n None rows rising = find_row-drop_row m n rows rising
find_with m n (Some x) rows rising = find_placed m n x rows

-- what is there now was there, or is what was put in
pub from_with : (m n : Name) (o : Option Row) (rows : List (Name × Row)) (w : Row) → AreRising (λ r. r.0) rows → find_row m (rows_with n o rows) ≡ Some w
    → (find_row m rows ≡ Some w) ⊎ ((m ≡ n) × (o ≡ Some w))
from_with m n o rows w rising f = elim (bytes_eq m n) as (λ b. bytes_eq m n ≡ b → (find_row m rows ≡ Some w) ⊎ ((m ≡ n) × (o ≡ Some w))) [
  | true ↦ λ s. inr (same-≡ m n s, ap (λ b. cond b o (find_row m rows)) (sym s) ∙ sym (find_with m n o rows rising) ∙ f)
  | false ↦ λ s. inl (ap (λ b. cond b o (find_row m rows)) (sym s) ∙ sym (find_with m n o rows rising) ∙ f)
] refl

-- what is said of an entry that may be there, where it is
pub if_some : (o : Option Row) (P : Row → Type 0) (z : Row) → IfSome o P → o ≡ Some z → P z
if_some None P z h is = absurd (cc)
if_some (Some w) P z h is = subst P (same_Some w z is) h

-- what is loaded stays
pub loaded_with : (d : Directory) (n : Name) (o : Option Row) → AreRising (λ r. r.0) d.rows → MayGo d n
    → (m : Name) (w : Row) (c : Directory) → find_row m d.rows ≡ Some w → child_of w ≡ Some c → find_row m (changed d n o).rows ≡ Some w
loaded_with d n o rising go m w c f k = elim (bytes_eq m n) as (λ b. bytes_eq m n ≡ b → find_row m (rows_with n o d.rows) ≡ Some w) [
  | true ↦ λ s.
      (let was : find_row n d.rows ≡ Some w = ap (λ j. find_row j d.rows) (sym (same-≡ m n s)) ∙ f in
      absurd (none-some c (sym (if_some (find_row n d.rows) (λ a. child_of a ≡ None) w go was) ∙ k)))
  | false ↦ λ s. find_with m n o d.rows rising ∙ ap (λ b. cond b o (find_row m d.rows)) s ∙ f
] refl

-- the rows left are some of those there were
later : (a e : Name × Row) (es : List (Name × Row)) → Contains es e → Contains (a ∷ es) e
later a e es k = let within = k.1 in (suc k.0, omega (arith, within), k.2)

first_or : (a e : Name × Row) (fewer es : List (Name × Row)) → (Contains fewer e → Contains es e) → Contains (a ∷ fewer) e → Contains (a ∷ es) e
first_or a e fewer es rest (zero, w, is) = (zero, omega arith, is)
first_or a e fewer es rest (suc j, w, is) = later a e es (rest (j, omega (arith, w), is))

left_there : (n : Name) (es : List (Name × Row)) (e : Name × Row) → Contains (drop_row n es) e → Contains es e
left_there n [] e h = h
left_there n (a ∷ es) e h = elim (bytes_eq n a.0) as (λ b. Contains (cond b es (a ∷ drop_row n es)) e → Contains (a ∷ es) e) [
  | true ↦ λ k. later a e es k
  | false ↦ λ k. first_or a e (drop_row n es) es (left_there n es e) k
] h

-- what is left out isn't one of them
left_gone : (d : Directory) (n : Name) (z : Row) → AreRising (λ r. r.0) d.rows → AreStorable (full_listing (changed d n None)) → ¬ Contains (full_listing (changed d n None)) (full_entry (n, z))
left_gone d n z rising are c =
    let rest = changed d n None in
    let from = mapped_from full_entry rest.rows (full_entry (n, z)) c in
    let found : find_row from.0.0 rest.rows ≡ Some from.0.1 = find_row-Contains from.0.0 rest.rows from.0.1 (full_rising rest are) from.1.0 in
    let name : from.0.0 ≡ n = ap (λ (s : StoredEntry). s.name) from.1.1 in
    none-some from.0.1 (sym (gone_after n d.rows rising) ∙ ap (λ j. find_row j rest.rows) (sym name) ∙ found)

-- ---- one entry of a directory

module _ (F full : Stored) (x : Row) (next : ℕ) (t : Ties F full x next) (p : Path) (y : Row) (d : Directory)
    (at : row_at p x ≡ Some y) (held : child_of y ≡ Some d) where
  place_y : Place x y
  place_y = place_at p x y at

  rising_d : AreRising (λ r. r.0) d.rows
  rising_d = rising_of full x next t.fits y d place_y held

  module _ (n : Name) (o : Option Row) (go : MayGo d n) (come : MayCome F full x next n o) where
    pub may_become : MayBecome F full x next d (changed d n o)
    may_become = record {
      saved = refl;
      each = λ m w f. elim (from_with m n o d.rows w rising_d f) [
        | inl was ↦ inl was
        | inr new ↦
            (let P : Name → Type 0 = λ j. (child_of w ≡ None) × IsCarried F full x next (stored_entry (j, w)) in
            inr (subst P (sym new.0) (if_some o (λ z. (child_of z ≡ None) × IsCarried F full x next (stored_entry (n, z))) w come new.1)))
      ];
      loaded = loaded_with d n o rising_d go;
    }

  module _ (n : Name) (go : MayGo d n) (are : AreStorable (listing_of (changed d n None))) where
    abbrev rest : Directory
    rest = changed d n None

    pub drops : Drops full y.number (full_listing d) (full_listing rest)
    drops = record {
      held = t.fits.held y d place_y held;
      are = full_are rest are;
      fewer = λ e there.
          (let from = mapped_from full_entry rest.rows e there in
          subst (λ s. Contains (full_listing d) s) from.1.1 (contains_mapped full_entry d.rows from.0 (left_there n d.rows from.0 from.1.0)));
    }

    pub dropped_sound : AreSound (with_entries full y.number (full_listing rest))
    dropped_sound = dropped_stay full y.number (full_listing d) (full_listing rest) drops t.fits.sound

    -- nothing names it then
    pub gone_unnamed : (z : Row) → find_row n d.rows ≡ Some z → IsUnnamed (with_entries full y.number (full_listing rest)) z.number
    gone_unnamed z there =
        dropped_unnamed full y.number (full_listing d) (full_listing rest) (full_entry (n, z)) drops (place_counts full x next t.fits y d place_y held)
        (contains_mapped full_entry d.rows (n, z) (Contains-find_row n d.rows z there)) (left_gone d n z rising_d (full_are rest are)) t.fits.sound

    dropped : y.origin ≡ origin.Own → Ties (with_entries F y.number (listing_of rest)) (with_entries full y.number (full_listing rest)) (with_listing p rest x) next
    dropped own = changes_tied F full x next t p y d rest at held own (may_become n None go tt) are dropped_sound

pub entry_tied : EntryTied
entry_tied F full x next t p y d n o at held own go come are sound =
    changes_tied F full x next t p y d (changed d n o) at held own (may_become F full x next t p y d at held n o go come) are sound

pub drop_tied : DropTied
drop_tied F full x next t p y d n at held own go are = dropped F full x next t p y d at held n go are own

-- ---- from one directory to another

module _ (F full : Stored) (x : Row) (next : ℕ) (t : Ties F full x next) (p : Path) (y : Row) (d : Directory) (n : Name) (z : Row)
    (at : row_at p x ≡ Some y) (held : child_of y ≡ Some d) (own : y.origin ≡ origin.Own)
    (there : find_row n d.rows ≡ Some z) (shut : child_of z ≡ None) (are : AreStorable (listing_of (changed d n None))) where
  abbrev kept : Directory
  kept = changed d n None

  abbrev F1 : Stored
  F1 = with_entries F y.number (listing_of kept)

  abbrev full1 : Stored
  full1 = with_entries full y.number (full_listing kept)

  abbrev x1 : Row
  x1 = with_listing p kept x

  abbrev left : StoredEntry
  left = full_entry (n, z)

  on_y : Place x y
  on_y = place_at p x y at

  go : MayGo d n
  go = let P : Option Row → Type 0 = λ o. IfSome o (λ w. child_of w ≡ None) in subst P (sym there) shut

  t1 : Ties F1 full1 x1 next
  t1 = dropped F full x next t p y d at held n go are own

  kept_are : AreStorable (full_listing kept)
  kept_are = full_are kept are

  fewer : Drops full y.number (full_listing d) (full_listing kept)
  fewer = drops F full x next t p y d at held n go are

  counts_y : IsLive full y.number
  counts_y = place_counts full x next t.fits y d on_y held

  names_left : Names full y.number left
  names_left = named_full full x next t.fits y d n z on_y held there

  away_z : IsAway x z.number
  away_z = away_row full x next t.fits y d n z on_y held there shut

  named_then : (c : ℕ) (e : StoredEntry) → Names full1 c e → Names full c e
  named_then c e m = was_named full y.number (full_listing d) (full_listing kept) fewer.held kept_are fewer.fewer c e m

  reached_then : (k c : ℕ) → Reached full1 k c → Reached full k c
  reached_then k c here = here
  reached_then k c (below b e r m leads) = below b e (reached_then k b r) (named_then b e m) leads

  rising : AreRising (λ r. r.0) d.rows
  rising = rising_d F full x next t p y d at held

  -- what is left was there
  was_there : (m : Name) (w : Row) → find_row m kept.rows ≡ Some w → (find_row m d.rows ≡ Some w) ⊎ (child_of w ≡ None)
  was_there m w f = elim (from_with m n None d.rows w rising f) [ inl was ↦ inl was | inr new ↦ absurd (none-some w new.1) ]

  -- what is loaded then was loaded
  pub loaded_before : (a : Row) (b : Directory) → Place x1 a → child_of a ≡ Some b → Back x a.number
  loaded_before a b q h = elim (forward full x next t.fits y d kept held was_there (loaded_with d n None rising go) p x at top a b q h) [
    | inl top_is ↦ record { row = y; directory = d; place = on_y; holds = held; number = sym (ap (λ (r : Row). r.number) top_is.0) }
    | inr s ↦ record { row = s.row; directory = s.directory; place = s.place; holds = s.holds; number = sym s.number }
  ]

  away_then : (k : ℕ) → IsAway x k → IsAway x1 k
  away_then k away a b q h is = let l = loaded_before a b q h in away l.row l.directory l.place l.holds (l.number ∙ is)

  off_y : (k : ℕ) → IsAway x k → y.number ≢ k
  off_y k away = away y d on_y held

  same_then : (k : ℕ) → IsAway x k → SameFile F full k → SameFile F1 full1 k
  same_then k away same = same_moved F F1 full full1 k (apart F y.number (listing_of kept) are k (off_y k away)) (apart full y.number (full_listing kept) kept_are k (off_y k away)) same

  module _ (m : Name) where
    abbrev moved : StoredEntry
    moved = full_entry (m, z)

    leads_left : LeadsOn moved → LeadsOn left
    leads_left leads = (leads.0, leads.1)

    counts_below : LeadsOn moved → (c : ℕ) → Reached full1 z.number c → IsLive full c
    counts_below leads c r = joined full 1 z.number c (below y.number left counts_y names_left (leads_left leads)) (reached_then z.number c r)

    away_under : LeadsOn moved → (c : ℕ) → Reached full1 z.number c → IsAway x c
    away_under leads c here = away_z
    away_under leads c (below b e r k goes) = away_below full x next t.fits b e (counts_below leads b r) (named_then b e k) (away_under leads b r)

    away_named : LeadsOn moved → (c : ℕ) (e : StoredEntry) → Reached full1 z.number c → Names full1 c e → IsAway x e.number
    away_named leads c e r k = away_below full x next t.fits c e (counts_below leads c r) (named_then c e k) (away_under leads c r)

    brought_below : (k : ℕ) → Brings full1 moved k → k < next
    brought_below k (inl is) = subst (λ j. j < next) is (t.fits.below y.number left counts_y names_left)
    brought_below k (inr (leads, b)) = subst (λ j. j < next) b.is (t.fits.below b.directory b.entry (counts_below leads b.directory b.reached) (named_then b.directory b.entry b.named))

    brought_away : (k : ℕ) → Brings full1 moved k → IsAway x1 k
    brought_away k (inl is) = subst (λ j. IsAway x1 j) is (away_then z.number away_z)
    brought_away k (inr (leads, b)) = subst (λ j. IsAway x1 j) b.is (away_then b.entry.number (away_named leads b.directory b.entry b.reached b.named))

    pub carried_full : IsCarried F1 full1 x1 next moved
    carried_full = record {
      below = brought_below;
      away = brought_away;
      own = λ o. same_then z.number away_z (t.same y.number left counts_y names_left o away_z);
      owned = λ leads c f r k o.
          (let away = away_named leads c f r k in
          same_then f.number away (t.same c f (counts_below leads c r) (named_then c f k) o away));
    }

    full_is : full_entry (m, z) ≡ stored_entry (m, z)
    full_is = entry_as_is m z shut

    module _ (q : Path) (u : Row) (e : Directory) (at_u : row_at q x1 ≡ Some u) (held_u : child_of u ≡ Some e) (own_u : u.origin ≡ origin.Own)
        (go_u : MayGo e m) (are_u : AreStorable (listing_of (changed e m (Some z)))) where
      abbrev new : Directory
      new = changed e m (Some z)

      abbrev full2 : Stored
      full2 = with_entries full1 u.number (full_listing new)

      on_u : Place x1 u
      on_u = place_at q x1 u at_u

      counts_u : IsLive full1 u.number
      counts_u = place_counts full1 x1 next t1.fits u e on_u held_u

      rising_e : AreRising (λ r. r.0) e.rows
      rising_e = rising_of full1 x1 next t1.fits u e on_u held_u

      not_left : ¬ Contains (full_listing kept) left
      not_left = left_gone d n z rising kept_are

      each_new : (f : StoredEntry) → Contains (full_listing new) f → Names full1 u.number f ⊎ (f ≡ moved)
      each_new f c =
          let from = mapped_from full_entry new.rows f c in
          let found : find_row from.0.0 new.rows ≡ Some from.0.1 = find_row-Contains from.0.0 new.rows from.0.1 (full_rising new (full_are new are_u)) from.1.0 in
          elim (from_with from.0.0 m (Some z) e.rows from.0.1 rising_e found) [
            | inl was ↦ inl (subst (λ s. Names full1 u.number s) from.1.1 (named_full full1 x1 next t1.fits u e from.0.0 from.0.1 on_u held_u was))
            | inr is ↦ inr (sym from.1.1 ∙ ap (λ j. full_entry (j, from.0.1)) is.0 ∙ ap (λ r. full_entry (m, r)) (sym (same_Some z from.0.1 is.1)))
          ]

      moves : Moves full y.number u.number (full_listing d) (full_listing kept) (full_listing new) left moved
      moves = record {
        drops = fewer;
        live = counts_y;
        there = contains_mapped full_entry d.rows (n, z) (Contains-find_row n d.rows z there);
        gone = not_left;
        same = record { kind = refl; origin = refl; number = refl };
        live_still = counts_u;
        are = full_are new are_u;
        each = each_new;
      }

      move : Ties (with_entries F1 u.number (listing_of new)) full2 (with_listing q new x1) next
      move = entry_tied F1 full1 x1 next t1 q u e m (Some z) at_u held_u own_u go_u
          (shut, subst (λ s. IsCarried F1 full1 x1 next s) full_is carried_full) are_u
          (moved_stay full y.number u.number (full_listing d) (full_listing kept) (full_listing new) left moved moves t.fits.sound)

      -- what is named then was named before, or is the entry, and what is live then was so
      named_now : (c : ℕ) (f : StoredEntry) → Names full2 c f → Names full1 c f ⊎ (f ≡ moved)
      named_now c f k = elim (named full1 u.number (full_listing new) (full_are new are_u) c f k) [
        | inl h ↦ elim (each_new f h.1) [ inl was ↦ inl (subst (λ j. Names full1 j f) h.0 was) | inr is ↦ inr is ]
        | inr h ↦ inl h.1
      ]

      live_before : (c : ℕ) → IsLive full2 c → IsLive full c
      live_before c here = here
      live_before c (below b f r k leads) = elim (named_now b f k) [
        | inl was ↦ below b f (live_before b r) (named_then b f was) leads
        | inr is ↦
            (let P : StoredEntry → Type 0 = λ s. LeadsOn s → IsLive full s.number in
            subst P (sym is) (λ l. below y.number left counts_y names_left (leads_left l)) leads)
      ]

      -- numbers that nothing live named are free as before
      pub free_moved : (es : List StoredEntry) → AreFree full es → AreFree full2 es
      free_moved es free f there c e r k = elim (named_now c e k) [
        | inl was ↦ free f there c e (live_before c r) (named_then c e was)
        | inr is ↦ λ same. free f there y.number left counts_y names_left (sym (ap (λ (s : StoredEntry). s.number) is) ∙ same)
      ]

      -- the entry w that is replaced
      module _ (w : Row) (stood : find_row m e.rows ≡ Some w) where
        abbrev replaced : StoredEntry
        replaced = full_entry (m, w)

        names_replaced : Names full1 u.number replaced
        names_replaced = named_full full1 x1 next t1.fits u e m w on_u held_u stood

        live_u : IsLive full u.number
        live_u = reached_then 1 u.number counts_u

        -- it isn't the one that moves
        is_another : z.number ≢ w.number
        is_another is =
            let once = t.fits.sound.once y.number u.number left replaced counts_y live_u names_left (named_then u.number replaced names_replaced) is in
            elim (named full y.number (full_listing kept) kept_are u.number replaced names_replaced) [
              | inl h ↦ not_left (subst (λ s. Contains (full_listing kept) s) (sym once.1) h.1)
              | inr h ↦ h.0 once.0
            ]

        -- under its name stands the other
        not_listed : (f : StoredEntry) → Contains (full_listing new) f → f ≡ replaced → ⊥
        not_listed f c is =
            let from = mapped_from full_entry new.rows f c in
            let found : find_row from.0.0 new.rows ≡ Some from.0.1 = find_row-Contains from.0.0 new.rows from.0.1 (full_rising new (full_are new are_u)) from.1.0 in
            let name : from.0.0 ≡ m = ap (λ (s : StoredEntry). s.name) (from.1.1 ∙ is) in
            let now : find_row m new.rows ≡ Some z = find_with m m (Some z) e.rows rising_e ∙ ap (λ b. cond b (Some z) (find_row m e.rows)) (same-refl m) in
            let row : from.0.1 ≡ z = same_Some from.0.1 z (sym found ∙ ap (λ j. find_row j new.rows) name ∙ now) in
            is_another (ap (λ (r : Row). r.number) (sym row) ∙ ap (λ (s : StoredEntry). s.number) (from.1.1 ∙ is))

        -- so nothing names it then
        pub unnamed : IsUnnamed full2 w.number
        unnamed c f r k is = elim (named full1 u.number (full_listing new) (full_are new are_u) c f k) [
          | inl h ↦ elim (each_new f h.1) [
            | inl was ↦ not_listed f h.1 (t1.fits.sound.once u.number u.number f replaced counts_u counts_u was names_replaced is).1
            | inr other ↦ is_another (ap (λ (s : StoredEntry). s.number) (sym other) ∙ is)
          ]
          | inr h ↦ h.0 (sym (t.fits.sound.once c u.number f replaced (live_before c r) live_u (named_then c f h.1) (named_then u.number replaced names_replaced) is).0)
        ]

pub move_tied : MoveTied
move_tied F full x next t p y d n z at held own there shut are q u e m at_u held_u own_u go_u are_u =
    move F full x next t p y d n z at held own there shut are m q u e at_u held_u own_u go_u are_u

-- ---- a new file

module _ (F full : Stored) (x : Row) (next : ℕ) (t : Ties F full x next) (k : ℕ) (w : Option (List ℕ)) (stray : IsStray full k) (away : IsAway x k) where
  counted : (c : ℕ) → IsLive (with_file full k w) c → IsLive full c
  counted c r = (live_stay full k w stray c).0 r

  not_k : (c : ℕ) → IsLive full c → k ≢ c
  not_k c here = stray.not_root
  not_k c (below b e r n leads) = λ is. stray.not_own b e r n leads.1 (sym is)

  named_before : (c : ℕ) (e : StoredEntry) → IsLive full c → Names (with_file full k w) c e → Names full c e
  named_before c e r n = names_moved (with_file full k w) full c e (put_apart full k c w (not_k c r)) n

  new_file : Ties (with_file F k w) (with_file full k w) x next
  new_file = record {
    fits = record {
      root = t.fits.root;
      sound = strays_stay full k w stray t.fits.sound;
      below = λ c e r n. t.fits.below c e (counted c r) (named_before c e (counted c r) n);
      is_dir = t.fits.is_dir;
      held = λ y d p h. held_moved full (with_file full k w) y.number (full_listing d) (sym (put_apart full k y.number w (λ is. away y d p h (sym is)))) (t.fits.held y d p h);
    };
    stored = λ y d p h o. stored_moved F (with_file F k w) y.number y.number d d (sym (put_apart F k y.number w (λ is. away y d p h (sym is)))) refl refl refl (t.stored y d p h o);
    marked = t.marked;
    same = λ c e r n o off.
        (let was = counted c r in
        let named = named_before c e was n in
        let ne : k ≢ e.number = λ is. stray.not_own c e was named o (sym is) in
        same_moved F (with_file F k w) full (with_file full k w) e.number (put_apart F k e.number w ne) (put_apart full k e.number w ne) (t.same c e was named o off));
    same_root = λ none. same_moved F (with_file F k w) full (with_file full k w) 1 (put_apart F k 1 w stray.not_root) (put_apart full k 1 w stray.not_root) (t.same_root none);
    rootless = λ o. root_same (with_file F k w) F (put_apart F k 1 w stray.not_root) ∙ t.rootless o;
    rooted = λ o. kind_moved F (with_file F k w) 1 kind.Dir (sym (put_apart F k 1 w stray.not_root)) (t.rooted o);
  }

pub new_file_tied : NewFileTied
new_file_tied F full x next t k w stray away = new_file F full x next t k w stray away

-- ---- both stores of a move

pub some_left : (d : Directory) (n : Name) (e : StoredEntry) → Contains (listing_of (changed d n None)) e → Contains (listing_of d) e
some_left d n e there =
    let from = mapped_from stored_entry (drop_row n d.rows) e there in
    subst (λ s. Contains (listing_of d) s) from.1.1 (contains_mapped stored_entry d.rows from.0 (left_there n d.rows from.0 from.1.0))

module _ (F : Stored) (x : Row) (next : ℕ) (p : Path) (n : Name) (q : Path) (m : Name) (t : Tied F x next) (a : MayMove x p n q m) where
  may_leave : MayGo a.source n
  may_leave = let P : Option Row → Type 0 = λ o. IfSome o (λ w. child_of w ≡ None) in subst P (sym a.there) a.unloaded

  without : Tied (files_left x p n q m a F) (with_listing p (changed a.source n None) x) next
  without = (
    with_entries t.0 a.from.number (full_listing (changed a.source n None)),
    drop_tied F t.0 x next t.1 p a.from a.source n a.at_from a.holds_source a.own_from may_leave a.entries_left,
  )

  now_moved : Tied (files_moved x p n q m a F) (moved_in x p n q m a) next
  now_moved = (
    with_entries (with_entries t.0 a.from.number (full_listing (changed a.source n None))) a.to.number (full_listing (changed a.target m (Some a.entry))),
    move_tied F t.0 x next t.1 p a.from a.source n a.entry a.at_from a.holds_source a.own_from a.there a.unloaded a.entries_left
        q a.to a.target m a.at_to a.holds_target a.own_to a.may_go a.entries_put,
  )

  move_kept : IsMoveKept F x next p n q m a
  move_kept = record {
    first_sound = ties_sound (files_left x p n q m a F) without.0 (with_listing p (changed a.source n None) x) next without.1;
    both_sound = ties_sound (files_moved x p n q m a F) now_moved.0 (moved_in x p n q m a) next now_moved.1;
    marked = (
      t.0,
      left_out_tied F t.0 x next t.1 p a.from a.source (listing_of (changed a.source n None)) a.at_from a.holds_source a.own_from a.entries_left
          (some_left a.source n),
    );
    moved = now_moved;
  }

pub moves_kept : MovesKept
moves_kept F x next p n q m t a = move_kept F x next p n q m t a

-- ---- one listing that changes

-- a directory of its own where this under that name may be stored
pub record MayChange (Honest : Type 0) (F : Stored) (x : Row) (next : ℕ) (p : Path) (n : Name) (o : Option Row) : Type 0 where
  pub row : Row
  pub directory : Directory
  pub at : row_at p x ≡ Some row
  pub holds : child_of row ≡ Some directory
  pub own : row.origin ≡ origin.Own
  pub may_go : MayGo directory n
  pub entries : AreStorable (listing_of (changed directory n o))
  pub unloaded : IfSome o (λ z. child_of z ≡ None)
  pub full : Honest → Stored
  pub ties : (h : Honest) → Ties F (full h) x next
  pub may_come : (h : Honest) → MayCome F (full h) x next n o
  pub sound : (h : Honest) → AreSound (with_entries (full h) row.number (full_listing (changed directory n o)))

-- one listing that is stored leaves the files sound, and the table tied as it is then
pub record IsChangeKept (F : Stored) (x : Row) (next : ℕ) (p : Path) (n : Name) (o : Option Row) (number : ℕ) (d : Directory) : Type 0 where
  pub sound : AreSound (with_entries F number (listing_of (changed d n o)))
  pub tied : Tied (with_entries F number (listing_of (changed d n o))) (with_listing p (changed d n o) x) next

abbrev pub ChangesKept : Type 1
ChangesKept = (Honest : Type 0) (F : Stored) (x : Row) (next : ℕ) (p : Path) (n : Name) (o : Option Row) → Honest
    → (may : MayChange Honest F x next p n o) → IsChangeKept F x next p n o may.row.number may.directory

pub changes_kept : ChangesKept
changes_kept Honest F x next p n o h a =
    let d = changed a.directory n o in
    let t = entry_tied F (a.full h) x next (a.ties h) p a.row a.directory n o a.at a.holds a.own a.may_go (a.may_come h) a.entries (a.sound h) in
    record {
      sound = ties_sound (with_entries F a.row.number (listing_of d)) (with_entries (a.full h) a.row.number (full_listing d)) (with_listing p d x) next t;
      tied = (with_entries (a.full h) a.row.number (full_listing d), t);
    }

-- ---- a new entry

none_in : (F : Stored) (k : ℕ) (es : List StoredEntry) (e : StoredEntry) → HoldsEntries F k es → HoldsEntries F k [] → Contains es e → ⊥
none_in F k es e h g there =
    let Q : List StoredEntry → Type 0 = λ l. Contains l e in
    let none : Contains [] e = subst Q (one_held F k es [] h g) there in
    let within = none.1 in
    omega (arith, within)

module _ (F full : Stored) (x : Row) (next : ℕ) (t : Ties F full x next) (p : Path) (y : Row) (d : Directory) (n : Name) (z : Row) (w : Option (List ℕ))
    (at : row_at p x ≡ Some y) (held : child_of y ≡ Some d)
    (free_name : MayGo d n) (shut : child_of z ≡ None) (least : 2 ≤ z.number) (given : z.number < next) (unnamed : IsUnnamed full z.number)
    (filed : HoldsKind (with_file full z.number w) z.number z.kind) (empty : z.kind ≡ kind.Dir → HoldsEntries (with_file full z.number w) z.number [])
    (are : AreStorable (listing_of (changed d n (Some z)))) where
  abbrev full_file : Stored
  full_file = with_file full z.number w

  abbrev new_dir : Directory
  new_dir = changed d n (Some z)

  abbrev entry_new : StoredEntry
  entry_new = full_entry (n, z)

  pub away_new : IsAway x z.number
  away_new v e top k is = let root = t.fits.root in omega (arith, least, root, is)
  away_new v e (inside u c m q r k f) h is = unnamed u.number (full_entry (m, q)) (place_counts full x next t.fits u c r k) (named_full full x next t.fits u c m q r k f) is

  stray_new : IsStray full z.number
  stray_new = record { not_root = λ is. omega (arith, least, is); not_own = λ c e r k o. unnamed c e r k }

  pub tied_file : Ties (with_file F z.number w) full_file x next
  tied_file = new_file F full x next t z.number w stray_new away_new

  unnamed_now : IsUnnamed full_file z.number
  unnamed_now c e r k =
      let was = counted F full x next t z.number w stray_new away_new c r in
      unnamed c e was (named_before F full x next t z.number w stray_new away_new c e was k)

  none_below : LeadsOn entry_new → (c : ℕ) (f : StoredEntry) → Reached full_file z.number c → Names full_file c f → ⊥
  none_below leads c f here k = none_in full_file z.number k.entries f k.held (empty leads.0) k.there
  none_below leads c f (below b e r j goes) k = none_below leads b e r j

  only_its : (k : ℕ) → Brings full_file entry_new k → z.number ≡ k
  only_its k brings = elim brings [ inl is ↦ is | inr under ↦ absurd (none_below under.0 under.1.directory under.1.entry under.1.reached under.1.named) ]

  pub carried_new : IsCarried (with_file F z.number w) full_file x next entry_new
  carried_new = record {
    below = λ k brings. subst (λ j. j < next) (only_its k brings) given;
    away = λ k brings. subst (λ j. IsAway x j) (only_its k brings) away_new;
    own = λ o. inl (put_here F z.number z.number w refl ∙ sym (put_here full z.number z.number w refl));
    owned = λ leads c f r k o. absurd (none_below leads c f r k);
  }

  on_dir : Place x y
  on_dir = place_at p x y at

  which_new : (f : StoredEntry) → Contains (full_listing new_dir) f → Names full_file y.number f ⊎ (f ≡ entry_new)
  which_new f c =
      let from = mapped_from full_entry new_dir.rows f c in
      let found : find_row from.0.0 new_dir.rows ≡ Some from.0.1 = find_row-Contains from.0.0 new_dir.rows from.0.1 (full_rising new_dir (full_are new_dir are)) from.1.0 in
      elim (from_with from.0.0 n (Some z) d.rows from.0.1 (rising_of full x next t.fits y d on_dir held) found) [
        | inl was ↦ inl (subst (λ s. Names full_file y.number s) from.1.1 (named_full full_file x next tied_file.fits y d from.0.0 from.0.1 on_dir held was))
        | inr is ↦ inr (sym from.1.1 ∙ ap (λ j. full_entry (j, from.0.1)) is.0 ∙ ap (λ r. full_entry (n, r)) (sym (same_Some z from.0.1 is.1)))
      ]

  counts_dir : IsLive full_file y.number
  counts_dir = place_counts full_file x next tied_file.fits y d on_dir held

  fresh : IsFresh full_file y.number entry_new
  fresh = record {
    own = λ o. filed;
    free = λ c f r k is. absurd (unnamed_now c f r k is);
    empty = λ leads. empty leads.0;
  }

  pub sound_new : AreSound (with_entries full_file y.number (full_listing new_dir))
  sound_new = added_stay full_file y.number (full_listing new_dir) counts_dir (full_are new_dir are)
      (λ e f c g is. elim (which_new e c) [
        | inl k ↦ elim (which_new f g) [
          | inl j ↦ (tied_file.fits.sound.once y.number y.number e f counts_dir counts_dir k j is).1
          | inr same ↦ absurd (unnamed_now y.number e counts_dir k (is ∙ ap (λ (s : StoredEntry). s.number) same))
        ]
        | inr same ↦ elim (which_new f g) [
          | inl j ↦ absurd (unnamed_now y.number f counts_dir j (sym is ∙ ap (λ (s : StoredEntry). s.number) same))
          | inr other ↦ same ∙ sym other
        ]
      ])
      (λ e c. elim (which_new e c) [
        | inl k ↦ inl k
        | inr same ↦ (let P : StoredEntry → Type 0 = λ s. IsFresh full_file y.number s in inr (subst P (sym same) fresh))
      ])
      tied_file.fits.sound

  new_tied : y.origin ≡ origin.Own → Ties (with_entries (with_file F z.number w) y.number (listing_of new_dir)) (with_entries full_file y.number (full_listing new_dir)) (with_listing p new_dir x) next
  new_tied own = entry_tied (with_file F z.number w) full_file x next tied_file p y d n (Some z) at held own free_name
      (shut, (let P : StoredEntry → Type 0 = λ s. IsCarried (with_file F z.number w) full_file x next s in subst P (entry_as_is n z shut) carried_new)) are sound_new

pub new_entry_tied : NewEntryTied
new_entry_tied F full x next t p y d n z w at held own free_name shut least given unnamed filed empty are =
    new_tied F full x next t p y d n z w at held free_name shut least given unnamed filed empty are own
