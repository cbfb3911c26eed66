-- A loaded directory that is taken out, and put back where its entry went, or where it was.
use Rattle.std.proofs.Common.{◌≡◌, ◌≢◌, ℕ, Bool, true, false, cond, if◌then◌else◌, List, [], ◌∷◌, ◌++◌, Option, Some, None, IsSome, IfSome, IfNone}
use Rattle.std.proofs.Common.{refl, sym, ap, ◌∙◌, subst, inl, inr, arith}
use Rattle.std.proofs.lemmas.Option.{same_Some, none-some}
use Rattle.std.specs.Option.{option_map, option_and_then}
use Rattle.eden_model.specs.declared.kind.Kind.{Kind}
use Rattle.eden_model.specs.declared.kind.Kind.TheVariants as kind
use Rattle.eden_model.specs.declared.id.Id.{Id}
use Rattle.eden_model.specs.declared.kind.Origin.{Origin}
use Rattle.eden_model.specs.declared.kind.Origin.TheVariants as origin
use Rattle.eden_model.specs.Paths.{behind_of}
use Rattle.eden_model.specs.Repository.{Repository, no_files}
use Rattle.eden_model.specs.Trees.{Name, Path, grafted}
use Rattle.eden_overlay_format.specs.Directory.{AreStorable}
use Rattle.eden_overlay_format.specs.declared.stored_entry.StoredEntry.{StoredEntry}
use Rattle.eden_overlay.specs.Files.{Stored}
use Rattle.eden_overlay.specs.Held.{HoldsEntries, numbers_of, own_files, without}
use Rattle.eden_overlay.proofs.CallerLemmas.{put_apart}
use Rattle.eden_tree.specs.Changes.{IsChanged}
use Rattle.eden_tree.specs.Directory.{Row, Directory, child_of, with_child}
use Rattle.eden_tree.specs.Rows.{find_row}
use Rattle.eden_tree.specs.Paths.{row_at, edit_row, Standing, standing_at}
use Rattle.eden_tree.proofs.CallerLemmas.{reads_on, edits_one, edits_nothing, edits_same, edits_alike, edits_twice, steps_down, child_of-with_child, with_child-same}
use Rattle.eden_tree.proofs.CallerLemmas.{same-refl, find_row-put_row, find_row-set_row}
use Rattle.eden_coupling.specs.Chains.{IsLoadedAt, NoneMarked, StaysLoaded}
use Rattle.eden_coupling.specs.Changing.{MayMove, changed, files_left, files_moved, marked_source, moved_in, placed, with_listing}
use Rattle.eden_coupling.specs.Kept.{IsTable, IsKept}
use Rattle.eden_coupling.specs.Listings.{listing_of, Place}
use Rattle.eden_coupling.specs.Moving.{CanMove}
use Rattle.eden_coupling.specs.NumberKept.{KeepsNumbers}
use Rattle.eden_coupling.specs.NumberSaves.{HasStored, IsSameOver}
use Rattle.eden_coupling.specs.NumberUnloads.{IsPutAway, own_before, empty, numbers_before, UnloadsAway, none, one_more}
use Rattle.eden_coupling.specs.Numberings.{in_files, numbers}
use Rattle.eden_coupling.specs.Shown.{shown_in, IsFrom}
use Rattle.eden_coupling.specs.Ties.{IsAway, Tied}
use Rattle.eden_coupling.specs.Unloading.{HasNoneInside}
use Rattle.eden_coupling.proofs.CallerLemmas.{place_at, at_changed, away_row, by_origin, left_elsewhere, loads_alike, loaded_found, loaded_there, moved_elsewhere, none_marked_with}
use Rattle.eden_coupling.proofs.CallerLemmas.{other_from, own_from, own_loaded_kept, put_table, replaced_other, unloads_away_table}
use Rattle.eden_coupling.proofs.CallerLemmas.{empty_rows, hold_keeps, put_away_keeps, stored_is}
use Rattle.eden_coupling.proofs.CallerLemmas.{IsLeaf, back_kept, back_marked, held_moved, went_kept, went_cleared}
use Rattle.eden_inode.specs.Saved.{AreSavedAt}
use Rattle.eden_materialise.specs.EntryMoves.{may_have_file, own_number, Clears, nothing, removed, failed, IsMoved, IsUnmoved}
use Rattle.eden_ops.specs.Carrying.{CanCarry, CanHold, IsBareAt, IsReady, Takes, without_at}
use Rattle.eden_ops.specs.Changes.{SameNames, StaysOrBecomesOwn, numbered_at}
use Rattle.eden_ops.specs.Laws.{Grows}
use Rattle.eden_ops.specs.Letting.{LetsGo}
use Rattle.eden_ops.specs.Relocating.{GoesAlong, MarksAlone, StaysBeside}
use Rattle.eden_ops.specs.Stamps.{stamp_at, NoneStamped, StampsGoAlong}
use Rattle.eden_ops.proofs.Bare.{bare, bare_at, without_stamp}
use Rattle.eden_ops.proofs.Going.{lets_go, goes_marks, kept_elsewhere, loaded_elsewhere}
use Rattle.eden_ops.proofs.Growing.{grows_edit}
use Rattle.eden_ops.proofs.Names.{face, face_at, names_alike, fewer_alike}
use Rattle.eden_ops.proofs.Relocation.{can_move, marked_face, not_front, unmoved_marks}
use Rattle.eden_ops.proofs.Roots.{comes_on, root_grows, root_left, root_moved, root_unmoved}
use Rattle.eden_ops.proofs.Saving.{grows_loads}
use Rattle.eden_ops.proofs.Stamped.{left_stamps}
use Rattle.eden_ops.proofs.Stamps.{stamp_in, stamp_with}

-- the number and the kind of an entry
abbrev numbered : Row → ℕ × Kind
numbered y = (y.number, y.kind)

-- the entries of a loaded directory, by their paths
entries_at : (p : Path) (x y : Row) (d : Directory) → row_at p x ≡ Some y → child_of y ≡ Some d → (n : Name)
    → numbered_at (p ++ n ∷ []) x ≡ option_map numbered (find_row n d.rows)
entries_at p x y d at holds n =
    ap (option_map numbered) (reads_on p (n ∷ []) x ∙ ap (option_and_then (row_at (n ∷ []))) at
    ∙ ap (option_and_then (λ (c : Directory). option_and_then (row_at []) (find_row n c.rows))) holds)
    ∙ by (find_row n d.rows)
  where
    by : (o : Option Row) → option_map numbered (option_and_then (row_at []) o) ≡ option_map numbered o
    by None = refl
    by (Some w) = refl

-- ---- it is taken out

module _ (p : Path) (x : Row) (r : IsReady p x) where
  takes : (clock : ℕ) (F : Stored) → UnloadsAway ⊥ clock 0 F x F (without_at p x) 1
  takes clock F = one_more F x 0 F (without_at p x) none (record {
    path = p;
    row = r.row;
    directory = r.directory;
    at = r.at;
    holds = r.holds;
    old = omega arith;
    none_inside = r.none_inside;
    gone = refl;
    put_away = λ h. absurd h;
  })

  -- where its numbers are saved, it is put away
  is_put_away : (F : Stored) → AreSavedAt F p x → IsPutAway F r.row r.directory F
  is_put_away F saved = by r.row.origin refl where
    by : (o : Origin) → r.row.origin ≡ o → IsPutAway F r.row r.directory F
    by origin.Own is = own_before is r.saved refl
    by origin.Empty is = empty is refl
    by (origin.Object id) is = numbers_before id is (saved r.row r.at r.directory id r.holds is) refl

  pub lets_take : LetsGo p x (without_at p x)
  lets_take = lets_go ⊥ 0 0 (λ k. None) x (λ k. None) (without_at p x) 1 (takes 0 (λ k. None)) p
      (with_child None r.row, sym (edits_alike p (λ w. with_child None r.row) (with_child None) x r.row r.at refl))

  -- its entry is there still
  pub left_there : row_at p (without_at p x) ≡ Some (with_child None r.row)
  left_there = at_changed p (with_child None) x r.row r.at

  pub taken_back : with_listing p r.directory (without_at p x) ≡ x
  taken_back =
      edits_twice p (with_child (Some r.directory)) (with_child None) x
      ∙ edits_same p (λ w. with_child (Some r.directory) (with_child None w)) x r.row r.at (with_child-same r.row r.directory r.holds)

  taken_out_table : (next : ℕ) → IsTable x next → IsTable (without_at p x) next
  taken_out_table next table = unloads_away_table ⊥ 0 0 next (λ k. None) x (λ k. None) (without_at p x) 1 table (takes 0 (λ k. None))

  module _ (z : Row) (o : Option Directory) (t : Takes p x z o) where
    pub taken_table : (next : ℕ) → IsTable x next → IsTable z next
    taken_table next table =
        let P : Row → Type 0 = λ a. IsTable a next in
        subst P (sym t.is) (taken_out_table next table)

    -- the table is kept, and its numbers, and it shows the same
    pub taken_over : (R : Repository) (F : Stored) (next : ℕ) → IsTable x next → IsKept R F x next → KeepsNumbers R F x next → AreSavedAt F p x
        → IsSameOver R F F x z next × KeepsNumbers R F z next
    taken_over R F next table k numbers saved =
        let P : Row → Type 0 = λ a. IsSameOver R F F x a next × KeepsNumbers R F a next in
        subst P (sym t.is) (put_away_keeps R F F x r.row next p r.directory table k numbers r.at r.holds r.none_inside (is_put_away F saved))

    pub taken_some : o ≡ None → ⊥
    taken_some is = none-some r.directory (sym is ∙ (t.taken r.row r.at).0 ∙ r.holds)

    pub taken_is : (y : Row) (d e : Directory) → row_at p x ≡ Some y → child_of y ≡ Some d → o ≡ Some e → (e ≡ d) × (y.kind ≡ kind.Dir)
    taken_is y d e at holds is =
        let is_some : IsSome (child_of y) = (let P : Option Directory → Type 0 = λ a. IsSome a in subst P (sym holds) refl) in
        (same_Some e d (sym is ∙ (t.taken y at).0 ∙ holds), (t.taken y at).1 is_some)

-- ---- it is put back

module _ (honest : Type 0) (R : Repository) (F : Stored) (next : ℕ) (p : Path) (x : Row) (d : Directory) (h : CanHold honest R F next p x d) where
  pub held_table : IsTable x next → IsTable (with_listing p d x) next
  held_table table = put_table x next p d table h.none_inside h.storable

  pub held_kept : honest → IsTable x next → IsKept R F x next → IsKept R F (with_listing p d x) next
  held_kept good table k =
      by_origin h.row.origin (IsKept R F (with_listing p d x) next) (h.kept good)
      (λ own. own_loaded_kept R F x next table k p h.row d h.at h.dir h.empty h.saved h.none_inside h.storable own (h.held good own))

  pub held_numbers : honest → KeepsNumbers R F x next → KeepsNumbers R F (with_listing p d x) next
  held_numbers good k = (hold_keeps R F x h.row next p d k h.at h.empty h.none_inside (h.numbers good)).keeps

  pub held_same : honest → KeepsNumbers R F x next → (q : Path) → numbers (in_files F) (with_listing p d x) q ≡ numbers (in_files F) x q
  held_same good k = (hold_keeps R F x h.row next p d k h.at h.empty h.none_inside (h.numbers good)).same

  pub held_alike : honest → shown_in R F (with_listing p d x) ≡ shown_in R F x
  held_alike good =
      loads_alike R F p x h.row d h.at h.empty h.dir h.none_inside
      (by_origin h.row.origin (IsFrom R (own_files F) h.row d) (λ other. other_from R F h.row d other (h.from good other)) (λ own. own_from R F h.row d own (h.held good own)))

  pub held_grows : Grows x (with_listing p d x)
  held_grows = grows_edit p x h.row d h.at h.empty h.dir

  pub held_marks : NoneMarked x (with_listing p d x)
  held_marks = none_marked_with p x h.row d h.at (λ m v found. inr (h.none_inside m v found)) h.saved

  held_at : row_at p (with_listing p d x) ≡ Some (with_child (Some d) h.row)
  held_at = at_changed p (with_child (Some d)) x h.row h.at

  pub held_there : IsLoadedAt p (with_listing p d x)
  held_there = loaded_there p (with_listing p d x) (with_child (Some d) h.row) d held_at (child_of-with_child (Some d) h.row)

  -- with its entries
  pub held_entries : (n : Name) → numbered_at (p ++ n ∷ []) (with_listing p d x) ≡ option_map numbered (find_row n d.rows)
  held_entries n = entries_at p (with_listing p d x) (with_child (Some d) h.row) d held_at (child_of-with_child (Some d) h.row) n

-- ---- its entry can move

pub ready_of : (p : Path) (x : Row) → IsBareAt p x → IsLoadedAt p x → IsReady p x
ready_of p x bare loaded =
    let l = loaded_found p x loaded in
    let fine = bare l.row l.directory l.at l.holds in
    record { row = l.row; directory = l.directory; at = l.at; holds = l.holds; saved = fine.0; none_inside = fine.1 }

pub can_bring : (x z : Row) (from to p : Path) (n : Name) (q : Path) (m : Name) → from ≡ p ++ n ∷ [] → to ≡ q ++ m ∷ [] → CanCarry x from to → IsReady from x → z ≡ without_at from x
    → CanMove z p n q m
can_bring x z from to p n q m split cut c r is =
    let left = lets_take from x r in
    let off = not_front from q m (ap (behind_of from) (sym cut) ∙ c.can.not_below) in
    subst (λ (a : Row). CanMove a p n q m) (sym is)
    (can_move x from to p n q m split cut c (without_at from x) (kept_elsewhere from x (without_at from x) left) (with_child None r.row) (left_there from x r) (child_of-with_child None r.row)
    (loaded_elsewhere from x (without_at from x) left q off (c.can.above q m cut)))

-- ---- where the entry is then

own_some : (o : Option Row) (k : ℕ) → own_number o ≡ Some k → (w : Row) × ((o ≡ Some w) × (w.number ≡ k))
own_some None k is = absurd (none-some k is)
own_some (Some w) k is = (w, (refl, by (may_have_file w.kind w.origin) is)) where
  by : (b : Bool) → (if b then Some w.number else None) ≡ Some k → w.number ≡ k
  by true same = same_Some w.number k same
  by false same = absurd (none-some k same)

module _ (x : Row) (p : Path) (n : Name) (q : Path) (m : Name) (may : MayMove x p n q m) where
  moved_at : row_at (p ++ n ∷ []) x ≡ Some may.entry
  moved_at = reads_on p (n ∷ []) x ∙ ap (option_and_then (row_at (n ∷ []))) may.at_from ∙ steps_down n [] may.from may.entry may.source may.holds_source may.there

  pub marked_there : row_at (p ++ n ∷ []) (marked_source x p n q m may) ≡ Some may.entry
  marked_there =
      let d = record may.source { unsaved = true } in
      let y = with_child (Some d) may.from in
      reads_on p (n ∷ []) (marked_source x p n q m may) ∙ ap (option_and_then (row_at (n ∷ []))) (at_changed p (with_child (Some d)) x may.from may.at_from)
      ∙ steps_down n [] y may.entry d (child_of-with_child (Some d) may.from) may.there

  there_placed : (rows : List (Name × Row)) (w : Row) → find_row m (placed (find_row m rows) m w rows) ≡ Some w
  there_placed rows w = elim (find_row m rows) as (λ o. find_row m rows ≡ o → find_row m (placed o m w rows) ≡ Some w) [
    | None ↦ λ none. find_row-put_row m m w rows none ∙ ap (λ (b : Bool). cond b (Some w) (find_row m rows)) (same-refl m)
    | Some was ↦ λ some. find_row-set_row m m w was rows some ∙ ap (λ (b : Bool). cond b (Some w) (find_row m rows)) (same-refl m)
  ] refl

  pub moved_there : row_at (q ++ m ∷ []) (moved_in x p n q m may) ≡ Some may.entry
  moved_there =
      let d = changed may.target m (Some may.entry) in
      let y = with_child (Some d) may.to in
      reads_on q (m ∷ []) (moved_in x p n q m may)
      ∙ ap (option_and_then (row_at (m ∷ []))) (at_changed q (with_child (Some d)) (with_listing p (changed may.source n None) x) may.to may.at_to)
      ∙ steps_down m [] y may.entry d (child_of-with_child (Some d) may.to) (there_placed may.target.rows may.entry)

  -- its own file, if it has one, is as it was
  module _ (F : Stored) (next : ℕ) (t : Tied F x next) where
    away : IsAway x may.entry.number
    away = away_row t.0 x next t.1.fits may.from may.source n may.entry (place_at p x may.from may.at_from) may.holds_source may.there may.unloaded

    pub left_file : files_left x p n q m may F may.entry.number ≡ F may.entry.number
    left_file = left_elsewhere F x p n q m may may.entry.number away

    abbrev after : Stored
    after = files_moved x p n q m may F

    moved_file : after may.entry.number ≡ F may.entry.number
    moved_file = moved_elsewhere F x next p n q m t may may.entry.number away

    cleared_file : (honest : Type 0) (old : ℕ) (G : Stored) (new : ℕ) → honest → (o : Option ℕ) → own_number (find_row m may.target.rows) ≡ o → Clears honest after old G new o
        → G may.entry.number ≡ F may.entry.number
    cleared_file honest old G new h _ is (nothing same count) = ap (λ (H : Stored). H may.entry.number) (same h) ∙ moved_file
    cleared_file honest old G new h _ is (removed k gone count) =
        let w = own_some (find_row m may.target.rows) k is in
        let off : k ≢ may.entry.number = λ same. replaced_other F x next p n q m t may w.0 w.1.0 (w.1.1 ∙ same) in
        ap (λ (H : Stored). H may.entry.number) (gone h) ∙ put_apart after k may.entry.number None off ∙ moved_file
    cleared_file honest old G new h _ is (failed k same count) = ap (λ (H : Stored). H may.entry.number) (same h) ∙ moved_file

-- ---- it can be put back there

-- what is known of the directory that was taken out
pub record IsTaken (x : Row) (from : Path) (d : Directory) : Type 0 where
  pub ready : IsReady from x
  pub is : d ≡ ready.directory
  pub dir : ready.row.kind ≡ kind.Dir

module _ (honest : Type 0) (R : Repository) (F : Stored) (x : Row) (next : ℕ) (from : Path) (d : Directory) (table : IsTable x next) (kept : honest → IsKept R F x next)
    (saved : honest → AreSavedAt F from x) (k : IsTaken x from d) where
  abbrev bare_row : Row
  bare_row = with_child None k.ready.row

  place : Place x k.ready.row
  place = place_at from x k.ready.row k.ready.at

  -- it is listed by its file, where it has one
  listed : honest → bare_row.origin ≡ origin.Own → HoldsEntries F bare_row.number (listing_of d)
  listed h own =
      let r = k.ready in
      let s = (kept h).ties.stored r.row r.directory place r.holds own in
      let P : List StoredEntry → Type 0 = λ es. HoldsEntries F r.row.number es in
      subst P (s.all r.saved ∙ ap listing_of (sym k.is)) s.held

  -- what is stored for its entry is what it has
  stored_own : (G : Stored) → (G bare_row.number ≡ F bare_row.number) → honest → bare_row.origin ≡ origin.Own → HasStored (in_files G) bare_row d
  stored_own G same h own =
      inl (stored_is (in_files G) bare_row origin.Own k.dir own ∙ held_moved F G bare_row.number (listing_of d) (sym same) (listed h own))

  stored_empty : (G : Stored) → honest → bare_row.origin ≡ origin.Empty → HasStored (in_files G) bare_row d
  stored_empty G h bare =
      let r = k.ready in
      let other : r.row.origin ≢ origin.Own = λ own. (let both : origin.Empty ≡ origin.Own = sym bare ∙ own in absurd (cc)) in
      inr (
        stored_is (in_files G) bare_row origin.Empty k.dir bare,
        ap (λ (e : Directory). e.rows) k.is ∙ empty_rows R r.row r.directory bare ((kept h).agrees r.row r.directory place r.holds other),
      )

  stored_object : (G : Stored) → (G bare_row.number ≡ F bare_row.number) → honest → (id : Id) → bare_row.origin ≡ origin.Object id → HasStored (in_files G) bare_row d
  stored_object G same h id object =
      let r = k.ready in
      inl (stored_is (in_files G) bare_row (origin.Object id) k.dir object ∙ ap (option_and_then (numbers_of id)) same
      ∙ saved h r.row r.at r.directory id r.holds object ∙ ap (λ (e : Directory). Some (listing_of e)) (sym k.is))

  stored_there : (G : Stored) → (G bare_row.number ≡ F bare_row.number) → honest → HasStored (in_files G) bare_row d
  stored_there G same h = by bare_row.origin refl where
    by : (o : Origin) → bare_row.origin ≡ o → HasStored (in_files G) bare_row d
    by origin.Own is = stored_own G same h is
    by origin.Empty is = stored_empty G h is
    by (origin.Object id) is = stored_object G same h id is

  pub can_hold : (G : Stored) (p : Path) (z : Row) → row_at p z ≡ Some bare_row → (honest → G bare_row.number ≡ F bare_row.number)
      → (honest → bare_row.origin ≢ origin.Own → IsKept R G (with_listing p k.ready.directory z) next) → CanHold honest R G next p z d
  can_hold G p z at same kept_so =
      let r = k.ready in
      let P : Directory → Type 0 = λ e. AreStorable (listing_of e) in
      let Q : Directory → Type 0 = λ e. IsKept R G (with_listing p e z) next in
      let T : Directory → Type 0 = λ e. IsFrom R no_files bare_row e in
      record {
        row = bare_row;
        at = at;
        dir = k.dir;
        empty = child_of-with_child None r.row;
        saved = ap (λ (e : Directory). e.unsaved) k.is ∙ r.saved;
        none_inside = subst HasNoneInside (sym k.is) r.none_inside;
        storable = subst P (sym k.is) (table.listed r.row r.directory place r.holds);
        held = λ h own. held_moved F G bare_row.number (listing_of d) (sym (same h)) (listed h own);
        from = λ h other.
            (let f = (kept h).agrees r.row r.directory place r.holds other in
            subst T (sym k.is) (record { items = f.items; had = f.had; each = f.each }));
        kept = λ h other. subst Q (sym k.is) (kept_so h other);
        numbers = λ h. stored_there G (same h) h;
      }

  module _ (p : Path) (n : Name) (q : Path) (m : Name) (split : from ≡ p ++ n ∷ []) (z : Row) (is : z ≡ without_at from x) (tied : honest → Tied F z next) where
    bare_at_z : row_at (p ++ n ∷ []) z ≡ Some bare_row
    bare_at_z = ap (λ (r : Path). row_at r z) (sym split) ∙ ap (row_at from) is ∙ left_there from x k.ready

    entry_is : (may : MayMove z p n q m) → may.entry ≡ bare_row
    entry_is may = same_Some may.entry bare_row (sym (moved_at z p n q m may) ∙ bare_at_z)

    -- .. where it isn't the mount's own
    module _ (other : bare_row.origin ≢ origin.Own) (h : honest) where
      abbrev leaf : IsLeaf x p n
      leaf = record {
        row = k.ready.row;
        directory = k.ready.directory;
        at = ap (λ (r : Path). row_at r x) (sym split) ∙ k.ready.at;
        holds = k.ready.holds;
        other = other;
        saved = k.ready.saved;
        none_inside = k.ready.none_inside;
      }

      abbrev taken : Row
      taken = edit_row (p ++ n ∷ []) (with_child None) x

      z_is : z ≡ taken
      z_is = is ∙ ap (λ (r : Path). edit_row r (with_child None) x) split

      table_then : IsTable taken next
      table_then =
          let P : Path → Type 0 = λ r. IsTable (edit_row r (with_child None) x) next in
          subst P split (taken_out_table from x k.ready next table)

      -- at the new path
      module _ (may : MayMove taken p n q m) (to : Path) (at : row_at to (moved_in taken p n q m may) ≡ Some bare_row) where
        abbrev made : Stored
        made = files_moved taken p n q m may F

        abbrev put_there : Row
        put_there = with_listing to k.ready.directory (moved_in taken p n q m may)

        cleared : (old : ℕ) (G : Stored) (new : ℕ) (o : Option ℕ) → own_number (find_row m may.target.rows) ≡ o → Clears honest made old G new o → IsKept R G put_there next
        cleared old G new _ own (nothing same count) = subst (λ (H : Stored). IsKept R H put_there next) (sym (same h)) (went_kept R F x next table (kept h) p n leaf table_then q m may to at)
        cleared old G new _ own (removed j gone count) =
            let w = own_some (find_row m may.target.rows) j own in
            let P : ℕ → Type 0 = λ i. IsKept R (without made i) put_there next in
            subst (λ (H : Stored). IsKept R H put_there next) (sym (gone h)) (subst P w.1.1 (went_cleared R F x next table (kept h) p n leaf table_then q m may to at w.0 w.1.0))
        cleared old G new _ own (failed j same count) = subst (λ (H : Stored). IsKept R H put_there next) (sym (same h)) (went_kept R F x next table (kept h) p n leaf table_then q m may to at)

      pub kept_there : (old : ℕ) (G : Stored) (u : Row) (new : ℕ) (to : Path) → row_at to u ≡ Some bare_row → IsMoved honest p n q m F z old G u new
          → IsKept R G (with_listing to k.ready.directory u) next
      kept_there old G u new to at moved =
          let P : Row → Type 0 = λ a. IsMoved honest p n q m F a old G u new in
          by (subst P z_is moved)
        where
          by : IsMoved honest p n q m F taken old G u new → IsKept R G (with_listing to k.ready.directory u) next
          by v =
              let Q : Row → Type 0 = λ a. IsKept R G (with_listing to k.ready.directory a) next in
              subst Q (sym v.root) (cleared v.may to (ap (row_at to) (sym v.root) ∙ at) old G new (own_number (find_row m v.may.target.rows)) refl v.files)

      -- .. or where it was
      pub kept_here : (G : Stored) (u : Row) → row_at from u ≡ Some bare_row → IsUnmoved honest p n q m F z G u → IsKept R G (with_listing from k.ready.directory u) next
      kept_here G u at unmoved =
          let P : Row → Type 0 = λ a. IsUnmoved honest p n q m F a G u in
          let Q : Path → Type 0 = λ r. IsKept R G (with_listing r k.ready.directory u) next in
          subst Q (sym split) (by (ap (λ (r : Path). row_at r u) (sym split) ∙ at) (subst P z_is unmoved))
        where
          by : row_at (p ++ n ∷ []) u ≡ Some bare_row → IsUnmoved honest p n q m F taken G u → IsKept R G (with_listing (p ++ n ∷ []) k.ready.directory u) next
          by there (inl same) =
              let T : Stored → Type 0 = λ H. IsKept R H (with_listing (p ++ n ∷ []) k.ready.directory u) next in
              let V : Row → Type 0 = λ a. IsKept R F (with_listing (p ++ n ∷ []) k.ready.directory a) next in
              subst T (sym (same.1 h)) (subst V (sym same.0) (back_kept R F x next table (kept h) p n leaf table_then (ap (row_at (p ++ n ∷ [])) (sym same.0) ∙ there)))
          by there (inr left) =
              let may = left.1.0 in
              let T : Stored → Type 0 = λ H. IsKept R H (with_listing (p ++ n ∷ []) k.ready.directory u) next in
              let V : Row → Type 0 = λ a. IsKept R (files_left taken p n q m may F) (with_listing (p ++ n ∷ []) k.ready.directory a) next in
              subst T (sym (left.1.1.1 h))
              (subst V (sym left.1.1.0) (back_marked R F x next table (kept h) p n leaf table_then q m may (ap (row_at (p ++ n ∷ [])) (sym left.1.1.0) ∙ there)))

    pub hold_there : (old : ℕ) (G : Stored) (u : Row) (new : ℕ) (to : Path) → to ≡ q ++ m ∷ [] → IsMoved honest p n q m F z old G u new → CanHold honest R G next to u d
    hold_there old G u new to cut h =
        let at = ap (λ (r : Path). row_at r u) cut ∙ ap (row_at (q ++ m ∷ [])) h.root ∙ moved_there z p n q m h.may ∙ ap (λ (r : Row). Some r) (entry_is h.may) in
        can_hold G to u at
        (λ good. ap (λ (r : Row). G r.number) (sym (entry_is h.may))
        ∙ cleared_file z p n q m h.may F next (tied good) honest old G new good (own_number (find_row m h.may.target.rows)) refl h.files ∙ ap (λ (r : Row). F r.number) (entry_is h.may))
        (λ good other. kept_there other good old G u new to at h)

    row_here : (G : Stored) (u : Row) → IsUnmoved honest p n q m F z G u → row_at from u ≡ Some bare_row
    row_here G u (inl same) = ap (row_at from) (same.0 ∙ is) ∙ left_there from x k.ready
    row_here G u (inr left) = ap (λ (r : Path). row_at r u) split ∙ ap (row_at (p ++ n ∷ [])) left.1.1.0 ∙ marked_there z p n q m left.1.0 ∙ ap (λ (r : Row). Some r) (entry_is left.1.0)

    file_here : (G : Stored) (u : Row) → IsUnmoved honest p n q m F z G u → honest → G bare_row.number ≡ F bare_row.number
    file_here G u (inl same) good = ap (λ (H : Stored). H bare_row.number) (same.1 good)
    file_here G u (inr left) good =
        let may = left.1.0 in
        ap (λ (H : Stored). H bare_row.number) (left.1.1.1 good) ∙ ap (λ (r : Row). files_left z p n q m may F r.number) (sym (entry_is may))
        ∙ left_file z p n q m may F next (tied good) ∙ ap (λ (r : Row). F r.number) (entry_is may)

    pub hold_here : (G : Stored) (u : Row) → IsUnmoved honest p n q m F z G u → CanHold honest R G next from u d
    hold_here G u unmoved =
        can_hold G from u (row_here G u unmoved) (file_here G u unmoved) (λ good other. kept_here other good G u (row_here G u unmoved) unmoved)

-- ---- what that leaves

-- a directory put at a path in either: entries alike stay alike
module _ (p : Path) (d : Directory) (y : Row) where
  abbrev at_put : Path → Option Path → Row → Option Standing
  at_put r o c = grafted o (λ s. standing_at s (with_child (Some d) y)) (standing_at r c)

  face_of : (r : Path) (c : Row) → row_at p c ≡ Some y → face_at r (with_listing p d c) ≡ option_map face (option_map without_stamp (at_put r (behind_of p r) c))
  face_of r c at = ap (option_map face) (sym (bare_at (row_at r (with_listing p d c))) ∙ ap (option_map without_stamp) (edits_one p (with_child (Some d)) c y r at))

  face_by : (a b : Row) (r : Path) → face_at r b ≡ face_at r a → (o : Option Path)
      → option_map face (option_map without_stamp (at_put r o b)) ≡ option_map face (option_map without_stamp (at_put r o a))
  face_by a b r alike None = ap (option_map face) (bare_at (row_at r b)) ∙ alike ∙ sym (ap (option_map face) (bare_at (row_at r a)))
  face_by a b r alike (Some s) = refl

  face_put : (a b : Row) → row_at p a ≡ Some y → row_at p b ≡ Some y → ((r : Path) → face_at r b ≡ face_at r a) → (r : Path)
      → face_at r (with_listing p d b) ≡ face_at r (with_listing p d a)
  face_put a b in_a in_b alike r = face_of r b in_b ∙ face_by a b r (alike r) (behind_of p r) ∙ sym (face_of r a in_a)

module _ (honest : Type 0) (R : Repository) (F : Stored) (next : ℕ) (x : Row) (from : Path) (d : Directory) (k : IsTaken x from d) (p : Path) (n : Name) (q : Path) (m : Name)
    (split : from ≡ p ++ n ∷ []) (z : Row) (is : z ≡ without_at from x) where
  left_of : LetsGo from x z
  left_of = subst (λ (a : Row). LetsGo from x a) (sym is) (lets_take from x k.ready)

  -- with its stamp
  stamp_taken : (s : ℕ) → d.stamp ≡ s → stamp_at from x ≡ Some s
  stamp_taken s is_s =
      ap stamp_in k.ready.at ∙ ap (option_map (λ (e : Directory). e.stamp)) k.ready.holds ∙ ap (λ (e : Directory). Some e.stamp) (sym k.is) ∙ ap (λ (i : ℕ). Some i) is_s

  -- it went
  module _ (old : ℕ) (G : Stored) (u : Row) (new : ℕ) (to : Path) (h : CanHold honest R G next to u d) where
    abbrev v : Row
    v = with_listing to d u

    pub went_stays : StaysLoaded z u → StaysBeside from to x v
    went_stays stays r off other loaded = grows_loads u v (held_grows honest R G next to u d h) r (stays r (loaded_elsewhere from x z left_of r off loaded))

    pub went_along : GoesAlong from to x v
    went_along = record {
      loaded = held_there honest R G next to u d h;
      entries = λ n.
          held_entries honest R G next to u d h n ∙ ap (λ (e : Directory). option_map numbered (find_row n e.rows)) k.is
          ∙ sym (entries_at from x k.ready.row k.ready.directory k.ready.at k.ready.holds n);
    }

    pub went_stamps : NoneStamped z u → StampsGoAlong from to x v
    went_stamps still r s is_s = elim (stamp_with to u h.row d h.at (λ m w found. inr (h.none_inside m w found)) s r is_s) [
      | inl here ↦ inr (here.0, stamp_taken s here.1)
      | inr was ↦ inl (left_stamps from x z left_of r s (still r s was))
    ]

    pub went_marks : NoneMarked z u → NoneMarked x v
    went_marks marks r unsaved = goes_marks from x z left_of r (marks r (held_marks honest R G next to u d h r unsaved))

    pub went_root : IsMoved honest p n q m F z old G u new → StaysOrBecomesOwn x.origin v.origin
    went_root moved =
        comes_on x.origin u.origin v.origin
        (comes_on x.origin z.origin u.origin (root_left from x z left_of) (root_moved honest p n q m F z old G u new moved)) (root_grows u v (held_grows honest R G next to u d h))

  -- it didn't
  module _ (G : Stored) (u : Row) (unmoved : IsUnmoved honest p n q m F z G u) (h : CanHold honest R G next from u d) where
    abbrev back : Row
    back = with_listing from d u

    moved_alike : IsUnmoved honest p n q m F z G u → (r : Path) → face_at r u ≡ face_at r z
    moved_alike (inl same) r = ap (face_at r) same.0
    moved_alike (inr left) r = ap (face_at r) left.1.1.0 ∙ marked_face z p n q m left.1.0 r

    back_is : with_listing from d z ≡ x
    back_is = ap (λ (e : Directory). with_listing from e z) k.is ∙ ap (with_listing from k.ready.directory) is ∙ taken_back from x k.ready

    row_u : row_at from u ≡ Some (with_child None k.ready.row)
    row_u = by unmoved where
      by : IsUnmoved honest p n q m F z G u → row_at from u ≡ Some (with_child None k.ready.row)
      by (inl same) = ap (row_at from) (same.0 ∙ is) ∙ left_there from x k.ready
      by (inr left) =
          ap (λ (r : Path). row_at r u) split ∙ ap (row_at (p ++ n ∷ [])) left.1.1.0 ∙ marked_there z p n q m left.1.0 ∙ sym (moved_at z p n q m left.1.0)
          ∙ ap (λ (r : Path). row_at r z) (sym split) ∙ ap (row_at from) is ∙ left_there from x k.ready

    back_alike : (r : Path) → face_at r back ≡ face_at r x
    back_alike r =
        face_put from d (with_child None k.ready.row) z u (ap (row_at from) is ∙ left_there from x k.ready) row_u (moved_alike unmoved) r ∙ ap (face_at r) back_is

    pub back_names : SameNames x back
    back_names = names_alike x back back_alike

    pub back_fewer : StaysLoaded back x
    back_fewer = fewer_alike x back back_alike

    pub back_stays : StaysLoaded x back
    back_stays = fewer_alike back x (λ r. sym (back_alike r))

    pub back_stamps : NoneStamped z u → NoneStamped x back
    back_stamps still r s is_s = elim (stamp_with from u h.row d h.at (λ m w found. inr (h.none_inside m w found)) s r is_s) [
      | inl here ↦ subst (λ (a : Path). stamp_at a x ≡ Some s) (sym here.0) (stamp_taken s here.1)
      | inr was ↦ left_stamps from x z left_of r s (still r s was)
    ]

    pub back_marks : MarksAlone from x back
    back_marks r unsaved =
        let P : Path → Type 0 = λ a. MarksAlone a z u in
        elim (subst P (sym split) (unmoved_marks z p n q m honest F G u unmoved) r (held_marks honest R G next from u d h r unsaved)) [
          | inl in_it ↦ inl in_it
          | inr was ↦ inr (goes_marks from x z left_of r was)
        ]

    pub back_root : StaysOrBecomesOwn x.origin back.origin
    back_root =
        comes_on x.origin u.origin back.origin (comes_on x.origin z.origin u.origin (root_left from x z left_of) (root_unmoved honest p n q m F z G u unmoved))
        (root_grows u back (held_grows honest R G next from u d h))

-- ---- at a path, where an entry may be or none

-- f of the entry there
pub edited : {S O : Type 0} (f : Row → Row) (p : Path) (x z : Row) (s : S) (answer : Option O) → IfNone answer (row_at p x ≡ None) → IfNone answer (z ≡ x)
    → IfSome answer (IsChanged (λ y t v o. v ≡ f y) p x z s) → z ≡ edit_row p f x
edited f p x z s None absent kept c = kept ∙ sym (edits_nothing p f x absent)
edited f p x z s (Some a) absent kept c = c.is ∙ edits_alike p (λ w. c.after) f x c.before c.was c.done
