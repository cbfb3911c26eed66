-- An entry that goes to another path: the steps before, and what can move then.
use Rattle.std.proofs.Common.{◌≡◌, ◌≤◌, ℕ, Bool, true, [], ◌∷◌, ◌++◌, length, Option, Some, None, Result, Ok, Err, IsErr, IfSome, IfErr, OnErr}
use Rattle.std.proofs.Common.{refl, sym, ap, ◌∙◌, subst, inl, inr, arith, append_assoc, length-append}
use Rattle.std.proofs.lemmas.List.{append-nil}
use Rattle.std.proofs.lemmas.Option.{none-some}
use Rattle.std.proofs.lemmas.Result.{on_ok_weaker, on_err_weaker}
use Rattle.std.specs.Option.{option_map, option_and_then, is_some}
use Rattle.std.specs.Result.{IsErrAnd}
use Rattle.eden_model.specs.declared.fault.Fault.{Fault}
use Rattle.eden_model.specs.declared.world.World.{Ghosts}
use Rattle.eden_model.specs.Operations.{move}
use Rattle.eden_model.specs.Paths.{behind_of}
use Rattle.eden_model.specs.Trees.{Name, Path, Tree, grafted}
use Rattle.eden_model.proofs.CallerLemmas.{behind_sound, behind_back}
use Rattle.eden_overlay.specs.declared.files.Files.{Ghosts as Files}
use Rattle.eden_overlay.specs.Files.{Stored}
use Rattle.eden_tree.specs.Directory.{Row, Directory, child_of, with_child}
use Rattle.eden_tree.specs.Rows.{find_row}
use Rattle.eden_tree.specs.Paths.{row_at, Standing, standing, standing_at}
use Rattle.eden_tree.proofs.CallerLemmas.{reads_on, edits_one, steps_down, child_of-with_child}
use Rattle.eden_coupling.specs.Chains.{IsLoadedAt, IsUnsavedAt, StaysLoaded}
use Rattle.eden_coupling.specs.Changing.{MayMove, marked_source}
use Rattle.eden_coupling.specs.Moving.{CanMove}
use Rattle.eden_coupling.proofs.CallerLemmas.{map_some, loaded_there, loaded_found, marked_alone}
use Rattle.eden_inode.specs.Tables.{Table, shows_numbers}
use Rattle.eden_inode.proofs.CallerLemmas.{places_then}
use Rattle.eden_materialise.specs.EntryMoves.{IsUnmoved}
use Rattle.eden_materialise.specs.Faults.{IsStoreFault}
use Rattle.eden_ops.specs.Changes.{SameNames}
use Rattle.eden_ops.specs.Carrying.{CanCarry, IsOwnAt}
use Rattle.eden_ops.specs.Relocating.{GoesAlong, IsUnloadedAt, StaysBeside, MarksAlone, Readies, Relocates}
use Rattle.eden_ops.proofs.Bare.{bare_at, without_stamp, some_pair}
use Rattle.eden_ops.proofs.Changing.{is_in}
use Rattle.eden_ops.proofs.Names.{names_same, fewer_same, names_on, face, face_at, names_alike, fewer_alike}
use Rattle.eden_ops.proofs.Moves.{move_alike}
use Rattle.eden_ops.proofs.Owned.{behind_itself}
use Rattle.eden_ops.proofs.Roots.{comes_on}
use Rattle.eden_ops.proofs.Saving.{fault_count}
use Rattle.eden_ops.proofs.Stamped.{stamps_on}
use Rattle.eden_ops.proofs.Walking.{front_loaded}

-- ---- one step after another

module _ {W F : Type 0} (w : Ghosts W) (f : Files F W) where
  pub readies_on : (s t u : Table F) (a : Result (Unit {0}) Fault) → Readies w f s t (Ok tt) → Readies w f t u a → Readies w f s u a
  readies_on s t u a one two = record {
    shown = λ h. two.shown h ∙ one.shown h;
    numbers = λ h q. two.numbers h q ∙ one.numbers h q;
    names = names_on s.root t.root u.root (λ p was now. two.fewer p now) one.names two.names;
    fewer = λ p now. one.fewer p (two.fewer p now);
    stamps = stamps_on s.root t.root u.root one.stamps two.stamps;
    marks = λ q unsaved. one.marks q (two.marks q unsaved);
    root = comes_on s.root.origin t.root.origin u.root.origin one.root two.root;
    fault = subst (λ (k : ℕ). IfErr a (IsStoreFault k (f.failures u.files))) one.counted two.fault;
    counted = on_ok_weaker a (λ is. is ∙ one.counted) two.counted;
    next = two.next ∙ one.next;
    clock = two.clock ∙ one.clock;
    places = places_then s t u one.places two.places;
  }

  -- an error that is handed on
  pub readies_err : (s t : Table F) (r : Result (Unit {0}) Fault) (e : Fault) → IsErr r → IsErrAnd r (λ z. z ≡ e) → Readies w f s t (Err e) → Readies w f s t r
  readies_err s t (Ok x) e is told a = absurd (cc)
  readies_err s t (Err x) e is told a = subst (λ (z : Fault). Readies w f s t (Err z)) (sym told) a

-- ---- a step before, and then the entry goes, or doesn't

on_err_both : {X E : Type 0} (r : Result X E) (P Q S : Type 0) → (P → Q → S) → OnErr r P → OnErr r Q → OnErr r S
on_err_both (Ok u) P Q S f a b = tt
on_err_both (Err e) P Q S f a b = f a b

module _ {W F : Type 0} (w : Ghosts W) (f : Files F W) (from to : Path) (s t : Table F) (beside : StaysBeside from to s.root t.root)
    (there : IsLoadedAt from s.root → IsLoadedAt from t.root) where
  -- the step failed
  pub relocates_never : (e : Fault) → Readies w f s t (Err e) → Relocates w f from to s t (Err e)
  relocates_never e r = record {
    ok = λ h. tt;
    err = r.shown;
    renumbers = λ h. tt;
    unnumbered = r.numbers;
    names = r.names;
    fewer = r.fewer;
    fault = r.fault;
    counted = fault_count (f.failures s.files) (f.failures t.files) e r.fault;
    loaded = beside;
    stamps = λ q k is. inl (r.stamps q k is);
    moved = λ loaded. tt;
    stays = there;
    marks = tt;
    marked = λ q unsaved. inr (r.marks q unsaved);
    root = r.root;
    next = r.next;
    clock = r.clock;
    places = r.places;
  }

  -- it is done
  pub relocates_after : (u : Table F) (a : Result (Unit {0}) Fault) → Readies w f s t (Ok tt) → Relocates w f from to t u a → Relocates w f from to s u a
  relocates_after u a r x = record {
    ok = λ h. on_ok_weaker a (λ is. is ∙ ap (λ (T : Tree). move T from to) (r.shown h)) (x.ok h);
    err = λ h. on_err_weaker a (λ is. is ∙ r.shown h) (x.err h);
    renumbers = λ h. on_ok_weaker a (λ moves q. moves q ∙ move_alike (shows_numbers f t) (shows_numbers f s) (r.numbers h) from to q) (x.renumbers h);
    unnumbered = λ h. on_err_weaker a (λ same q. same q ∙ r.numbers h q) (x.unnumbered h);
    names = on_err_both a (SameNames t.root u.root) (StaysLoaded u.root t.root) (SameNames s.root u.root)
        (λ names fewer. names_on s.root t.root u.root (λ p was now. fewer p now) r.names names) x.names x.fewer;
    fewer = on_err_weaker a (λ fewer p now. r.fewer p (fewer p now)) x.fewer;
    fault = subst (λ (k : ℕ). IfErr a (IsStoreFault k (f.failures u.files))) r.counted x.fault;
    counted = subst (λ (k : ℕ). k ≤ f.failures u.files) r.counted x.counted;
    loaded = λ p off other loaded. x.loaded p off other (beside p off other loaded);
    stamps = λ q k is. elim (x.stamps q k is) [ inl was ↦ inl (r.stamps q k was) | inr moved ↦ inr (moved.0, r.stamps from k moved.1) ];
    moved = λ loaded. on_ok_weaker a (λ g. along g loaded) (x.moved (there loaded));
    stays = λ loaded. x.stays (there loaded);
    marks = on_ok_weaker a (λ marks q unsaved. r.marks q (marks q unsaved)) x.marks;
    marked = λ q unsaved. elim (x.marked q unsaved) [ inl in_it ↦ inl in_it | inr was ↦ inr (r.marks q was) ];
    root = comes_on s.root.origin t.root.origin u.root.origin r.root x.root;
    next = x.next ∙ r.next;
    clock = x.clock ∙ r.clock;
    places = places_then s t u r.places x.places;
  }
    where
      along : GoesAlong from to t.root u.root → IsLoadedAt from s.root → GoesAlong from to s.root u.root
      along g loaded = record { loaded = g.loaded; entries = λ n. g.entries n ∙ r.names from n loaded (there loaded) }

-- ---- fronts of paths

-- what isn't a front of a path isn't one of the path without its last name
pub not_front : (front q : Path) (k : Name) → behind_of front (q ++ k ∷ []) ≡ None → behind_of front q ≡ None
not_front front q k none = by (behind_of front q) refl where
  by : (o : Option Path) → behind_of front q ≡ o → o ≡ None
  by None is = refl
  by (Some r) is =
      absurd (none-some (r ++ k ∷ []) (sym none ∙ ap (λ (p : Path). behind_of front (p ++ k ∷ [])) (behind_sound front q r is)
      ∙ ap (behind_of front) (append_assoc front r (k ∷ [])) ∙ behind_back front (r ++ k ∷ [])))

-- .. which doesn't begin with the whole of it
pub not_whole : (q : Path) (k : Name) → behind_of (q ++ k ∷ []) q ≡ None
not_whole q k = by (behind_of (q ++ k ∷ []) q) refl where
  by : (o : Option Path) → behind_of (q ++ k ∷ []) q ≡ o → o ≡ None
  by None is = refl
  by (Some r) is =
      let l : length q ≡ length ((q ++ k ∷ []) ++ r) = ap length (behind_sound (q ++ k ∷ []) q r is) in
      absurd (omega (arith, l, length-append (q ++ k ∷ []) r, length-append q (k ∷ [])))

-- ---- what isn't loaded

abbrev mark_of : Directory → ℕ × Bool
mark_of d = (d.stamp, d.unsaved)

no_mark : (o : Option Directory) → option_map mark_of o ≡ None → o ≡ None
no_mark None is = refl
no_mark (Some d) is = cc

pub away_kept : (q : Path) (x z : Row) → standing_at q z ≡ standing_at q x → IsUnloadedAt q x → IsUnloadedAt q z
away_kept q x z same none w at =
    let y = map_some standing (row_at q x) (standing w) (sym (ap (option_map standing) at) ∙ same) in
    no_mark (child_of w) (sym (ap (λ (s : Standing). s.loaded) y.1.1) ∙ ap (option_map mark_of) (none y.0 y.1.0))

-- ---- what can move

-- the directory above an entry that is there
pub above_loaded : (x y : Row) (from p : Path) (n : Name) → from ≡ p ++ n ∷ [] → row_at from x ≡ Some y → IsLoadedAt p x
above_loaded x y from p n split at =
    let h = front_loaded x p n [] y (sym (ap (λ (q : Path). row_at q x) split) ∙ at) in
    loaded_there p x h.0 h.1.1.0 h.1.0 h.1.1.1

-- entries that stand alike are alike the mount's own
own_kept : (q : Path) (x z : Row) → standing_at q z ≡ standing_at q x → IsOwnAt q x → IsOwnAt q z
own_kept q x z same own w at =
    let y = map_some standing (row_at q x) (standing w) (sym (ap (option_map standing) at) ∙ same) in
    sym (ap (λ (s : Standing). s.origin) y.1.1) ∙ own y.0 y.1.0

-- an entry that can go, in a table where it isn't loaded and all else stands as before
module _ (x : Row) (p : Path) (n : Name) (q : Path) (m : Name) (c : CanCarry x (p ++ n ∷ []) (q ++ m ∷ [])) (z : Row)
    (alike : (r : Path) → behind_of (p ++ n ∷ []) r ≡ None → standing_at r z ≡ standing_at r x)
    (w : Row) (at : row_at (p ++ n ∷ []) z ≡ Some w) (shut : child_of w ≡ None) (loaded : IsLoadedAt q z) where
  to_behind : behind_of (p ++ n ∷ []) q ≡ None
  to_behind = not_front (p ++ n ∷ []) q m c.can.not_below

  may_go_there : (d : Directory) (y : Row) → row_at q z ≡ Some y → child_of y ≡ Some d → (o : Option Row) → find_row m d.rows ≡ o → IfSome o (λ v. child_of v ≡ None)
  may_go_there d y here holds None found = tt
  may_go_there d y here holds (Some v) found =
      away_kept (q ++ m ∷ []) x z (alike (q ++ m ∷ []) c.can.not_below) c.to_unloaded v
      (reads_on q (m ∷ []) z ∙ ap (option_and_then (row_at (m ∷ []))) here ∙ steps_down m [] y v d holds found)

  can_so : CanMove z p n q m
  can_so =
      let h = is_in (p ++ n ∷ []) p n z w refl at in
      let t = loaded_found q z loaded in
      record {
        from = h.row;
        source = h.directory;
        entry = w;
        at_from = h.at;
        holds_source = h.holds;
        own_from = own_kept p x z (alike p (not_whole p n)) (c.own_from p n refl) h.row h.at;
        there = h.there;
        unloaded = shut;
        to = t.row;
        target = t.directory;
        at_to = t.at;
        holds_target = t.holds;
        own_to = own_kept q x z (alike q to_behind) (c.own_to q m refl) t.row t.at;
        may_go = may_go_there t.directory t.row t.at t.holds (find_row m t.directory.rows) refl;
        other = λ is. none-some [] (sym c.can.not_below ∙ ap (behind_of (p ++ n ∷ [])) (sym is) ∙ behind_itself (p ++ n ∷ []));
      }

pub can_move : (x : Row) (from to p : Path) (n : Name) (q : Path) (m : Name) → from ≡ p ++ n ∷ [] → to ≡ q ++ m ∷ [] → CanCarry x from to → (z : Row)
    → ((r : Path) → behind_of from r ≡ None → standing_at r z ≡ standing_at r x) → (w : Row) → row_at from z ≡ Some w → child_of w ≡ None → IsLoadedAt q z
    → CanMove z p n q m
can_move x from to p n q m split cut c z alike w at shut loaded =
    let P : Path → Type 0 = λ r. CanCarry x r (q ++ m ∷ []) in
    let Q : Path → Type 0 = λ r. (s : Path) → behind_of r s ≡ None → standing_at s z ≡ standing_at s x in
    can_so x p n q m (subst P split (subst (CanCarry x from) cut c)) z (subst Q split alike) w (ap (λ (r : Path). row_at r z) (sym split) ∙ at) shut loaded

-- .. as one is that holds no directory
pub can_move_bare : (x : Row) (from to p : Path) (n : Name) (q : Path) (m : Name) → from ≡ p ++ n ∷ [] → to ≡ q ++ m ∷ [] → CanCarry x from to → IsUnloadedAt from x
    → CanMove x p n q m
can_move_bare x from to p n q m split cut c away =
    can_move x from to p n q m split cut c x (λ r off. refl) c.can.row c.can.there (away c.can.row c.can.there) (c.can.above q m cut)

-- what isn't loaded there isn't
pub bare_apart : (p : Path) (x : Row) → IsUnloadedAt p x → IsLoadedAt p x → ⊥
bare_apart p x away loaded = let l = loaded_found p x loaded in none-some l.directory (sym (away l.row l.at) ∙ l.holds)

-- what is shown once it moved, in the words of both paths
pub moves_shown : (now before old : Tree) (from to p q : Path) → now ≡ move before p q → before ≡ old → from ≡ p → to ≡ q → now ≡ move old from to
moves_shown now before old from to p q is same split cut =
    is ∙ ap (λ (T : Tree). move T p q) same ∙ ap (λ (r : Path). move old r q) (sym split) ∙ ap (λ (r : Path). move old from r) (sym cut)

-- ---- a move that failed

module _ (x : Row) (p : Path) (n : Name) (q : Path) (m : Name) where
  module _ (may : MayMove x p n q m) where
    abbrev marked : Directory
    marked = record may.source { unsaved = true }

    abbrev then : Row
    then = with_child (Some marked) may.from

    -- an entry below the marked directory
    below_marked : (k : Name) (s : Path) → standing_at (k ∷ s) then ≡ standing_at (p ++ k ∷ s) x
    below_marked k s =
        ap (λ (o : Option Directory). option_map standing (option_and_then (λ (d : Directory). option_and_then (row_at s) (find_row k d.rows)) o)) (child_of-with_child (Some marked) may.from)
        ∙ ap (λ (o : Option Directory). option_map standing (option_and_then (λ (d : Directory). option_and_then (row_at s) (find_row k d.rows)) o)) (sym may.holds_source)
        ∙ ap (λ (o : Option Row). option_map standing (option_and_then (row_at (k ∷ s)) o)) (sym may.at_from)
        ∙ ap (option_map standing) (sym (reads_on p (k ∷ s) x))

    -- each entry has its number and its kind, and is loaded where it was
    pub marked_face : (r : Path) → face_at r (marked_source x p n q m may) ≡ face_at r x
    marked_face r =
        ap (option_map face) (sym (bare_at (row_at r (marked_source x p n q m may))) ∙ ap (option_map without_stamp) (edits_one p (with_child (Some marked)) x may.from r may.at_from))
        ∙ by (behind_of p r) refl ∙ ap (option_map face) (bare_at (row_at r x))
      where
        by : (o : Option Path) → behind_of p r ≡ o
            → option_map face (option_map without_stamp (grafted o (λ s. standing_at s then) (standing_at r x))) ≡ option_map face (option_map without_stamp (standing_at r x))
        by None front = refl
        by (Some []) front =
            let here : row_at r x ≡ Some may.from = ap (λ (t : Path). row_at t x) (behind_sound p r [] front ∙ append-nil p) ∙ may.at_from in
            ap (λ (o : Option Directory). Some ((may.from.number, may.from.kind), is_some (option_map mark_of o))) (child_of-with_child (Some marked) may.from)
            ∙ ap (λ (b : Bool). Some ((may.from.number, may.from.kind), b)) (sym (some_pair mark_of (child_of may.from) ∙ ap is_some may.holds_source))
            ∙ sym (ap (λ (o : Option Row). option_map face (option_map without_stamp (option_map standing o))) here)
        by (Some (k ∷ s)) front =
            ap (λ (o : Option Standing). option_map face (option_map without_stamp o)) (below_marked k s ∙ ap (λ (t : Path). standing_at t x) (sym (behind_sound p r (k ∷ s) front)))

  pub unmoved_names : (honest : Type 0) (F G : Stored) (z : Row) → IsUnmoved honest p n q m F x G z → SameNames x z
  unmoved_names honest F G z (inl same) = names_same x z same.0
  unmoved_names honest F G z (inr left) =
      let may = left.1.0 in
      subst (SameNames x) (sym left.1.1.0) (names_alike x (marked_source x p n q m may) (marked_face may))

  pub unmoved_fewer : (honest : Type 0) (F G : Stored) (z : Row) → IsUnmoved honest p n q m F x G z → StaysLoaded z x
  unmoved_fewer honest F G z (inl same) = fewer_same x z same.0
  unmoved_fewer honest F G z (inr left) =
      let may = left.1.0 in
      subst (λ (y : Row). StaysLoaded y x) (sym left.1.1.0) (fewer_alike x (marked_source x p n q m may) (marked_face may))

  pub unmoved_marks : (honest : Type 0) (F G : Stored) (z : Row) → IsUnmoved honest p n q m F x G z → MarksAlone (p ++ n ∷ []) x z
  unmoved_marks honest F G z (inl same) r unsaved = inr (subst (IsUnsavedAt r) same.0 unsaved)
  unmoved_marks honest F G z (inr left) r unsaved = elim (marked_alone x p n q m left.1.0 r (subst (IsUnsavedAt r) left.1.1.0 unsaved)) [
    | inl here ↦ inl (n, ap (λ (s : Path). s ++ n ∷ []) (sym here))
    | inr was ↦ inr was
  ]
