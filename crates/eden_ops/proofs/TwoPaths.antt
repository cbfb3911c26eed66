-- What a rename answers.
use Rattle.std.proofs.Common.{◌≡◌, ◌≢◌, ◌≤◌, ◌⊎◌, ◌&&◌, ◌||◌, ◌++◌, ◌∷◌, ℕ, Bool, true, false, List, [], if◌then◌else◌, Option, Some, None, Ok, Err, sym, refl, ◌∙◌, ap, subst, inl, inr}
use Rattle.std.proofs.lemmas.Bool.{false≢true}
use Rattle.std.proofs.lemmas.List.{append-nil}
use Rattle.std.specs.Option.{option_map, is_some}
use Rattle.eden_model.specs.declared.errno.Errno.TheVariants.{ENOENT, EBUSY, EINVAL, ENOTEMPTY}
use Rattle.eden_model.specs.declared.fault.Fault.{Fault}
use Rattle.eden_model.specs.declared.fault.Fault.TheVariants as fault
use Rattle.eden_model.specs.declared.kind.Kind.{Kind}
use Rattle.eden_model.specs.declared.kind.Kind.TheVariants as kind
use Rattle.eden_model.specs.declared.node.Node.{Node}
use Rattle.eden_model.specs.declared.node.Node.TheVariants.{Dir}
use Rattle.eden_model.specs.declared.request.Request.{Request}
use Rattle.eden_model.specs.declared.request.Request.TheVariants as ask
use Rattle.eden_model.specs.declared.reply.Reply.{Reply}
use Rattle.eden_model.specs.declared.reply.Reply.TheVariants as say
use Rattle.eden_model.specs.declared.world.World.{Ghosts}
use Rattle.eden_model.specs.Operations.{At, Meets as Table_Meets, Says, Refuses, Whether, Unless, Moves, Replies, is_dir, is_front, move}
use Rattle.eden_model.specs.Paths.{behind_of, is_root}
use Rattle.eden_model.specs.Repository.{Repository, source_of, content_with}
use Rattle.eden_model.specs.Shown.{node_from}
use Rattle.eden_model.specs.Trees.{Name, Path, Tree, Walk, Passes, walk, Reach, reach}
use Rattle.eden_model.proofs.CallerLemmas.{path_eq-Decides, behind_sound}
use Rattle.eden_overlay.specs.declared.files.Files.{Ghosts as Files}
use Rattle.eden_overlay.specs.Files.{Stored}
use Rattle.eden_overlay.specs.Held.{own_files}
use Rattle.eden_cache.specs.Cache.{Cache}
use Rattle.eden_tree.specs.Directory.{Child, unloaded, loaded, Row, Directory, child_of}
use Rattle.eden_tree.specs.Paths.{row_at, Standing, standing}
use Rattle.eden_coupling.specs.Chains.{IsLoadedAt}
use Rattle.eden_coupling.proofs.CallerLemmas.{map_some, loaded_there}
use Rattle.eden_inode.specs.declared.seen.Seen.{Seen}
use Rattle.eden_inode.specs.Tables.{Table, shows}
use Rattle.eden_materialise.specs.Faults.{IsStoreFault}
use Rattle.eden_model.specs.declared.attempt.Attempt.TheVariants.{Finished}
use Rattle.eden_ops.specs.declared.walk_end.Stop.{Stop}
use Rattle.eden_ops.specs.declared.walk_end.Stop.TheVariants as stop
use Rattle.eden_ops.specs.Attempts.{Attempts, IsUnsaved, Wants, IsSeen, IsShown, Meets, MeetsShown, shown_node, stopped}
use Rattle.eden_cache.specs.Stock.{FindsTheSame}
use Rattle.eden_ops.specs.Faults.{IsDamaged, WantsNumbers, IsCaused, IsLawful}
use Rattle.eden_ops.specs.Keeping.{Keeps}
use Rattle.eden_ops.specs.Known.{known_by, known_node, known, is_silent, place_on, place}
use Rattle.eden_ops.specs.Laws.{Grows}
use Rattle.eden_ops.specs.Relocating.{CanRelocate}
use Rattle.eden_ops.specs.Renames.{IsTold, MayLand, Goes, IsPlainReply, IsByPaths, Lands, LandsShown}
use Rattle.eden_ops.proofs.Additions.{passes_above}
use Rattle.eden_ops.proofs.Answering.{Starts, answered, failed, first_here, says_at, some_inj}
use Rattle.eden_ops.proofs.Changing.{changed, refused}
use Rattle.eden_ops.proofs.Deeper.{stays_loaded}
use Rattle.eden_ops.proofs.Fetching.{away, shown_kind, is_loaded}
use Rattle.eden_ops.proofs.Finding.{finds_on}
use Rattle.eden_ops.proofs.Reached.{seen_at, shown_at}
use Rattle.eden_ops.proofs.Renames.{none_of_map}
use Rattle.eden_ops.proofs.Rounds.{caused_since}
use Rattle.eden_ops.proofs.Steps.{keeps_on, keeps_first, keeps_second, keeps_entries, keeps_counts}
use Rattle.eden_ops.proofs.Walking.{reach_here, walk_here, known_dir, known_unloaded}

-- ---- a directory or not

node_dir : (k : Kind) (c : Option (List ℕ)) (l : Bool) → k ≡ kind.Dir → is_dir (node_from k c l) ≡ true
node_dir kind.File c l is = cc
node_dir kind.Exec c l is = cc
node_dir kind.Link c l is = cc
node_dir kind.Dir c l is = refl

node_other : (k : Kind) (c : Option (List ℕ)) (l : Bool) → k ≢ kind.Dir → is_dir (node_from k c l) ≡ false
node_other kind.File c l other = refl
node_other kind.Exec c l other = refl
node_other kind.Link c l other = refl
node_other kind.Dir c l other = absurd (other refl)

known_as_dir : (c : Child) (k : Kind) (o : Option (List ℕ)) → k ≡ kind.Dir → is_dir (known_by c (node_from k o false)) ≡ true
known_as_dir unloaded k o is = node_dir k o false is
known_as_dir (loaded s u r) k o is = refl

-- what was seen, as it is shown
shown_as : (R : Repository) (F : Stored) (p : Path) (x : Row) (seen : Seen) (at : IsSeen p x seen) (met : Reach) → IsShown R F (row_at p x) met → (b : Bool) → IsTold seen b → (l : Bool)
    → is_dir (shown_node R F at.row l) ≡ b
shown_as R F p x seen at met h true told l = node_dir at.row.kind (content_with R (own_files F) (source_of at.row.number at.row.origin)) l (shown_kind p x seen at R F met h (told.yes refl))
shown_as R F p x seen at met h false told l = node_other at.row.kind (content_with R (own_files F) (source_of at.row.number at.row.origin)) l (λ k. (told.otherwise refl).1 (at.kind ∙ k))

-- .. and as it is known later
record IsStill (p : Path) (z : Row) (dir : Bool) : Type 0 where
  pub row : Row
  pub there : row_at p z ≡ Some row
  pub is : is_dir (known_node row) ≡ dir

module _ (p : Path) (x z : Row) (seen : Seen) (at : IsSeen p x seen) (grows : Grows x z) where
  known_as : (y : Row) (v : Standing) → row_at p z ≡ Some y → standing y ≡ v → v.kind ≡ at.row.kind → (at.row.kind ≢ kind.Dir → (standing at.row).loaded ≡ None → v.loaded ≡ None) → (b : Bool)
      → IsTold seen b → is_dir (known_node y) ≡ b
  known_as y v there is same leaf true told = by (told.yes refl) where
    by : (seen.loaded ≡ true) ⊎ (seen.kind ≡ kind.Dir) → is_dir (known_node y) ≡ true
    by (inl on) =
        let is_loaded = stays_loaded x z p grows (is_loaded p x seen at on) in
        ap is_dir (some_inj (known_node y) (Dir true) (sym (ap (option_map known_node) there) ∙ is_loaded))
    by (inr dir) = known_as_dir y.child y.kind None (ap (λ (s : Standing). s.kind) is ∙ same ∙ sym at.kind ∙ dir)
  known_as y v there is same leaf false told =
      let o = told.otherwise refl in
      let other : at.row.kind ≢ kind.Dir = λ k. o.1 (at.kind ∙ k) in
      let mark : Directory → ℕ × Bool = λ e. (e.stamp, e.unsaved) in
      let none = leaf other (ap (option_map mark) (away p x seen at o.0)) in
      let gone : child_of y ≡ None = none_of_map mark (child_of y) (sym (ap (λ (s : Standing). s.loaded) is ∙ none)) in
      ap is_dir (known_unloaded y gone) ∙ node_other y.kind None false (λ k. other (sym (ap (λ (s : Standing). s.kind) is ∙ same) ∙ k))

  still : (b : Bool) → IsTold seen b → IsStill p z b
  still b told =
      let v = grows.there p (standing at.row) (ap (option_map standing) at.there) in
      let y = map_some standing (row_at p z) v.0 (sym v.1.0) in
      record { row = y.0; there = y.1.0; is = known_as y.0 v.0 y.1.0 y.1.1 v.1.1.kind v.1.1.leaf b told }

-- ---- the checks of the paths alone

module _ (from to : Path) (dir : Bool) (paths : IsByPaths from to dir None) where
  goes : (G : Tree) (r : Reply) → MayLand G to dir r → Goes G from to dir r
  goes G r h =
      subst (λ (b : Bool). Whether b (Says say.Ok) (Unless (dir && is_front from to) EINVAL (Unless (is_front to from) ENOTEMPTY (MayLand G to dir))) r) (sym paths.0)
      (subst (λ (b : Bool). Unless b EINVAL (Unless (is_front to from) ENOTEMPTY (MayLand G to dir)) r) (sym paths.1.0)
      (subst (λ (b : Bool). Unless b ENOTEMPTY (MayLand G to dir) r) (sym paths.1.1) h))

  lands : (G : Tree) (r : Reply) → Goes G from to dir r → MayLand G to dir r
  lands G r h =
      subst (λ (b : Bool). Unless b ENOTEMPTY (MayLand G to dir) r) paths.1.1
      (subst (λ (b : Bool). Unless b EINVAL (Unless (is_front to from) ENOTEMPTY (MayLand G to dir)) r) paths.1.0
      (subst (λ (b : Bool). Whether b (Says say.Ok) (Unless (dir && is_front from to) EINVAL (Unless (is_front to from) ENOTEMPTY (MayLand G to dir))) r) paths.0 h))

  none_some : (o : Option Path) → is_some o ≡ false → o ≡ None
  none_some None is = refl
  none_some (Some r) is = absurd (false≢true (sym is))

  not_above : behind_of to from ≡ None
  not_above = none_some (behind_of to from) paths.1.1

  module _ (z : Row) (here : IsStill from z dir) (passes : walk (known z) to ≡ Passes) where
    -- what isn't a directory stands above nothing
    below_by : (b : Bool) → dir ≡ b → (o : Option Path) → behind_of from to ≡ o → o ≡ None
    below_by b is None o = refl
    below_by true is (Some r) o =
        let inside : is_front from to ≡ true = ap is_some o in
        absurd (false≢true (sym paths.1.0 ∙ ap (λ (d : Bool). d && is_front from to) is ∙ inside))
    below_by false is (Some []) o =
        let same : from ≡ to = sym (append-nil from) ∙ sym (behind_sound from to [] o) in
        absurd (false≢true (sym paths.0 ∙ (path_eq-Decides from to).1 same))
    below_by false is (Some (n ∷ r)) o =
        let up = passes_above (known z) [] from n r (subst (λ (q : Path). walk (known z) q ≡ Passes) (behind_sound from to (n ∷ r) o) passes) in
        let node = some_inj (known_node here.row) (Dir true) (sym (ap (option_map known_node) here.there) ∙ up) in
        absurd (false≢true (sym is ∙ sym here.is ∙ ap is_dir node))

    above_loaded : (p : Path) (n : Name) → to ≡ p ++ n ∷ [] → IsLoadedAt p z
    above_loaded p n split =
        let y = known_dir z p (passes_above (known z) [] p n [] (subst (λ (q : Path). walk (known z) q ≡ Passes) split passes)) in
        loaded_there p z y.0 y.1.1.0 y.1.0 y.1.1.1

    can : CanRelocate z from to
    can = record { row = here.row; there = here.there; above = above_loaded; not_below = below_by dir refl (behind_of from to) refl; not_above = not_above }

-- ---- the table

abbrev pub moves : Path → Path → Tree → Node → Reply → Type 0
moves from to G n = Moves G from to n

place_past : (from to : Path) (G : Tree) → walk G from ≡ Passes → place G (ask.Rename from to) ≡ place_on G to
place_past from to G on = ap (λ (v : Walk). place_on G (if is_silent v then from else to)) on

module _ (from to : Path) (root : is_root from ≡ false) (other : is_root to ≡ false) where
  no_root : (is_root from || is_root to) ≡ false
  no_root = ap (λ (b : Bool). b || is_root to) root ∙ other

  pub starts_rename : Starts (ask.Rename from to) from (Refuses ENOENT) (moves from to)
  starts_rename = record {
    says = λ G r h. subst (λ (b : Bool). Unless b EBUSY (At G from (Moves G from to)) r) (sym no_root) h;
    only = λ G r h. subst (λ (b : Bool). Unless b EBUSY (At G from (Moves G from to)) r) no_root h;
    at = λ G un. ap (λ (v : Walk). place_on G (if is_silent v then from else to)) un;
    plain = λ x is. cc;
  }

-- ---- an entry stands at the first path

-- what was met there, and what is kept since the request came
pub record Begins {W F : Type 0} (w : Ghosts W) (f : Files F W) (from to : Path) (s t : Table F) (c d : Cache) (seen : Seen) (dir : Bool) : Type 0 where
  pub root : is_root from ≡ false
  pub other : is_root to ≡ false
  pub at : IsSeen from t.root seen
  pub shown : w.honest → IsShown w.repository (f.stored t.files) (row_at from t.root) (reach (shows w f s) from)
  pub told : IsTold seen dir
  pub same : w.honest → shows w f t ≡ shows w f s
  pub keeps : Keeps w f (from ∷ to ∷ []) s t
  pub cache : FindsTheSame c d

module _ {W F : Type 0} {w : Ghosts W} {f : Files F W} {from to : Path} {s t : Table F} {c d : Cache} {o : Option Seen} {seen : Seen} {dir : Bool} where
  pub begins : o ≡ Some seen → is_root from ≡ false → is_root to ≡ false → IsTold seen dir → Keeps w f (from ∷ []) s t → FindsTheSame c d → (w.honest → shows w f t ≡ shows w f s)
      → Meets w f from s t d (Ok o) → (w.honest → MeetsShown w f from s t (Ok o)) → Begins w f from to s t c d seen dir
  begins is root other told keeps cache same meets shown = record {
    root = root;
    other = other;
    at = seen_at w f from s t d o seen is meets;
    shown = shown_at w f from s t d o seen is shown;
    told = told;
    same = same;
    keeps = keeps_first w f from to s t keeps;
    cache = cache;
  }

module _ {W F : Type 0} {w : Ghosts W} {f : Files F W} {from to : Path} {s t : Table F} {c d : Cache} {seen : Seen} {dir : Bool} (b : Begins w f from to s t c d seen dir) where
  abbrev q : Request
  q = ask.Rename from to

  starts : Starts q from (Refuses ENOENT) (moves from to)
  starts = starts_rename from to b.root b.other

  as_shown : (h : w.honest) (l : Bool) → is_dir (shown_node w.repository (f.stored t.files) b.at.row l) ≡ dir
  as_shown h l = shown_as w.repository (f.stored t.files) from t.root seen b.at (reach (shows w f s) from) (b.shown h) dir b.told l

  pub plain_told : (r : Reply) → IsPlainReply from to dir r → Attempts w f q s t c d (Finished r)
  plain_told r plain =
      first_here w f q from (moves from to) starts s t c d b.same b.keeps b.cache b.at.row b.at.there b.shown r plain.fine plain.leaves
      (λ h l. subst (λ (b : Bool). Goes (shows w f s) from to b r) (sym (as_shown h l)) (plain.says (shows w f s)))

  module _ (paths : IsByPaths from to dir None) {u : Table F} {e : Cache} (after : Keeps w f (to ∷ []) t u) (finds : FindsTheSame d e) (alike : w.honest → shows w f u ≡ shows w f t) where
    abbrev on : Keeps w f (from ∷ to ∷ []) t u
    on = keeps_second w f from to t u after

    says : w.honest → (r : Reply) → MayLand (shows w f t) to dir r → Replies (shows w f s) q r
    says h r may =
        starts.says (shows w f s) r
        (says_at w.repository (f.stored t.files) from (moves from to) (shows w f s) (row_at from t.root) b.at.row b.at.there (b.shown h) r
        (λ l. subst (λ (b : Bool). Goes (shows w f s) from to b r) (sym (as_shown h l)) (goes from to dir paths (shows w f s) r (subst (λ (G : Tree). MayLand G to dir r) (b.same h) may))))

    here : IsStill from u.root dir
    here = still from t.root u.root seen b.at (keeps_entries w f _ t u on) dir b.told

    only : (r : Reply) → Replies (known u.root) q r → MayLand (known u.root) to dir r
    only r h =
        lands from to dir paths (known u.root) r
        (subst (λ (b : Bool). Goes (known u.root) from to b r) here.is
        (subst (λ (x : Reach). Table_Meets x (Refuses ENOENT) (moves from to (known u.root)) r) (reach_here u.root from here.row here.there) (starts.only (known u.root) r h)))

    place_is : place (known u.root) q ≡ place_on (known u.root) to
    place_is = place_past from to (known u.root) (walk_here u.root from here.row here.there)

    abbrev since : w.honest → shows w f u ≡ shows w f s
    since h = alike h ∙ b.same h

    lawful : (a : Fault) → ((r : Reply) → ¬ MayLand (known u.root) to dir r) → IsCaused w f (place_on (known u.root) to) s u a → IsLawful w f q s u a
    lawful (fault.Fetch id cause) none h = h
    lawful fault.Memory none h = λ x is. cc
    lawful fault.Overlay none (inl rose) = inl rose
    lawful fault.Overlay none (inr damaged) = inr (λ r x. none r (only r x), subst (λ (p : Path). IsDamaged w f p u) (sym place_is) damaged)
    lawful fault.Numbers none h = inr (λ r x. none r (only r x), subst (λ (p : Path). WantsNumbers w f p u) (sym place_is) h)

    pub land_stopped : (z : Stop) → Lands w f to dir t u e (Err z) → (w.honest → LandsShown w f to dir t (Err z)) → Attempts w f q s u c e (stopped z)
    land_stopped (stop.Errs a) h told = answered w f q s u c e since (finds_on c d e b.cache finds) (say.Err a) refl (λ G. refl) (λ honest. says honest (say.Err a) (told honest))
    land_stopped (stop.Needs k) h told = record {
      answer = record {
        need = record {
          silent = λ r x. h.0 r (only r x);
          wanted = subst (λ (p : Path). Wants (row_at p u.root) e k) (sym place_is) h.1.0;
          unsized = λ x is. cc;
        };
        unsaved = subst (λ (p : Path). IsUnsaved w f p u) (sym place_is) h.1.1;
        keeps = keeps_on w f s t u b.keeps on;
      };
      cache = finds_on c d e b.cache finds;
    }
    land_stopped (stop.Faults a) h told = failed w f q s u c e since (finds_on c d e b.cache finds) a
        (lawful a h.0 (caused_since w f (place_on (known u.root) to) s t u b.keeps a h.1))

    pub can_go : walk (known u.root) to ≡ Passes → CanRelocate u.root from to
    can_go passes = can from to dir paths u.root here passes

    rises : f.failures s.files ≤ f.failures u.files
    rises = (keeps_counts w f _ s u (keeps_on w f s t u b.keeps on)).1.1.1

    pub went : (v : Table F) → (w.honest → MayLand (shows w f t) to dir say.Ok) → (w.honest → shows w f v ≡ move (shows w f u) from to) → Attempts w f q s v c e (Finished say.Ok)
    went v may is =
        changed w f q s u v c e since rises (finds_on c d e b.cache finds) (λ h. says h say.Ok (may h))
        (λ h. is h ∙ ap (λ (G : Tree). move G from to) (since h) ∙ sym (ap (λ (b : Bool). if b then shows w f s else move (shows w f s) from to) paths.0))

    pub stayed : (v : Table F) (a : Fault) → IsStoreFault (f.failures u.files) (f.failures v.files) a → (w.honest → shows w f v ≡ shows w f u) → Attempts w f q s v c e (Finished (say.Fault a))
    stayed v a store is = refused w f q s u v c e since rises (finds_on c d e b.cache finds) a store (λ x y. cc) is
