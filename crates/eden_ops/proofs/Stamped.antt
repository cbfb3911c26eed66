-- Which stamps directories have once a change was made: those that they had when it had walked.
use Rattle.std.proofs.Common.{◌≡◌, ◌≢◌, ◌⊎◌, ◌∷◌, ℕ, Bool, true, false, cond, [], List, Option, Some, None, IfSome, Result, Ok, Err, OnOk, OnErr, if◌then◌else◌, sym, refl, ◌∙◌, ap, subst, inl, inr}
use Rattle.std.proofs.lemmas.Option.{same_Some, none-some}
use Rattle.std.specs.Option.{option_map, option_and_then, is_some}
use Rattle.std.specs.Str.{bytes_eq}
use Rattle.eden_model.specs.declared.attempt.Attempt.{Attempt}
use Rattle.eden_model.specs.declared.attempt.Attempt.TheVariants.{Finished}
use Rattle.eden_model.specs.declared.errno.Errno.{Errno}
use Rattle.eden_model.specs.declared.fault.Fault.{Fault}
use Rattle.eden_model.specs.declared.reply.Reply.TheVariants as say
use Rattle.eden_model.specs.declared.request.Request.{Request}
use Rattle.eden_model.specs.declared.request.Request.TheVariants as ask
use Rattle.eden_model.specs.declared.world.World.{Ghosts}
use Rattle.eden_model.specs.Named.{AreRising}
use Rattle.eden_model.specs.Operations.{is_front}
use Rattle.eden_model.specs.Requests.{paths_of}
use Rattle.eden_model.specs.Trees.{Name, Path}
use Rattle.eden_overlay.specs.declared.files.Files.{Ghosts as Files}
use Rattle.eden_overlay.specs.Files.{Stored}
use Rattle.eden_tree.specs.Directory.{Row, Directory, child_of}
use Rattle.eden_tree.specs.Rows.{find_row, change_row}
use Rattle.eden_tree.specs.Paths.{row_at, Standing, standing_at}
use Rattle.eden_tree.proofs.CallerLemmas.{same-≡, steps_down, child_of-change_child, find_row-change_row, find_row-put_row, find_row-drop_row, find_row-set_row}
use Rattle.eden_coupling.specs.Chains.{chained}
use Rattle.eden_coupling.specs.Changing.{MayMove, changed, marked_source, moved_in, placed, rows_with, with_listing}
use Rattle.eden_coupling.specs.Kept.{IsTable}
use Rattle.eden_coupling.specs.Laws.{owned}
use Rattle.eden_coupling.specs.Materialising.{kept_mark, owned_along}
use Rattle.eden_coupling.specs.Saving.{unmarked, AreAlikeUnmarked}
use Rattle.eden_coupling.proofs.CallerLemmas.{place_at, stored_rising}
use Rattle.eden_inode.specs.Tables.{Table}
use Rattle.eden_materialise.specs.EntryMoves.{IsMoved, IsUnmoved}
use Rattle.eden_ops.specs.declared.walk_end.Stop.{Stop}
use Rattle.eden_ops.specs.declared.walk_end.Stop.TheVariants as stop
use Rattle.eden_ops.specs.Attempts.{stopped}
use Rattle.eden_ops.specs.Keeping.{Keeps}
use Rattle.eden_ops.specs.Leaving.{IsFirstWalked, StampsItsWalk}
use Rattle.eden_ops.specs.Letting.{IsLeft, LetsGo}
use Rattle.eden_ops.specs.Stamps.{stamp_at, IsWalked, AreWalked, NoneStamped, StampsGoAlong}
use Rattle.eden_ops.proofs.Owned.{behind_itself}
use Rattle.eden_ops.proofs.Stamps.{stamp_of, stamp_in, standing_stamp, stamped_standing, stamp_with, keeps_stamps, walked_on}
use Rattle.eden_ops.proofs.Steps.{keeps_counts, keeps_first, keeps_both}

pub stamps_on : (x y z : Row) → NoneStamped x y → NoneStamped y z → NoneStamped x z
stamps_on x y z before after p k is = before p k (after p k is)

pub stamps_same : (x z : Row) → z ≡ x → NoneStamped x z
stamps_same x z is = subst (NoneStamped x) (sym is) (λ p k at. at)

-- ---- each entry as it was, but for marks

unmarked_stamp : (o : Option Standing) → stamp_of (option_map unmarked o) ≡ stamp_of o
unmarked_stamp None = refl
unmarked_stamp (Some v) =
    elim v.loaded as (λ l. option_map (λ (m : ℕ × Bool). m.0) (option_map (λ (m : ℕ × Bool). (m.0, false)) l) ≡ option_map (λ (m : ℕ × Bool). m.0) l) [
      | None ↦ refl
      | Some m ↦ refl
    ]

pub alike_stamps : (x z : Row) → AreAlikeUnmarked x z → NoneStamped x z
alike_stamps x z alike p k is =
    stamped_standing p x k
    (sym (unmarked_stamp (standing_at p x)) ∙ ap stamp_of (sym (alike p)) ∙ unmarked_stamp (standing_at p z) ∙ standing_stamp p z k is)

-- ---- directories that went

pub left_stamps : (p : Path) (x z : Row) → LetsGo p x z → NoneStamped x z
left_stamps p x z goes q k is = by (standing_at q z) refl (standing_stamp q z k is) where
  same : (s v : Standing) → IsLeft s v → stamp_of (Some v) ≡ Some k → stamp_of (Some s) ≡ Some k
  same s v left now = elim left.loaded [
    | inl one ↦ ap (option_map (λ (m : ℕ × Bool). m.0)) (sym one) ∙ now
    | inr gone ↦ absurd (none-some k (sym (ap (option_map (λ (m : ℕ × Bool). m.0)) gone) ∙ now))
  ]

  by : (o : Option Standing) → standing_at q z ≡ o → stamp_of o ≡ Some k → stamp_at q x ≡ Some k
  by None at now = absurd (none-some k now)
  by (Some v) at now = let was = goes.left q v at in stamped_standing q x k (ap stamp_of was.1.0 ∙ same was.0 v was.1.1 now)

-- ---- a chain that becomes its own

abbrev step : Name → Path → Directory → Directory
step n p d = record d { rows = change_row n (λ z. owned (owned_along p z)) d.rows; unsaved = kept_mark (find_row n d.rows) d.unsaved }

-- below one step
module _ (n m : Name) (p q : Path) (k : ℕ) (deeper : (z : Row) → stamp_at q (owned (owned_along p z)) ≡ Some k → stamp_at q z ≡ Some k) where
  abbrev below_as : Option Row → Type 0
  below_as o = stamp_in (option_and_then (row_at q) o) ≡ Some k

  on_it : (o : Option Row) → below_as (option_map (λ z. owned (owned_along p z)) o) → below_as o
  on_it None now = now
  on_it (Some z) now = deeper z now

  one_step : (d : Directory) → below_as (cond (bytes_eq m n) (option_map (λ z. owned (owned_along p z)) (find_row n d.rows)) (find_row m d.rows)) → below_as (find_row m d.rows)
  one_step d =
      elim (bytes_eq m n) as (λ b. bytes_eq m n ≡ b → below_as (cond b (option_map (λ z. owned (owned_along p z)) (find_row n d.rows)) (find_row m d.rows)) → below_as (find_row m d.rows)) [
        | true ↦ λ t now. on_it (find_row m d.rows)
            (ap (λ (i : Name). stamp_in (option_and_then (row_at q) (option_map (λ z. owned (owned_along p z)) (find_row i d.rows)))) (same-≡ m n t) ∙ now)
        | false ↦ λ t now. now
      ] refl

owned_stamps : (p q : Path) (x : Row) (k : ℕ) → stamp_at q (owned (owned_along p x)) ≡ Some k → stamp_at q x ≡ Some k
owned_stamps [] [] x k is = is
owned_stamps [] (m ∷ q) x k is = is
owned_stamps (n ∷ p) [] x k is =
    elim (child_of x) as (λ c. option_map (λ (d : Directory). d.stamp) (option_map (step n p) c) ≡ Some k → option_map (λ (d : Directory). d.stamp) c ≡ Some k) [
      | None ↦ λ no. no
      | Some d ↦ λ now. now
    ] (sym (ap (option_map (λ (d : Directory). d.stamp)) (child_of-change_child (step n p) x)) ∙ is)
owned_stamps (n ∷ p) (m ∷ q) x k is =
    elim (child_of x) as (λ c. stamp_in (option_and_then (λ (d : Directory). option_and_then (row_at q) (find_row m d.rows)) (option_map (step n p) c)) ≡ Some k
    → stamp_in (option_and_then (λ (d : Directory). option_and_then (row_at q) (find_row m d.rows)) c) ≡ Some k) [
      | None ↦ λ no. no
      | Some d ↦ λ now. one_step n m p q k (λ z h. owned_stamps p q z k h) d
          (sym (ap (λ (o : Option Row). stamp_in (option_and_then (row_at q) o)) (find_row-change_row m n (λ z. owned (owned_along p z)) d.rows)) ∙ now)
    ] (sym (ap (λ (c : Option Directory). stamp_in (option_and_then (λ (d : Directory). option_and_then (row_at q) (find_row m d.rows)) c)) (child_of-change_child (step n p) x)) ∙ is)

-- .. where it did
pub own_stamps : (a : Result (Unit {0}) Fault) (p : Path) (x z : Row) → OnOk a (z ≡ owned (owned_along p x)) → OnErr a (z ≡ x) → NoneStamped x z
own_stamps (Ok u) p x z ok err = subst (NoneStamped x) (sym ok) (λ q k is. owned_stamps p q x k is)
own_stamps (Err e) p x z ok err = stamps_same x z err

-- ---- another listing at a path, with the stamp that it had: what is loaded in it was there

module _ (x : Row) (p : Path) (y : Row) (d e : Directory) (at : row_at p x ≡ Some y) (holds : child_of y ≡ Some d) (same : e.stamp ≡ d.stamp)
    (each : (m : Name) (v : Row) → find_row m e.rows ≡ Some v → (row_at (m ∷ []) y ≡ Some v) ⊎ (child_of v ≡ None)) where
  with_stamps : NoneStamped x (with_listing p e x)
  with_stamps q k is = elim (stamp_with p x y e at each k q is) [
    | inl here ↦ subst (λ (r : Path). stamp_at r x ≡ Some k) (sym here.0)
        (ap stamp_in at ∙ ap (option_map (λ (c : Directory). c.stamp)) holds ∙ ap (λ (i : ℕ). Some i) (sym same ∙ here.1))
    | inr was ↦ was
  ]

-- ---- one entry of a listing changed, and the chain above it its own

find_placed : (m n : Name) (v : Row) (rows : List (Name × Row)) → find_row m (rows_with n (Some v) rows) ≡ cond (bytes_eq m n) (Some v) (find_row m rows)
find_placed m n v rows = by (find_row n rows) refl where
  by : (r : Option Row) → find_row n rows ≡ r → find_row m (placed r n v rows) ≡ cond (bytes_eq m n) (Some v) (find_row m rows)
  by None absent = find_row-put_row m n v rows absent
  by (Some z) there = find_row-set_row m n v z rows there

find_with : (m n : Name) (o : Option Row) (rows : List (Name × Row)) → AreRising (λ r. r.0) rows → find_row m (rows_with n o rows) ≡ cond (bytes_eq m n) o (find_row m rows)
find_with m n None rows rising = find_row-drop_row m n rows rising
find_with m n (Some v) rows rising = find_placed m n v rows

is_away : (o : Option Row) → IfSome o (λ v. child_of v ≡ None) → (v : Row) → o ≡ Some v → child_of v ≡ None
is_away None h v is = absurd (none-some v is)
is_away (Some u) h v is = subst (λ (r : Row). child_of r ≡ None) (same_Some u v is) h

module _ (x : Row) (p : Path) (n : Name) (o : Option Row) (away : IfSome o (λ v. child_of v ≡ None)) (y : Row) (d : Directory) (at : row_at p x ≡ Some y)
    (holds : child_of y ≡ Some d) (among : (m : Name) → find_row m (rows_with n o d.rows) ≡ cond (bytes_eq m n) o (find_row m d.rows)) where
  each : (m : Name) (v : Row) → find_row m (changed d n o).rows ≡ Some v → (row_at (m ∷ []) y ≡ Some v) ⊎ (child_of v ≡ None)
  each m v found = by (bytes_eq m n) (sym (among m) ∙ found) where
    by : (b : Bool) → cond b o (find_row m d.rows) ≡ Some v → (row_at (m ∷ []) y ≡ Some v) ⊎ (child_of v ≡ None)
    by true now = inr (is_away o away v now)
    by false now = inl (steps_down m [] y v d holds now)

  entry_stamps : NoneStamped x (with_listing p (changed d n o) x)
  entry_stamps = with_stamps x p y d (changed d n o) at holds refl each

module _ (x : Row) (next : ℕ) (table : IsTable x next) (p : Path) (n : Name) (o : Option Row) (away : IfSome o (λ v. child_of v ≡ None)) (y : Row) (d : Directory)
    (at : row_at p x ≡ Some y) (holds : child_of y ≡ Some d) where
  listed_stamps : NoneStamped x (with_listing p (changed d n o) x)
  listed_stamps = entry_stamps x p n o away y d at holds (λ m. find_with m n o d.rows (stored_rising d (table.listed y d (place_at p x y at) holds)))

  pub chained_stamps : (z : Row) → z ≡ chained p (changed d n o) x → NoneStamped x z
  chained_stamps z is = subst (NoneStamped x) (sym is) (λ q k at_it. listed_stamps q k (owned_stamps p q (with_listing p (changed d n o) x) k at_it))

  -- .. where it wasn't its own before
  pub filled_stamps : (r : Result (Unit {0}) Fault) (own : Bool) (z : Row) → OnOk r (z ≡ (if own then x else chained p (changed d n o) x)) → OnErr r (z ≡ x) → NoneStamped x z
  filled_stamps (Ok u) true z ok err = stamps_same x z ok
  filled_stamps (Ok u) false z ok err = chained_stamps z ok
  filled_stamps (Err e) own z ok err = stamps_same x z err

-- ---- an entry that isn't loaded, moved from one listing to another

module _ (x : Row) (p : Path) (n : Name) (q : Path) (m : Name) where
  pub moved_stamps : (honest : Type 0) (F : Stored) (old : ℕ) (G : Stored) (z : Row) (new : ℕ) (next : ℕ) → IsTable x next → IsMoved honest p n q m F x old G z new → NoneStamped x z
  moved_stamps honest F old G z new next table moved =
      let may = moved.may in
      let left = with_listing p (changed may.source n None) x in
      subst (NoneStamped x) (sym moved.root)
      (stamps_on x left (moved_in x p n q m may) (listed_stamps x next table p n None tt may.from may.source may.at_from may.holds_source)
      (entry_stamps left q m (Some may.entry) may.unloaded may.to may.target may.at_to may.holds_target (λ k. find_placed k m may.entry may.target.rows)))

  marked_stamps : (may : MayMove x p n q m) → NoneStamped x (marked_source x p n q m may)
  marked_stamps may =
      with_stamps x p may.from may.source (record may.source { unsaved = true }) may.at_from may.holds_source refl
      (λ k v found. inl (steps_down k [] may.from v may.source may.holds_source found))

  -- .. or not
  pub unmoved_stamps : (honest : Type 0) (F G : Stored) (z : Row) → IsUnmoved honest p n q m F x G z → NoneStamped x z
  unmoved_stamps honest F G z (inl same) = stamps_same x z same.0
  unmoved_stamps honest F G z (inr left) = subst (NoneStamped x) (sym left.1.1.0) (marked_stamps left.1.0)

-- ---- an attempt

-- what was walked is so where nothing is stamped then
pub walked_then : (ps : List Path) (clock : ℕ) (x z : Row) → AreWalked ps clock x → NoneStamped x z → AreWalked ps clock z
walked_then [] clock x z walked none = tt
walked_then (p ∷ ps) clock x z walked none = ((λ front k is_front there. walked.0 front k is_front (none front k there)), walked_then ps clock x z walked.1 none)

first_of : (ps : List Path) (clock : ℕ) (x : Row) → AreWalked ps clock x → IsFirstWalked ps clock x
first_of [] clock x walked = tt
first_of (p ∷ ps) clock x walked = walked.0

module _ {W F : Type 0} (w : Ghosts W) (f : Files F W) (q : Request) (s t : Table F) (keeps : Keeps w f (paths_of q) s t) where
  -- an error
  pub stamps_refused : (a : Attempt) (e : Errno) → a ≡ Finished (say.Err e) → StampsItsWalk q s.clock s.root t.root a
  stamps_refused a e is = record { alone = keeps_stamps w f _ s t keeps; first = λ fine. absurd (fine e is); done = λ ok. (let both = sym ok ∙ is in absurd (cc)) }

  module _ (walked : AreWalked (paths_of q) t.clock t.root) where
    -- a change after the walk
    pub stamps_then : (u : Table F) (a : Attempt) → NoneStamped t.root u.root → StampsItsWalk q s.clock s.root u.root a
    stamps_then u a none =
        let still = walked_then (paths_of q) s.clock t.root u.root (subst (λ (c : ℕ). AreWalked (paths_of q) c t.root) (keeps_counts w f _ s t keeps).0 walked) none in
        record {
          alone = λ p k is. keeps_stamps w f _ s t keeps p k (none p k is);
          first = λ fine. first_of (paths_of q) s.clock u.root still;
          done = λ ok. still;
        }

    -- .. or none
    pub stamps_kept : (a : Attempt) → StampsItsWalk q s.clock s.root t.root a
    stamps_kept a = stamps_then t a (λ p k is. is)

-- ---- a rename

-- a walk that stopped has done nothing
pub never_done : (s : Stop) → stopped s ≢ Finished say.Ok
never_done (stop.Errs e) is = cc
never_done (stop.Needs k) is = cc
never_done (stop.Faults e) is = cc

module _ {W F : Type 0} (w : Ghosts W) (f : Files F W) (from to : Path) (s t : Table F) (one : Keeps w f (from ∷ []) s t) (first : IsWalked from t.clock t.root) where
  first_then : IsWalked from s.clock t.root
  first_then = subst (λ (c : ℕ). IsWalked from c t.root) (keeps_counts w f _ s t one).0 first

  -- it stopped on the way to its first path
  pub stamps_met : (a : Attempt) → a ≢ Finished say.Ok → StampsItsWalk (ask.Rename from to) s.clock s.root t.root a
  stamps_met a undone = record {
    alone = keeps_stamps w f _ s t (keeps_first w f from to s t one);
    first = λ fine. first_then;
    done = λ ok. absurd (undone ok);
  }

  -- both paths are one
  pub stamps_one : (a : Attempt) → (a ≡ Finished say.Ok → from ≡ to) → StampsItsWalk (ask.Rename from to) s.clock s.root t.root a
  stamps_one a same = record {
    alone = keeps_stamps w f _ s t (keeps_first w f from to s t one);
    first = λ fine. first_then;
    done = λ ok. (first_then, (subst (λ (p : Path). IsWalked p s.clock t.root) (same ok) first_then, tt));
  }

  module _ (u : Table F) (two : Keeps w f (to ∷ []) t u) (second : IsWalked to u.clock u.root) where
    both : Keeps w f (from ∷ to ∷ []) s u
    both = keeps_both w f from to s t u one two

    clock : u.clock ≡ s.clock
    clock = (keeps_counts w f _ s u both).0

    walked_first : IsWalked from s.clock u.root
    walked_first = subst (λ (c : ℕ). IsWalked from c u.root) clock (walked_on w f from t u first two)

    walked_second : IsWalked to s.clock u.root
    walked_second = subst (λ (c : ℕ). IsWalked to c u.root) clock second

    -- .. or on the way to the other
    pub stamps_landed : (a : Attempt) → a ≢ Finished say.Ok → StampsItsWalk (ask.Rename from to) s.clock s.root u.root a
    stamps_landed a undone = record {
      alone = keeps_stamps w f _ s u both;
      first = λ fine. walked_first;
      done = λ ok. absurd (undone ok);
    }

    module _ (v : Table F) (along : StampsGoAlong from to u.root v.root) where
      moved_clock : (k : ℕ) → stamp_at from u.root ≡ Some k → k ≡ s.clock
      moved_clock k is = walked_first from k (ap (λ (o : Option Path). is_some o) (behind_itself from)) is

      walked_still : (p : Path) → IsWalked p s.clock u.root → IsWalked p s.clock v.root
      walked_still p walked front k at is = elim (along front k is) [ inl was ↦ walked front k at was | inr moved ↦ moved_clock k moved.1 ]

      -- .. or its entry went, or stayed after a fault
      pub stamps_moved : (a : Attempt) → StampsItsWalk (ask.Rename from to) s.clock s.root v.root a
      stamps_moved a = record {
        alone = λ p k is. elim (along p k is) [
          | inl was ↦ keeps_stamps w f _ s u both p k was
          | inr moved ↦ inr (inr (inl (ap (λ (q : Path). is_front q to) moved.0 ∙ ap (λ (o : Option Path). is_some o) (behind_itself to))), moved_clock k moved.1)
        ];
        first = λ fine. walked_still from walked_first;
        done = λ ok. (walked_still from walked_first, (walked_still to walked_second, tt));
      }
