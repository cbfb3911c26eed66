-- What an attempt does to the inode numbers that are shown.
use Rattle.std.proofs.Common.{◌≡◌, ◌≢◌, ◌≤◌, ◌<◌, ◌+◌, ◌⊎◌, ℕ, Bool, true, false, cond, [], ◌∷◌, ◌++◌, Option, Some, None, inl, inr, refl, sym, ap, subst, ◌∙◌, arith}
use Rattle.std.proofs.lemmas.Bool.{false≢true}
use Rattle.std.proofs.lemmas.Option.{none-some}
use Rattle.std.specs.Option.{IsSome}
use Rattle.eden_model.specs.declared.attempt.Attempt.{Attempt}
use Rattle.eden_model.specs.declared.attempt.Attempt.TheVariants.{Finished}
use Rattle.eden_model.specs.declared.request.Request.{Request}
use Rattle.eden_model.specs.declared.request.Request.TheVariants as ask
use Rattle.eden_model.specs.declared.errno.Errno.{Errno}
use Rattle.eden_model.specs.declared.reply.Reply.{Reply}
use Rattle.eden_model.specs.declared.reply.Reply.TheVariants as say
use Rattle.eden_model.specs.declared.world.World.{Ghosts}
use Rattle.eden_model.specs.Backing.{AreShown, Gains}
use Rattle.eden_model.specs.Limits.{number_end}
use Rattle.eden_model.specs.Numbers.{Numbering}
use Rattle.eden_model.specs.Operations.{put, move}
use Rattle.eden_model.specs.Paths.{is_root, path_eq, behind_of}
use Rattle.eden_model.specs.Requests.{paths_of}
use Rattle.eden_model.specs.Trees.{Name, Path, Tree, Walk, Passes, Stops, Unlisted, walk, Absent, ends, reach}
use Rattle.eden_model.proofs.CallerLemmas.{path_eq-Decides}
use Rattle.eden_overlay.specs.declared.files.Files.{Ghosts as Files}
use Rattle.eden_coupling.specs.NumberKept.{KeepsNumbers}
use Rattle.eden_coupling.specs.NumberNodes.{NumbersAreNodes}
use Rattle.eden_coupling.specs.ShownLaws.{AreDirectories}
use Rattle.eden_overlay.specs.Held.{saved_at}
use Rattle.eden_coupling.proofs.CallerLemmas.{put_form, put_shown, move_shown}
use Rattle.eden_inode.specs.Tables.{Table, shows, shows_numbers, ShowsSameNumbers}
use Rattle.eden_materialise.specs.Renumbering.{PutsNumber, TakesNumbers, MovesNumbers}
use Rattle.eden_ops.specs.declared.walk_end.Stop.{Stop}
use Rattle.eden_ops.specs.declared.walk_end.Stop.TheVariants as stop
use Rattle.eden_materialise.specs.declared.new_entry.NewEntry.{NewEntry}
use Rattle.eden_model.specs.declared.node.Node.{Node}
use Rattle.eden_ops.specs.Attempts.{stopped}
use Rattle.eden_ops.specs.Changes.{IsAdding, file, dir, link}
use Rattle.eden_ops.specs.Keeping.{Keeps}
use Rattle.eden_ops.specs.Renumbering.{edited_by, EditsNumbers}

-- the same numbers are gained, also where numbers were given that nothing shows
pub same_gains : (S T : Numbering) (next later : ℕ) → AreShown S next → ((q : Path) → T q ≡ S q) → next ≤ later → later ≤ number_end → Gains S next T later
same_gains S T next later are same rises most = record {
  keeps = λ p n h. same p ∙ h;
  fresh = λ p n h. inl (sym (same p) ∙ h);
  once = λ p q n least h also. (let below = are.below p n (sym (same p) ∙ h) in absurd (omega (arith, below, least)));
  rises = rises;
  most = most;
}

-- and so is the next one, at a path that shows none
pub next_gains : (S T : Numbering) (next : ℕ) (p : Path) → AreShown S next → S p ≡ None → ((q : Path) → T q ≡ put S p (Some next) q) → next + 1 ≤ number_end → Gains S next T (next + 1)
next_gains S T next p are none same most = record {
  keeps = λ q n h. same q ∙ kept q n (path_eq p q) refl h;
  fresh = λ q n h. came q n (path_eq p q) (sym (same q) ∙ h);
  once = λ q r n least h also. (let a = at q n (path_eq p q) refl least (sym (same q) ∙ h) in let b = at r n (path_eq p r) refl least (sym (same r) ∙ also) in sym a ∙ b);
  rises = omega arith;
  most = most;
} where
  kept : (q : Path) (n : ℕ) (b : Bool) → path_eq p q ≡ b → S q ≡ Some n → cond b (Some next) (S q) ≡ Some n
  kept q n true e h = absurd (none-some n (sym none ∙ ap S ((path_eq-Decides p q).0 e) ∙ h))
  kept q n false e h = h

  came : (q : Path) (n : ℕ) (b : Bool) → cond b (Some next) (S q) ≡ Some n → (S q ≡ Some n) ⊎ ((next ≤ n) × (n < next + 1))
  came q n true h = let same_n : next ≡ n = cc in inr (omega (arith, same_n), omega (arith, same_n))
  came q n false h = inl h

  at : (q : Path) (n : ℕ) (b : Bool) → path_eq p q ≡ b → next ≤ n → cond b (Some next) (S q) ≡ Some n → p ≡ q
  at q n true e least h = (path_eq-Decides p q).0 e
  at q n false e least h = let below = are.below q n h in absurd (omega (arith, below, least))

put_alike : (S T : Numbering) (p q : Path) (o : Option ℕ) → S q ≡ T q → put S p o q ≡ put T p o q
put_alike S T p q o same = ap (λ (v : Option ℕ). cond (path_eq p q) o v) same

-- ---- what stands where nothing is shown

pub none_numbered : {W F : Type 0} (w : Ghosts W) (f : Files F W) (nodes : NumbersAreNodes) (t : Table F) → AreDirectories t.root
    → KeepsNumbers w.repository (f.stored t.files) t.root t.next → (p : Path) → shows w f t p ≡ None → shows_numbers f t p ≡ None
none_numbered w f nodes t dirs k p none = by (shows_numbers f t p) refl where
  by : (o : Option ℕ) → shows_numbers f t p ≡ o → o ≡ None
  by None is = refl
  by (Some n) is = absurd (false≢true (subst IsSome none (nodes w.repository (f.stored t.files) (saved_at (f.stored t.files)) t.root p n dirs k.trees is)))

pub absent_none : (G : Tree) (p : Path) → reach G p ≡ Absent → G p ≡ None
absent_none G p is = by (walk G p) (G p) is where
  by : (v : Walk) (o : Option Node) → ends v o ≡ Absent → o ≡ None
  by Passes None h = refl
  by Passes (Some n) h = cc
  by (Stops e) o h = cc
  by Unlisted o h = cc

-- ---- numbers that are given

pub next_no_less : (a b : ℕ) → b ≡ a → a ≤ b
next_no_less a b is = omega (arith, is)

pub given_no_less : {X Y : Type 0} (a b : ℕ) → ((b ≡ a) × X) ⊎ ((b ≡ a + 1) × Y) → a ≤ b
given_no_less a b (inl none) = let is = none.0 in omega (arith, is)
given_no_less a b (inr one) = let is = one.0 in omega (arith, is)

-- ---- answers

pub adds_leaves : (p : Path) (q : Request) (e : NewEntry) → IsAdding p q e → (M : Numbering) → edited_by q (Finished say.Ok) M ≡ M
adds_leaves p _ _ (file content none) M = refl
adds_leaves p _ _ dir M = refl
adds_leaves p _ _ (link target some few) M = refl

-- an answer that says of no change leaves the numbers
pub stopped_leaves : (q : Request) (z : Stop) (M : Numbering) → edited_by q (stopped z) M ≡ M
stopped_leaves q (stop.Errs e) M = refl
stopped_leaves q (stop.Needs k) M = refl
stopped_leaves q (stop.Faults e) M = refl

module _ {W F : Type 0} (w : Ghosts W) (f : Files F W) (q : Request) (s m : Table F) (keeps : Keeps w f (paths_of q) s m) where
  module _ (a : Attempt) where
    -- numbers are as they were reached
    pub edits_same : ((M : Numbering) → edited_by q a M ≡ M) → (t : Table F) → (w.honest → ShowsSameNumbers f m t) → m.next ≤ t.next → EditsNumbers w f q s t a
    edits_same leaves t same rises = record {
      reached = m;
      walked = keeps;
      rises = rises;
      edits = λ h are most. subst (λ (M : Numbering). Gains M m.next (shows_numbers f t) t.next) (sym (leaves (shows_numbers f m)))
          (same_gains (shows_numbers f m) (shows_numbers f t) m.next t.next are (same h) rises most);
    }

    pub edits_kept : ((M : Numbering) → edited_by q a M ≡ M) → EditsNumbers w f q s m a
    edits_kept leaves = edits_same leaves m (λ h p. refl) (omega arith)

  pub edits_ended : (z : Stop) (a : Attempt) → a ≡ stopped z → EditsNumbers w f q s m a
  edits_ended z a is = subst (λ (b : Attempt). EditsNumbers w f q s m b) (sym is) (edits_kept (stopped z) (stopped_leaves q z))

  -- an entry went, with nothing below it
  module _ (v u : Table F) (p : Path) (other : is_root p ≡ false) (same : w.honest → ShowsSameNumbers f m v) (next : u.next ≡ m.next)
      (takes : w.honest → TakesNumbers f p v u) (below : w.honest → (n : Name) (r : Path) → shows_numbers f m (p ++ n ∷ r) ≡ None) where
    gone_is : w.honest → (r : Path) → shows_numbers f u r ≡ put (shows_numbers f m) p None r
    gone_is h r =
        takes h r
        ∙ put_form (shows_numbers f v) (λ b. None) p None r (behind_of p r) refl refl (λ n c. refl) (λ n c. same h (p ++ n ∷ c) ∙ below h n c)
        ∙ put_alike (shows_numbers f v) (shows_numbers f m) p r None (same h r)

    not_top : p ≢ []
    not_top is = false≢true (sym other ∙ ap is_root is)

    pub edits_gone : (a : Attempt) → ((M : Numbering) → edited_by q a M ≡ put M p None) → EditsNumbers w f q s u a
    edits_gone a does = record {
      reached = m;
      walked = keeps;
      rises = omega (arith, next);
      edits = λ h are most. subst (λ (M : Numbering). Gains M m.next (shows_numbers f u) u.next) (sym (does (shows_numbers f m)))
          (same_gains (put (shows_numbers f m) p None) (shows_numbers f u) m.next u.next
          (put_shown (shows_numbers f m) m.next p None are not_top (λ n is. absurd (none-some n is))) (gone_is h) (omega (arith, next)) most);
    }

  -- .. or came, where nothing was shown
  module _ (v u : Table F) (p : Path) (same : w.honest → ShowsSameNumbers f m v) (before : v.next ≡ m.next) (next : u.next ≡ v.next + 1)
      (puts : w.honest → PutsNumber f p (Some v.next) v u) (none : w.honest → shows_numbers f m p ≡ None) where
    pub edits_came : (a : Attempt) → ((M : Numbering) → edited_by q a M ≡ M) → EditsNumbers w f q s u a
    edits_came a leaves = record {
      reached = m;
      walked = keeps;
      rises = omega (arith, next, before);
      edits = λ h are most. subst (λ (M : Numbering). Gains M m.next (shows_numbers f u) u.next) (sym (leaves (shows_numbers f m)))
          (came_gains h are most);
    } where
      puts_there : w.honest → (r : Path) → shows_numbers f u r ≡ put (shows_numbers f m) p (Some m.next) r
      puts_there h r =
          puts h r ∙ put_alike (shows_numbers f v) (shows_numbers f m) p r (Some v.next) (same h r)
          ∙ ap (λ (k : ℕ). put (shows_numbers f m) p (Some k) r) before

      came_gains : w.honest → AreShown (shows_numbers f m) m.next → u.next ≤ number_end → Gains (shows_numbers f m) m.next (shows_numbers f u) u.next
      came_gains h are most =
          let is : u.next ≡ m.next + 1 = next ∙ ap (λ (k : ℕ). k + 1) before in
          subst (λ (k : ℕ). Gains (shows_numbers f m) m.next (shows_numbers f u) k) (sym is)
          (next_gains (shows_numbers f m) (shows_numbers f u) m.next p are (none h) (puts_there h) (omega (arith, is, most)))

-- .. or went to another path
paths_same : (b : Bool) (X Y : Numbering) → b ≡ true → cond b X Y ≡ X
paths_same true X Y is = refl
paths_same false X Y is = absurd (false≢true is)

paths_other : (b : Bool) (X Y : Numbering) → b ≡ false → cond b X Y ≡ Y
paths_other true X Y is = absurd (false≢true (sym is))
paths_other false X Y is = refl

pub paths_leave : (from to : Path) (r : Reply) → (r ≡ say.Ok → from ≡ to) → (r ≡ say.Ok) ⊎ ((e : Errno) × (r ≡ say.Err e)) → (M : Numbering) → edited_by (ask.Rename from to) (Finished r) M ≡ M
paths_leave from to r one (inl ok) M =
    subst (λ (a : Reply). edited_by (ask.Rename from to) (Finished a) M ≡ M) (sym ok) (paths_same (path_eq from to) M (move M from to) ((path_eq-Decides from to).1 (one ok)))
paths_leave from to r one (inr err) M = subst (λ (a : Reply). edited_by (ask.Rename from to) (Finished a) M ≡ M) (sym err.1) refl

module _ {W F : Type 0} (w : Ghosts W) (f : Files F W) (from to : Path) (s m : Table F) (keeps : Keeps w f (paths_of (ask.Rename from to)) s m) (u : Table F)
    (from_other : is_root from ≡ false) (to_other : is_root to ≡ false) (apart : path_eq from to ≡ false) (moves : w.honest → MovesNumbers f from to m u) (next : u.next ≡ m.next) where
  below_root : (p : Path) → is_root p ≡ false → p ≢ []
  below_root p other is = false≢true (sym other ∙ ap is_root is)

  pub edits_moved : EditsNumbers w f (ask.Rename from to) s u (Finished say.Ok)
  edits_moved = record {
    reached = m;
    walked = keeps;
    rises = omega (arith, next);
    edits = λ h are most.
        subst (λ (M : Numbering). Gains M m.next (shows_numbers f u) u.next) (sym (paths_other (path_eq from to) (shows_numbers f m) (move (shows_numbers f m) from to) apart))
        (same_gains (move (shows_numbers f m) from to) (shows_numbers f u) m.next u.next
        (move_shown (shows_numbers f m) m.next from to are (below_root from from_other) (below_root to to_other)) (moves h) (omega (arith, next)) most);
  }
