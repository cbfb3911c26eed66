-- What each event leaves of what every mount keeps.
use Rattle.std.proofs.Common.{◌≡◌, ◌≤◌, ◌<◌, ◌+◌, ◌-◌, ◌==◌, ℕ, Bool, true, false, cond, List, [], ◌∷◌, ◌++◌, length, Option, Some, None, zero, suc, slice_get, eqb-true, length-append, refl, sym, ap}
use Rattle.std.proofs.Common.{◌∙◌, subst, arith}
use Rattle.std.proofs.Math.ListN.{set, length-set}
use Rattle.std.proofs.Math.Path.{fun_ext}
use Rattle.eden_model.specs.declared.entry.Entry.{Entry}
use Rattle.eden_model.specs.declared.fault.Cause.{Cause}
use Rattle.eden_model.specs.declared.fault.Fault.{Fault}
use Rattle.eden_model.specs.declared.fault.Fault.TheVariants as fault
use Rattle.eden_model.specs.declared.id.Key.{Key}
use Rattle.eden_model.specs.declared.request.Request.{Request}
use Rattle.eden_model.specs.declared.reply.Reply.{Reply}
use Rattle.eden_model.specs.declared.reply.Reply.TheVariants as say
use Rattle.eden_model.specs.Backing.{Backs}
use Rattle.eden_model.specs.NumberLaws.{GainsAreBacked, AnswerIsAllowed, AnswerIsBacked}
use Rattle.eden_model.specs.Numbers.{Numbering, Numbers, stat_number, with_stat, after_numbers, replay_numbers, AllowsStat}
use Rattle.eden_model.specs.Trees.{Path, Tree}
use Rattle.eden_model.specs.Operations.{Replies, after}
use Rattle.eden_model.specs.Histories.{replay, Legal, fault_of, entry}
use Rattle.eden_model.proofs.CallerLemmas.{replay-append, replay_numbers-append, Legal-append}
use Rattle.eden_import.specs.Keys.{has_key}
use Rattle.eden_import.specs.Queue as imports
use Rattle.eden_import.specs.Queue.{Queue, Mark, IsQueue, IsPass, want_of, mark_of, after_await, after_quit, after_failed, after_failure}
use Rattle.eden_import.proofs.CallerLemmas.{quit_rest, passes_keep_flight}
use Rattle.eden_mount.specs.declared.seats.Pending.{Pending}
use Rattle.eden_mount.specs.Tables.{Table, Ticks, Unloads, Syncs}
use Rattle.eden_mount.specs.Core.{Core, seat_of, Pends, IsFree, taken_room}
use Rattle.eden_mount.specs.Replying.{Replied, attempted, uncopied, failed, Awaits}
use Rattle.eden_mount.specs.Kept.{IsMount, core_from}
use Rattle.eden_mount.proofs.SeatLemmas.{write_one, within_if_some, count_taken, count_freed}
use Rattle.eden_mount.proofs.TurnLemmas.{nobody_met, nobody_marked, wants_after_done, marks_after_done, wants_after_wait, marks_after_wait}
use Rattle.eden_mount.proofs.Payloads.{untold, payload_keeps, payload_keeps_numbers, payload_is_no_fault}

-- what holds of each entry and of one more
of_each : (P : Entry → Type 0) (es : List Entry) (one : Entry) → ((i : ℕ) (e : Entry) → slice_get es i ≡ Some e → P e) → P one → (i : ℕ) (e : Entry) → slice_get (es ++ one ∷ []) i ≡ Some e → P e
of_each P [] one all here zero e at = subst P (cc at) here
of_each P [] one all here (suc i) e at = absurd (cc at)
of_each P (x ∷ es) one all here zero e at = all zero e at
of_each P (x ∷ es) one all here (suc i) e at = of_each P es one (λ j. all (suc j)) here i e at

-- the laws of numbers that a turn rests on
pub record AnswersAreBacked : Type 0 where
  pub gained : GainsAreBacked
  pub allowed : AnswerIsAllowed
  pub backed : AnswerIsBacked

at_end : (p n m : ℕ) → 1 ≤ p → p ≤ n → m ≡ n → p - 1 < m
at_end p n m low high e = omega arith

module _ {T : Type 0} (A : Table T) (honest : Type 0) (opening : Tree) (N : Numbers) where
  -- another queue, in which nobody at rest wants anything or has a mark
  pub requeue : (m : Core T) (q : Queue) → IsMount A honest opening N m → IsQueue q → q.passes ≡ m.queue.passes
      → ((c : ℕ) → IsFree c m → want_of c m.queue ≡ None → mark_of c m.queue ≡ None → (want_of c q ≡ None) × (mark_of c q ≡ None)) → IsMount A honest opening N (record m { queue = q })
  requeue m q h k same rest = record {
    queue = k;
    seats = h.seats ∙ sym same;
    rests = λ c free.
        let P : ℕ → Type 0 = λ n. (1 ≤ c) × (c ≤ n) in
        let pass : IsPass c m.queue = subst P same free.0 in
        let idle = h.rests c (pass, free.1) in
        rest c (pass, free.1) idle.0 idle.1;
    room = h.room;
    limit = h.limit;
    since = h.since;
    entries = λ i e at. subst (λ (n : ℕ). (1 ≤ e.pass) × (e.pass ≤ n)) (sym same) (h.entries i e at);
    legal = h.legal;
    shown = h.shown;
    backed = h.backed;
  }

  -- one table's numbers back whatever another's did
  abbrev pub BacksOn : T → T → Type 0
  BacksOn t u = (M : Numbers) → Backs M (A.numbers t) (A.next t) → Backs M (A.numbers u) (A.next u)

  pub same_backs : (t u : T) → A.numbers u ≡ A.numbers t → A.next u ≡ A.next t → BacksOn t u
  same_backs t u numbers next M b = subst (λ (n : ℕ). Backs M (A.numbers u) n) (sym next) (subst (λ (S : Numbering). Backs M S (A.next t)) (sym numbers) b)

  -- another table that shows the same
  pub retable : (m : Core T) (t : T) → IsMount A honest opening N m → (honest → A.shown t ≡ A.shown m.table) → (honest → BacksOn m.table t) → IsMount A honest opening N (record m { table = t })
  retable m t h same backs = record {
    queue = h.queue;
    seats = h.seats;
    rests = h.rests;
    room = h.room;
    limit = h.limit;
    since = h.since;
    entries = h.entries;
    legal = h.legal;
    shown = λ honestly. same honestly ∙ h.shown honestly;
    backed = λ honestly. backs honestly (replay_numbers N m.history) (h.backed honestly);
  }

  -- a key that was taken
  pub take_keeps : (m : Core T) (o : Option Key) (q : Queue) → IsMount A honest opening N m → IsQueue q → q ≡ imports.after_take o m.queue → IsMount A honest opening N (record m { queue = q })
  take_keeps m o q h i is = requeue m q h i (ap (λ (y : Queue). y.passes) is ∙ passes o) (λ c free want mark. (ap (want_of c) is ∙ wants c o ∙ want, ap (mark_of c) is ∙ marks c o ∙ mark))
    where
      passes : (x : Option Key) → (imports.after_take x m.queue).passes ≡ m.queue.passes
      passes None = refl
      passes (Some k) = refl

      wants : (c : ℕ) (x : Option Key) → want_of c (imports.after_take x m.queue) ≡ want_of c m.queue
      wants c None = refl
      wants c (Some k) = refl

      marks : (c : ℕ) (x : Option Key) → mark_of c (imports.after_take x m.queue) ≡ mark_of c m.queue
      marks c None = refl
      marks c (Some k) = refl

  -- another table, and a key that landed
  pub land_keeps : (m : Core T) (k : Key) (t : T) (q : Queue) → IsMount A honest opening N m → IsQueue q → q ≡ imports.after_done k m.queue → A.shown t ≡ A.shown m.table
      → BacksOn m.table t → IsMount A honest opening N (record m { table = t; queue = q })
  land_keeps m k t q h i is same backs = retable (record m { queue = q }) t
      (requeue m q h i (ap (λ (y : Queue). y.passes) is) (λ c free want mark. (ap (want_of c) is ∙ nobody_met m.queue k c want, ap (mark_of c) is ∙ mark))) (λ honestly. same)
      (λ honestly. backs)

  pub fail_keeps : (m : Core T) (k : Key) (x : Cause) (q : Queue) → IsMount A honest opening N m → IsQueue q → q ≡ cond (has_key k m.queue.flight) (after_failed k x m.queue) m.queue
      → IsMount A honest opening N (record m { queue = q })
  fail_keeps m k x q h i is = requeue m q h i (ap (λ (y : Queue). y.passes) is ∙ passes (has_key k m.queue.flight)) (λ c free want mark. rest c free.0 want mark (has_key k m.queue.flight) is)
    where
      passes : (b : Bool) → (cond b (after_failed k x m.queue) m.queue).passes ≡ m.queue.passes
      passes true = refl
      passes false = refl

      rest : (c : ℕ) → IsPass c m.queue → want_of c m.queue ≡ None → mark_of c m.queue ≡ None → (b : Bool) → q ≡ cond b (after_failed k x m.queue) m.queue → (want_of c q ≡ None) × (mark_of c q ≡ None)
      rest c pass want mark true e = (ap (want_of c) e ∙ nobody_met m.queue k c want, ap (mark_of c) e ∙ nobody_marked m.queue k x c h.queue pass want mark)
      rest c pass want mark false e = (ap (want_of c) e ∙ want, ap (mark_of c) e ∙ mark)

  -- ---- start

  pub start_keeps : (m : Core T) (c : ℕ) (s : Pending) (es : List Entry) → IsMount A honest opening N m → IsFree c m → taken_room m < m.limit → es ≡ m.history → s.since ≡ length m.history
      → IsMount A honest opening N (record m { seats = set m.seats (c - 1) (Some s); history = es })
  start_keeps m c s es h free few is since = record {
    queue = h.queue;
    seats = length-set m.seats (c - 1) (Some s) ∙ h.seats;
    rests = λ r other. h.rests r (other.0, at_rest r other (r == c) (written r other.0.0));
    room = omega (arith, count_taken m.seats (c - 1) s inside free.1, ap length is);
    limit = h.limit;
    since = λ r t pends. pending r t pends (r == c) (written r pends.0);
    entries = λ i e at. h.entries i e (subst (λ (l : List Entry). slice_get l i ≡ Some e) is at);
    legal = λ honestly. subst (Legal opening N) (sym is) (h.legal honestly);
    shown = λ honestly. h.shown honestly ∙ ap (replay opening) (sym is);
    backed = λ honestly. subst (λ (l : List Entry). Backs (replay_numbers N l) (A.numbers m.table) (A.next m.table)) (sym is) (h.backed honestly);
  }
    where
      new : Core T
      new = record m { seats = set m.seats (c - 1) (Some s); history = es }

      inside : c - 1 < length m.seats
      inside = at_end c m.queue.passes (length m.seats) free.0.0 free.0.1 h.seats

      written : (r : ℕ) → 1 ≤ r → seat_of r new ≡ cond (r == c) (Some s) (seat_of r m)
      written r low = write_one m.seats m.queue.passes c r (Some s) None h.seats free.0.0 free.0.1 low

      at_rest : (r : ℕ) → IsFree r new → (b : Bool) → seat_of r new ≡ cond b (Some s) (seat_of r m) → seat_of r m ≡ None
      at_rest r other true e = absurd (let x : Some s ≡ None = sym e ∙ other.1 in cc x)
      at_rest r other false e = sym e ∙ other.1

      pending : (r : ℕ) (t : Pending) → Pends r t new → (b : Bool) → seat_of r new ≡ cond b (Some s) (seat_of r m) → t.since ≤ length es
      pending r t pends true e =
          let same : t ≡ s = (let x : Some t ≡ Some s = sym pends.1 ∙ e in cc x) in
          omega (arith, ap (λ (y : Pending). y.since) same, ap length is)
      pending r t pends false e =
          let old : t.since ≤ length m.history = h.since r t (pends.0, sym e ∙ pends.1) in
          omega (arith, ap length is)

  -- ---- turn

  pub tick_keeps : (m : Core T) (t : T) → IsMount A honest opening N m → Ticks A m.table t → IsMount A honest opening N (record m { table = t })
  tick_keeps m t h ticks = retable m t h (λ honestly. ticks.tree) (λ honestly. same_backs m.table t ticks.numbers ticks.next)

  pub unload_keeps : (m : Core T) (p : Path) (age gone : ℕ) (t : T) → IsMount A honest opening N m → Unloads A honest m.table p age gone t → IsMount A honest opening N (record m { table = t })
  unload_keeps m p age gone t h unloads = retable m t h unloads.tree (λ honestly. same_backs m.table t (fun_ext (unloads.numbers honestly)) unloads.next)

  -- .. one whose files are on the disk
  pub sync_keeps : (m : Core T) (went : Bool) (t : T) → IsMount A honest opening N m → Syncs A honest m.table went t → IsMount A honest opening N (record m { table = t })
  sync_keeps m went t h syncs = retable m t h syncs.tree (λ honestly. same_backs m.table t (fun_ext (syncs.numbers honestly)) syncs.next)

  -- a reply of a turn is the table's at what the mount showed, and so is what it shows then; a fault leaves it
  abbrev IsTold : T → T → Request → Reply → Type 0
  IsTold t u q r = (fault_of r ≡ None → Replies (A.shown t) q r) × (A.shown u ≡ after (A.shown t) q r)

  module _ (t u : T) (q : Request) (r : Reply) (honestly : honest) where
    faulted : (f : Fault) → r ≡ say.Fault f → A.shown u ≡ A.shown t → IsTold t u q r
    faulted f is same = (λ plain. absurd (let x : None ≡ Some f = sym plain ∙ ap fault_of is in cc x), same ∙ ap (after (A.shown t) q) (sym is))

    -- what backs numbers allows the reply's, and goes on to back what it leaves
    abbrev IsBacked : Type 0
    IsBacked = (M : Numbers) → Backs M (A.numbers t) (A.next t) → AllowsStat M (stat_number q r) × Backs (after_numbers M q r) (A.numbers u) (A.next u)

    fault_backed : (f : Fault) → r ≡ say.Fault f → BacksOn t u → IsBacked
    fault_backed f is on M b =
        let R : Reply → Type 0 = λ x. AllowsStat M (stat_number q x) × Backs (after_numbers M q x) (A.numbers u) (A.next u) in
        let none = untold q (say.Fault f) (λ p. refl) in
        subst R (sym is) (subst (AllowsStat M) (sym none) tt, subst (λ o. Backs (with_stat o M) (A.numbers u) (A.next u)) (sym none) (on M b))

    replied_is_backed : (copies : Bool) (mark : Option Mark) → AnswersAreBacked → Replied A honest copies t q mark r u → IsBacked
    replied_is_backed copies mark laws (attempted done) M b =
        let renumbers = done.numbers honestly in (
          laws.allowed M (A.numbers t) (A.numbers u) (A.next t) (A.next u) q r b renumbers,
          laws.backed (A.shown t) M (A.numbers t) (A.numbers u) (A.next t) (A.next u) q r b renumbers (done.reply honestly),
        )
    replied_is_backed copies mark laws (uncopied lacking found done large is) M b =
        let says = done.reply honestly (payload_is_no_fault found large) in
        let answered : BacksOn t u = λ K h. subst (λ (L : Numbers). Backs L (A.numbers u) (A.next u)) (payload_keeps_numbers (A.shown t) q found K says large)
        (laws.backed (A.shown t) K (A.numbers t) (A.numbers u) (A.next t) (A.next u) q found h (done.numbers honestly) (done.reply honestly)) in
        fault_backed fault.Memory is answered M b
    replied_is_backed copies mark laws (failed k x needs marked is) M b =
        let gained : BacksOn t u = λ K h. laws.gained K (A.numbers t) (A.numbers u) (A.next t) (A.next u) h (needs.numbers honestly) in
        fault_backed (fault.Fetch k.id x) is gained M b

    replied_is_tables : (copies : Bool) (mark : Option Mark) → Replied A honest copies t q mark r u → IsTold t u q r
    replied_is_tables copies mark (attempted done) = (done.reply honestly, done.tree honestly)
    replied_is_tables copies mark (uncopied lacking found done large is) =
        let says = done.reply honestly (payload_is_no_fault found large) in
        faulted fault.Memory is (done.tree honestly ∙ payload_keeps (A.shown t) q found says large)
    replied_is_tables copies mark (failed k x needs marked is) = faulted (fault.Fetch k.id x) is (needs.tree honestly)

  pub pass_of : (m : Core T) (c : ℕ) (s : Pending) → IsMount A honest opening N m → Pends c s m → IsPass c m.queue
  pass_of m c s h pends =
      let seats = h.seats in
      let inside = within_if_some m.seats (c - 1) s pends.1 in
      (pends.0, omega (arith, inside, seats))

  pub turn_keeps : AnswersAreBacked → (copies : Bool) (m : Core T) (c : ℕ) (s : Pending) (r : Reply) (t : T) (q : Queue) (es : List Entry) → IsMount A honest opening N m → Pends c s m → IsQueue q
      → q ≡ after_quit c (after_failure c m.queue) → es ≡ m.history ++ entry c s.request r ∷ [] → Replied A honest copies m.table s.request (mark_of c m.queue) r t
      → IsMount A honest opening N (core_from t q (set m.seats (c - 1) None) es m.limit)
  turn_keeps laws copies m c s r t q es h pends i is grown replied = record {
    queue = i;
    seats = length-set m.seats (c - 1) None ∙ h.seats ∙ sym passes;
    rests = λ x free. rest x (subst (λ n. (1 ≤ x) × (x ≤ n)) passes free.0) free.1 (x == c) refl;
    room = omega (arith, h.room, count_freed m.seats (c - 1) s pends.1, long);
    limit = h.limit;
    since = λ x p other. pending x p other (x == c) (written x other.0);
    entries = λ j e at. subst (λ (k : ℕ). (1 ≤ e.pass) × (e.pass ≤ k)) (sym passes)
        (of_each (λ (x : Entry). IsPass x.pass m.queue) m.history (entry c s.request r) h.entries pass j e (subst (λ (l : List Entry). slice_get l j ≡ Some e) grown at));
    legal = λ honestly. subst (Legal opening N) (sym grown) ((Legal-append opening N m.history (entry c s.request r ∷ [])).1 (
      h.legal honestly,
      (λ plain. subst (λ (F : Tree). Replies F s.request r) (h.shown honestly) ((tables honestly).0 plain), (numbers honestly).0, tt),
    ));
    shown = λ honestly. (tables honestly).1 ∙ ap (λ (F : Tree). after F s.request r) (h.shown honestly) ∙ sym (replay-append opening m.history (entry c s.request r ∷ [])) ∙ ap (replay opening)
        (sym grown);
    backed = λ honestly. subst (λ (M : Numbers). Backs M (A.numbers t) (A.next t)) (sym (replay_numbers-append N m.history (entry c s.request r ∷ [])) ∙ ap (replay_numbers N) (sym grown))
        (numbers honestly).1;
  }
    where
      new : Core T
      new = core_from t q (set m.seats (c - 1) None) es m.limit

      long : length es ≡ length m.history + 1
      long = ap length grown ∙ length-append m.history (entry c s.request r ∷ [])

      passes : q.passes ≡ m.queue.passes
      passes = ap (λ (y : Queue). y.passes) is ∙ (quit_rest c (after_failure c m.queue)).1

      pass : IsPass c m.queue
      pass = pass_of m c s h pends

      written : (x : ℕ) → 1 ≤ x → seat_of x new ≡ cond (x == c) None (seat_of x m)
      written x low = write_one m.seats m.queue.passes c x None None h.seats pass.0 pass.1 low

      tables : honest → IsTold m.table t s.request r
      tables honestly = replied_is_tables m.table t s.request r honestly copies (mark_of c m.queue) replied

      numbers : honest → AllowsStat (replay_numbers N m.history) (stat_number s.request r) × Backs (after_numbers (replay_numbers N m.history) s.request r) (A.numbers t) (A.next t)
      numbers honestly = replied_is_backed m.table t s.request r honestly copies (mark_of c m.queue) laws replied (replay_numbers N m.history) (h.backed honestly)

      want : (x : ℕ) → IsPass x m.queue → want_of x q ≡ cond (x == c) None (want_of x m.queue)
      want x at = ap (want_of x) is ∙ wants_after_done m.queue c x h.queue pass at

      mark : (x : ℕ) → IsPass x m.queue → mark_of x q ≡ cond (x == c) None (mark_of x m.queue)
      mark x at = ap (mark_of x) is ∙ marks_after_done m.queue c x h.queue pass at

      rest : (x : ℕ) → IsPass x m.queue → seat_of x new ≡ None → (b : Bool) → (x == c) ≡ b → (want_of x q ≡ None) × (mark_of x q ≡ None)
      rest x at free true e = (want x at ∙ ap (λ b. cond b None (want_of x m.queue)) e, mark x at ∙ ap (λ b. cond b None (mark_of x m.queue)) e)
      rest x at free false e =
          let idle = h.rests x (at, sym (written x at.0 ∙ ap (λ b. cond b None (seat_of x m)) e) ∙ free) in
          (want x at ∙ ap (λ b. cond b None (want_of x m.queue)) e ∙ idle.0, mark x at ∙ ap (λ b. cond b None (mark_of x m.queue)) e ∙ idle.1)

      pending : (x : ℕ) (p : Pending) → Pends x p new → (b : Bool) → seat_of x new ≡ cond b None (seat_of x m) → p.since ≤ length es
      pending x p other true e = absurd (let y : None ≡ Some p = sym e ∙ other.1 in cc y)
      pending x p other false e =
          let old : p.since ≤ length m.history = h.since x p (other.0, sym e ∙ other.1) in
          omega (arith, long)

  pub wait_keeps : GainsAreBacked → (m : Core T) (c : ℕ) (s : Pending) (k : Key) (t : T) (q : Queue) → IsMount A honest opening N m → Pends c s m → IsQueue q
      → q ≡ after_await k c (after_failure c m.queue) → Awaits A honest m.table s.request (mark_of c m.queue) k t → IsMount A honest opening N (record m { table = t; queue = q })
  wait_keeps gained m c s k t q h pends i is awaits = retable (record m { queue = q }) t (requeue m q h i passes rest) awaits.needs.tree
      (λ honestly M b. gained M (A.numbers m.table) (A.numbers t) (A.next m.table) (A.next t) b (awaits.needs.numbers honestly))
    where
      passes : q.passes ≡ m.queue.passes
      passes = ap (λ (y : Queue). y.passes) is ∙ (passes_keep_flight (after_failure c m.queue) k c).2.1

      pass : IsPass c m.queue
      pass = pass_of m c s h pends

      rest : (x : ℕ) → IsFree x m → want_of x m.queue ≡ None → mark_of x m.queue ≡ None → (want_of x q ≡ None) × (mark_of x q ≡ None)
      rest x free none clear = at (x == c) refl
        where
          at : (b : Bool) → (x == c) ≡ b → (want_of x q ≡ None) × (mark_of x q ≡ None)
          at true e =
              let same : x ≡ c = eqb-true x c e in
              let both : None ≡ Some s = sym free.1 ∙ ap (λ i. seat_of i m) same ∙ pends.1 in
              absurd (cc both)
          at false e = (
            ap (want_of x) is ∙ wants_after_wait m.queue c x h.queue pass free.0 k ∙ ap (λ b. cond b (Some k) (want_of x m.queue)) e ∙ none,
            ap (mark_of x) is ∙ marks_after_wait m.queue c x h.queue pass free.0 k ∙ ap (λ b. cond b None (mark_of x m.queue)) e ∙ clear,
          )
