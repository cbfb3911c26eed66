-- What a run says of waits, failures and flights.
use Rattle.std.proofs.Common.{◌≡◌, ◌≤◌, ◌-◌, ◌==◌, ◌&&◌, ◌||◌, not, ℕ, Bool, true, false, cond, List, [], ◌∷◌, Option, Some, None, slice_index_or, Ok, Err, inl, inr, refl, sym, ap, ◌∙◌, subst}
use Rattle.std.proofs.lemmas.Bool.{eqb-false, eq-eqb}
use Rattle.eden_model.specs.declared.fault.Cause.{Cause}
use Rattle.eden_model.specs.declared.fault.Cause.TheVariants as cause
use Rattle.eden_model.specs.declared.fault.Fault.TheVariants as fault
use Rattle.eden_model.specs.declared.id.Id.{Id}
use Rattle.eden_model.specs.declared.id.Key.{Key}
use Rattle.eden_model.specs.declared.id.ObjKind.TheVariants as objects
use Rattle.eden_model.specs.declared.request.Request.{Request}
use Rattle.eden_model.specs.declared.reply.Reply.{Reply}
use Rattle.eden_model.specs.declared.reply.Reply.TheVariants as say
use Rattle.eden_model.specs.Keys.{same_key}
use Rattle.eden_model.proofs.CallerLemmas.{same_key-Decides}
use Rattle.eden_model.specs.Numbers.{Numbers}
use Rattle.eden_model.specs.Trees.{Tree}
use Rattle.eden_import.specs.Keys.{has_key}
use Rattle.eden_import.specs.Queue.{Queue, Mark, IsQueue, IsPass, want_of, mark_of, wants_key, next_key, after_await, after_done, after_failed, after_failure, after_take}
use Rattle.eden_import.proofs.CallerLemmas.{all_are_met, wanters_are_marked, queued_are_wanted, wanted_stand, wants_stay, marks_stay, one_is_taken, one_lands, quit_rest, passes_keep_flight}
use Rattle.eden_mount.specs.declared.seats.Pending.{Pending}
use Rattle.eden_mount.specs.declared.events.Turned.TheVariants.{Done, Wait, Idle}
use Rattle.eden_mount.specs.declared.events.Arrived.TheVariants.{Stored, Refused, Stray}
use Rattle.eden_mount.specs.declared.events.Event.{Event}
use Rattle.eden_mount.specs.declared.events.Event.TheVariants as event
use Rattle.eden_mount.specs.declared.events.Outcome.{Outcome}
use Rattle.eden_mount.specs.declared.events.Outcome.TheVariants as outcome
use Rattle.eden_mount.specs.Tables.{Table}
use Rattle.eden_mount.specs.Core.{Core, seat_of, Pends}
use Rattle.eden_mount.specs.Replying.{Replied, attempted, uncopied, failed}
use Rattle.eden_mount.specs.Kept.{IsMount}
use Rattle.eden_mount.specs.Events.{Steps, starts, turns, takes, arrives, fails, unloads, syncs}
use Rattle.eden_mount.specs.Spans.{waits_of, flies_in, Blames, heard_by, with_pass, then_waits, waits_after, or_failed, but_for, then_heard, IsBlamed, AreBlamed, then_flies, IsFlown, AreFlown}
use Rattle.eden_mount.specs.Laws.{WaitsStand, MarkedWaitNoMore}
use Rattle.eden_mount.proofs.Keeping.{pass_of}
use Rattle.eden_mount.proofs.TurnLemmas.{wants_after_done, marks_after_done, wants_after_wait, marks_after_wait}
use Rattle.eden_mount.proofs.Running.{Runs, OfRuns, runs_keep, taken_passes}

-- a want for the key is the key
wanted_is : (k : Key) (o : Option Key) → wants_key k o ≡ true → o ≡ Some k
wanted_is k None t = absurd (cc t)
wanted_is k (Some j) t = ap Some (sym ((same_key-Decides k j).0 t))

-- what remains wanted was
still_wanted : (k j : Key) (o : Option Key) (b : Bool) → cond b None o ≡ Some j → o ≡ Some j
still_wanted k j o true e = absurd (cc e)
still_wanted k j o false e = e

-- any key
some_key : Key
some_key = record { kind = objects.Blob; id = record { bytes = [] } }

module _ {T : Type 0} (A : Table T) (honest : Type 0) (copies : Bool) (opening : Tree) (N : Numbers) where
  -- what was read off the events is what the queue says
  record Hears (w : ℕ → Option Key) (P : Blames) (m : Core T) : Type 0 where
    waits : (c : ℕ) (k : Key) → IsPass c m.queue → want_of c m.queue ≡ Some k → w c ≡ Some k
    heard : (c : ℕ) (k : Key) (x : Cause) → IsPass c m.queue → mark_of c m.queue ≡ Some (k, x) → P c k x

  same_queue : (w : ℕ → Option Key) (P : Blames) (m k : Core T) → k.queue.wants ≡ m.queue.wants → k.queue.marks ≡ m.queue.marks → k.queue.passes ≡ m.queue.passes → Hears w P m → Hears w P k
  same_queue w P m k ws ms ps h = record {
    waits = λ c j s e. h.waits c j (at c s) (ap (λ (x : List (Option Key)). slice_index_or x (c - 1) None) (sym ws) ∙ e);
    heard = λ c j x s e. h.heard c j x (at c s) (ap (λ (y : List (Option Mark)). slice_index_or y (c - 1) None) (sym ms) ∙ e);
  }
    where
      at : (c : ℕ) → IsPass c k.queue → IsPass c m.queue
      at c s = (s.0, subst (λ n. c ≤ n) ps s.1)

  -- a turn of the pass: its want is written, its mark is gone
  turned : (w : ℕ → Option Key) (P : Blames) (m k : Core T) (c : ℕ) (o : Option Key) → Hears w P m → k.queue.passes ≡ m.queue.passes
      → ((i : ℕ) → IsPass i m.queue → want_of i k.queue ≡ cond (i == c) o (want_of i m.queue)) → ((i : ℕ) → IsPass i m.queue → mark_of i k.queue ≡ cond (i == c) None (mark_of i m.queue))
      → Hears (with_pass w c o) (but_for P c) k
  turned w P m k c o h ps want mark = record {
    waits = λ i j s e. waits i j (at i s) (i == c) (sym (want i (at i s)) ∙ e);
    heard = λ i j x s e. heard i j x (at i s) (i == c) refl (sym (mark i (at i s)) ∙ e);
  }
    where
      at : (i : ℕ) → IsPass i k.queue → IsPass i m.queue
      at i s = (s.0, subst (λ n. i ≤ n) ps s.1)

      waits : (i : ℕ) (j : Key) → IsPass i m.queue → (b : Bool) → cond b o (want_of i m.queue) ≡ Some j → cond b o (w i) ≡ Some j
      waits i j s true e = e
      waits i j s false e = h.waits i j s e

      heard : (i : ℕ) (j : Key) (x : Cause) → IsPass i m.queue → (b : Bool) → (i == c) ≡ b → cond b None (mark_of i m.queue) ≡ Some (j, x) → but_for P c i j x
      heard i j x s true is e = absurd (cc e)
      heard i j x s false is e = (eqb-false i c is, h.heard i j x s e)

  -- the key failed
  key_failed : (w : ℕ → Option Key) (P : Blames) (m k : Core T) (j : Key) (x : Cause) → IsMount A honest opening N m → Hears w P m → k.queue ≡ after_failed j x m.queue → Hears w (or_failed w P j x) k
  key_failed w P m k j x mount h is = record {
    waits = λ i y s e. h.waits i y (at i s)
        (still_wanted j y (want_of i m.queue) (wants_key j (want_of i m.queue)) (sym ((all_are_met m.queue j x i).1 ∙ (all_are_met m.queue j x i).0) ∙ sym (ap (want_of i) is) ∙ e));
    heard = λ i y z s e. heard i y z (at i s) (wants_key j (want_of i m.queue)) refl (sym (wanters_are_marked m.queue j x i mount.queue (at i s)) ∙ sym (ap (mark_of i) is) ∙ e);
  }
    where
      at : (i : ℕ) → IsPass i k.queue → IsPass i m.queue
      at i s = (s.0, subst (λ n. i ≤ n) (ap (λ (q : Queue). q.passes) is) s.1)

      heard : (i : ℕ) (y : Key) (z : Cause) → IsPass i m.queue → (b : Bool) → wants_key j (want_of i m.queue) ≡ b → cond b (Some (j, x)) (mark_of i m.queue) ≡ Some (y, z) → or_failed w P j x i y z
      heard i y z s true t e =
          let same : (j, x) ≡ (y, z) = cc e in
          inr (h.waits i j s (wanted_is j (want_of i m.queue) t), sym (ap (λ (p : Key × Cause). p.0) same), sym (ap (λ (p : Key × Cause). p.1) same))
      heard i y z s false t e = inl (h.heard i y z s e)

  key_landed : (w : ℕ → Option Key) (P : Blames) (m k : Core T) (j : Key) → Hears w P m → k.queue ≡ after_done j m.queue → Hears w P k
  key_landed w P m k j h is = record {
    waits = λ i y s e. h.waits i y (at i s) (still_wanted j y (want_of i m.queue) (wants_key j (want_of i m.queue)) (sym (all_are_met m.queue j cause.Memory i).0 ∙ sym (ap (want_of i) is) ∙ e));
    heard = λ i y z s e. h.heard i y z (at i s) (sym (ap (mark_of i) is) ∙ e);
  }
    where
      at : (i : ℕ) → IsPass i k.queue → IsPass i m.queue
      at i s = (s.0, subst (λ n. i ≤ n) (ap (λ (q : Queue). q.passes) is) s.1)

  same_all : (w : ℕ → Option Key) (P : Blames) (m k : Core T) → k.queue ≡ m.queue → Hears w P m → Hears w P k
  same_all w P m k is h = same_queue w P m k (ap (λ (q : Queue). q.wants) is) (ap (λ (q : Queue). q.marks) is) (ap (λ (q : Queue). q.passes) is) h

  hears : (w : ℕ → Option Key) (P : Blames) (m k : Core T) (e : Event) (o : Outcome) → IsMount A honest opening N m → Hears w P m → Steps A honest copies m k e o
      → Hears (then_waits w e o) (then_heard w P e o) k
  hears w P m k _ _ h l (starts c q (Ok u) p) = same_all w P m k (ap (λ (x : Core T). x.queue) p.2) l
  hears w P m k _ _ h l (starts c q (Err x) p) = same_all w P m k (ap (λ (x : Core T). x.queue) p.1) l
  hears w P m k _ _ h l (turns c (Done n r) p) =
      let is = ap (λ (x : Core T). x.queue) p.3 in
      let pass = pass_of A honest opening N m c p.0 h p.1 in
      turned w P m k c None l (ap (λ (q : Queue). q.passes) is ∙ (quit_rest c (after_failure c m.queue)).1)
      (λ i s. ap (want_of i) is ∙ wants_after_done m.queue c i h.queue pass s)
      (λ i s. ap (mark_of i) is ∙ marks_after_done m.queue c i h.queue pass s)
  hears w P m k _ _ h l (turns c (Wait j) p) =
      let is = ap (λ (x : Core T). x.queue) p.2 in
      let pass = pass_of A honest opening N m c p.0 h p.1 in
      turned w P m k c (Some j) l (ap (λ (q : Queue). q.passes) is ∙ (passes_keep_flight (after_failure c m.queue) j c).2.1)
      (λ i s. ap (want_of i) is ∙ wants_after_wait m.queue c i h.queue pass s j)
      (λ i s. ap (mark_of i) is ∙ marks_after_wait m.queue c i h.queue pass s j)
  hears w P m k _ _ h l (turns c Idle p) = same_all w P m k (ap (λ (x : Core T). x.queue) p.2) l
  hears w P m k _ _ h l (takes o p) =
      let is = ap (λ (x : Core T). x.queue) p.1 in
      let next = next_key m.queue in
      same_queue w P m k (ap (λ (q : Queue). q.wants) is ∙ (wants_stay m.queue 0 next).0) (ap (λ (q : Queue). q.marks) is ∙ (marks_stay m.queue some_key 0 next).3)
      (ap (λ (q : Queue). q.passes) is ∙ taken_passes m.queue next) l
  hears w P m k _ _ h l (arrives j bytes Stored p) = key_landed w P m k j l (ap (λ (x : Core T). x.queue) p.2)
  hears w P m k _ _ h l (arrives j bytes (Refused x) p) = key_failed w P m k j x h l (ap (λ (x : Core T). x.queue) p.2)
  hears w P m k _ _ h l (arrives j bytes Stray p) = same_all w P m k (ap (λ (x : Core T). x.queue) p.1) l
  hears w P m k _ _ h l (fails j x true p) = key_failed w P m k j x h l (ap (λ (x : Core T). x.queue) p.1 ∙ ap (λ b. cond b (after_failed j x m.queue) m.queue) (sym p.0))
  hears w P m k _ _ h l (fails j x false p) = same_all w P m k (ap (λ (x : Core T). x.queue) p.1 ∙ ap (λ b. cond b (after_failed j x m.queue) m.queue) (sym p.0)) l
  hears w P m k _ _ h l (unloads q age gone p) = same_all w P m k (ap (λ (x : Core T). x.queue) p.1) l
  hears w P m k _ _ h l (syncs y p) = same_all w P m k (ap (λ (x : Core T). x.queue) p.1) l

  -- ---- fetch faults

  only_fetches : (P : Blames) (c n : ℕ) (r : Reply) → ((id : Id) (x : Cause) → r ≡ say.Fault (fault.Fetch id x) → (k : Key) × (k.id ≡ id) × P c k x)
      → IsBlamed P (event.Turn c) (outcome.Turn (Done n r))
  only_fetches P c n say.Ok f = tt
  only_fetches P c n (say.Kind k) f = tt
  only_fetches P c n (say.Stat k size i) f = tt
  only_fetches P c n (say.Data d) f = tt
  only_fetches P c n (say.Count count) f = tt
  only_fetches P c n (say.Entries es more) f = tt
  only_fetches P c n (say.Err e) f = tt
  only_fetches P c n (say.Fault (fault.Fetch id x)) f = f id x refl
  only_fetches P c n (say.Fault fault.Memory) f = tt
  only_fetches P c n (say.Fault fault.Overlay) f = tt
  only_fetches P c n (say.Fault fault.Numbers) f = tt

  fetch_blamed : (w : ℕ → Option Key) (P : Blames) (m : Core T) (c : ℕ) (t u : T) (q : Request) (r : Reply) → Hears w P m → IsPass c m.queue → Replied A honest copies t q (mark_of c m.queue) r u
      → (id : Id) (x : Cause) → r ≡ say.Fault (fault.Fetch id x) → (k : Key) × (k.id ≡ id) × P c k x
  fetch_blamed w P m c t u q r l pass (attempted done) id x is = absurd (done.unfetched id x is)
  fetch_blamed w P m c t u q r l pass (uncopied lacking found done large memory) id x is = absurd (let both : say.Fault fault.Memory ≡ say.Fault (fault.Fetch id x) = sym memory ∙ is in cc both)
  fetch_blamed w P m c t u q r l pass (failed k y needs marked was) id x is =
      let both : say.Fault (fault.Fetch k.id y) ≡ say.Fault (fault.Fetch id x) = sym was ∙ is in
      let ids : k.id ≡ id = cc both in
      let causes : y ≡ x = cc both in
      (k, ids, subst (P c k) causes (l.heard c k y pass marked))

  blamed : (w : ℕ → Option Key) (P : Blames) (m k : Core T) (e : Event) (o : Outcome) → IsMount A honest opening N m → Hears w P m → Steps A honest copies m k e o → IsBlamed P e o
  blamed w P m k _ _ h l (starts c q r p) = tt
  blamed w P m k _ _ h l (turns c (Done n r) p) =
      let told = p.4 in
      only_fetches P c n r (fetch_blamed w P m c told.begun k.table p.0.request r l (pass_of A honest opening N m c p.0 h p.1) told.replied)
  blamed w P m k _ _ h l (turns c (Wait j) p) = tt
  blamed w P m k _ _ h l (turns c Idle p) = tt
  blamed w P m k _ _ h l (takes o p) = tt
  blamed w P m k _ _ h l (arrives j bytes a p) = tt
  blamed w P m k _ _ h l (fails j x b p) = tt
  blamed w P m k _ _ h l (unloads q age gone p) = tt
  blamed w P m k _ _ h l (syncs y p) = tt

  all_blamed : (w : ℕ → Option Key) (P : Blames) (m m' : Core T) (es : List Event) (os : List Outcome) → Hears w P m → IsMount A honest opening N m → Runs A honest copies opening N m es os m'
      → AreBlamed w P es os
  all_blamed w P m m' [] os l h r = tt
  all_blamed w P m m' (e ∷ es) [] l h r = tt
  all_blamed w P m m' (e ∷ es) (o ∷ os) l h (k, step, kept, more) = (blamed w P m k e o h l step, all_blamed (then_waits w e o) (then_heard w P e o) k m' es os (hears w P m k e o h l step) kept more)

  all_hear : (w : ℕ → Option Key) (P : Blames) (m m' : Core T) (es : List Event) (os : List Outcome) → Hears w P m → IsMount A honest opening N m → Runs A honest copies opening N m es os m'
      → (c : ℕ) (k : Key) → IsPass c m'.queue → want_of c m'.queue ≡ Some k → waits_after w es os c ≡ Some k
  all_hear w P m m' [] [] l h r c k s e =
      let now : Hears w P m' = same_all w P m m' (ap (λ (x : Core T). x.queue) r) l in
      now.waits c k s e
  all_hear w P m m' [] (o ∷ os) l h r c k s e = absurd r
  all_hear w P m m' (e ∷ es) [] l h r c k s is = absurd r
  all_hear w P m m' (e ∷ es) (o ∷ os) l h (k, step, kept, more) c j s is = all_hear (then_waits w e o) (then_heard w P e o) k m' es os (hears w P m k e o h l step) kept more c j s is

  at_first : (m : Core T) → Hears (waits_of m) (heard_by m) m
  at_first m = record { waits = λ c k s e. e; heard = λ c k x s e. e }

  pub fetch_faults_are_blamed : OfRuns A honest copies opening N (λ m es os m'. AreBlamed (waits_of m) (heard_by m) es os)
  fetch_faults_are_blamed m m' es os h r = all_blamed (waits_of m) (heard_by m) m m' es os (at_first m) h r

  -- a pass that wants a key has a request pending
  pends_if_wants : (m : Core T) (c : ℕ) (k : Key) → IsMount A honest opening N m → IsPass c m.queue → want_of c m.queue ≡ Some k → (s : Pending) × Pends c s m
  pends_if_wants m c k h pass want = at (seat_of c m) refl
    where
      at : (o : Option Pending) → seat_of c m ≡ o → (s : Pending) × Pends c s m
      at None e = absurd (let none : None ≡ Some k = sym (h.rests c (pass, e)).0 ∙ want in cc none)
      at (Some s) e = (s, (pass.0, e))

  -- some pending request waits for each queued key
  pub queued_are_waited_for : OfRuns A honest copies opening N (λ m es os m'. (k : Key) → has_key k m'.queue.queue ≡ true
      → (c : ℕ) × (s : Pending) × Pends c s m' × (waits_after (waits_of m) es os c ≡ Some k))
  queued_are_waited_for m m' es os h r k queued =
      let now = runs_keep A honest copies opening N m m' es os h r in
      let found = queued_are_wanted m'.queue k now.queue queued in
      let pending = pends_if_wants m' found.0 k now found.1 found.2 in
      (found.0, pending.0, pending.1, all_hear (waits_of m) (heard_by m) m m' es os (at_first m) h r found.0 k found.1 found.2)

  -- ---- flights

  record Flies (g : Key → Bool) (m : Core T) : Type 0 where
    flies : (j : Key) → has_key j m.queue.flight ≡ g j

  same_flight : (g : Key → Bool) (m k : Core T) → k.queue.flight ≡ m.queue.flight → Flies g m → Flies g k
  same_flight g m k is l = record { flies = λ j. ap (has_key j) is ∙ l.flies j }

  -- the key left the flight
  left_flight : (g : Key → Bool) (m k : Core T) (j : Key) → k.queue.flight ≡ (after_done j m.queue).flight → Flies g m → Flies (λ i. g i && not (same_key j i)) k
  left_flight g m k j is l = record { flies = λ i. ap (has_key i) is ∙ (one_lands m.queue j i cause.Memory).0 ∙ ap (λ b. b && not (same_key j i)) (l.flies i) }

  -- the key is in flight now
  joined_flight : (g : Key → Bool) (m k : Core T) (j : Key) → IsQueue m.queue → next_key m.queue ≡ Some j → k.queue.flight ≡ (after_take (Some j) m.queue).flight → Flies g m
      → Flies (λ i. g i || same_key i j) k
  joined_flight g m k j h next is l = record { flies = λ i. ap (has_key i) is ∙ (one_is_taken m.queue j i h next).1 ∙ ap (λ b. b || same_key i j) (l.flies i) }

  flown : (g : Key → Bool) (m k : Core T) (e : Event) (o : Outcome) → IsMount A honest opening N m → Flies g m → Steps A honest copies m k e o → IsFlown g e o × Flies (then_flies g e o) k
  flown g m k _ _ h l (starts c q (Ok u) p) = (tt, same_flight g m k (ap (λ (x : Core T). x.queue.flight) p.2) l)
  flown g m k _ _ h l (starts c q (Err x) p) = (tt, same_flight g m k (ap (λ (x : Core T). x.queue.flight) p.1) l)
  flown g m k _ _ h l (turns c (Done n r) p) = (tt, same_flight g m k (ap (λ (x : Core T). x.queue.flight) p.3 ∙ (quit_rest c (after_failure c m.queue)).0) l)
  flown g m k _ _ h l (turns c (Wait j) p) = (tt, same_flight g m k (ap (λ (x : Core T). x.queue.flight) p.2 ∙ (passes_keep_flight (after_failure c m.queue) j c).2.0) l)
  flown g m k _ _ h l (turns c Idle p) = (tt, same_flight g m k (ap (λ (x : Core T). x.queue.flight) p.2) l)
  flown g m k _ _ h l (takes None p) = (tt, same_flight g m k (ap (λ (x : Core T). x.queue.flight) p.1 ∙ ap (λ o. (after_take o m.queue).flight) (sym p.0)) l)
  flown g m k _ _ h l (takes (Some j) p) = (
    sym (l.flies j) ∙ (one_is_taken m.queue j j h.queue (sym p.0)).0,
    joined_flight g m k j h.queue (sym p.0) (ap (λ (x : Core T). x.queue.flight) p.1 ∙ ap (λ o. (after_take o m.queue).flight) (sym p.0)) l,
  )
  flown g m k _ _ h l (arrives j bytes Stored p) = (sym (l.flies j) ∙ p.0, left_flight g m k j (ap (λ (x : Core T). x.queue.flight) p.2) l)
  flown g m k _ _ h l (arrives j bytes (Refused x) p) = (sym (l.flies j) ∙ p.0, left_flight g m k j (ap (λ (x : Core T). x.queue.flight) p.2) l)
  flown g m k _ _ h l (arrives j bytes Stray p) = (sym (l.flies j) ∙ p.0, same_flight g m k (ap (λ (x : Core T). x.queue.flight) p.1) l)
  flown g m k _ _ h l (fails j x true p) = (p.0 ∙ l.flies j, left_flight g m k j (ap (λ (x : Core T). x.queue.flight) p.1 ∙ ap (λ b. (cond b (after_failed j x m.queue) m.queue).flight) (sym p.0)) l)
  flown g m k _ _ h l (fails j x false p) = (p.0 ∙ l.flies j, same_flight g m k (ap (λ (x : Core T). x.queue.flight) p.1 ∙ ap (λ b. (cond b (after_failed j x m.queue) m.queue).flight) (sym p.0)) l)
  flown g m k _ _ h l (unloads q age gone p) = (tt, same_flight g m k (ap (λ (x : Core T). x.queue.flight) p.1) l)
  flown g m k _ _ h l (syncs y p) = (tt, same_flight g m k (ap (λ (x : Core T). x.queue.flight) p.1) l)

  all_flown : (g : Key → Bool) (m m' : Core T) (es : List Event) (os : List Outcome) → Flies g m → IsMount A honest opening N m → Runs A honest copies opening N m es os m' → AreFlown g es os
  all_flown g m m' [] os l h r = tt
  all_flown g m m' (e ∷ es) [] l h r = tt
  all_flown g m m' (e ∷ es) (o ∷ os) l h (k, step, kept, more) =
      let one = flown g m k e o h l step in
      (one.0, all_flown (then_flies g e o) k m' es os one.1 kept more)

  pub taken_once : OfRuns A honest copies opening N (λ m es os m'. AreFlown (flies_in m) es os)
  taken_once m m' es os h r = all_flown (flies_in m) m m' es os (record { flies = λ j. refl }) h r

-- ---- one turn

module _ {T : Type 0} (A : Table T) (honest : Type 0) (opening : Tree) (N : Numbers) where
  pub waits_stand : WaitsStand A honest opening N
  waits_stand copies m m' c k h h' (s, pends, is, waits) =
      let pass = pass_of A honest opening N m c s h pends in
      let queue : m'.queue ≡ after_await k c (after_failure c m.queue) = ap (λ (x : Core T). x.queue) is in
      let passes : m'.queue.passes ≡ m.queue.passes = ap (λ (q : Queue). q.passes) queue ∙ (passes_keep_flight (after_failure c m.queue) k c).2.1 in
      let now : IsPass c m'.queue = (pass.0, subst (λ n. c ≤ n) (sym passes) pass.1) in
      let want : want_of c m'.queue ≡ Some k = ap (want_of c) queue ∙ wants_after_wait m.queue c c h.queue pass pass k ∙ ap (λ b. cond b (Some k) (want_of c m.queue)) (eq-eqb c c refl) in
      wanted_stand m'.queue k c h'.queue now want

  pub marked_wait_no_more : MarkedWaitNoMore A honest opening N
  marked_wait_no_more copies m m' c k j x mark (s, pends, is, waits) same = waits.awaits.unmarked x (mark ∙ ap (λ (i : Key). Some (i, x)) (sym same))
