-- One caller's request, driven to its reply.
use Rattle.std.proofs.Common.{Bool, ◌≡◌, ◌≤◌, ◌<◌, ◌+◌, ◌-◌, ◌*◌, ◌||◌, ◌⊎◌, not, ℕ, cond, List, [], ◌∷◌, ◌++◌, length, drop, Option, Some, None, Ok, Err, slice_index_or, slice_get, nat_lt, true}
use Rattle.std.proofs.Common.{lt-ltb, inl, inr, refl, sym, ap, ◌∙◌, subst, ⊎_elim, arith}
use Rattle.std.proofs.Math.ListN.{set}
use Rattle.std.specs.Option.{option_map_or}
use Rattle.std.proofs.lemmas.List.{get_or-set_same}
use Rattle.eden_model.specs.declared.fault.Cause.{Cause}
use Rattle.eden_model.specs.declared.fault.Cause.TheVariants as cause
use Rattle.eden_model.specs.declared.fault.Fault.TheVariants as fault
use Rattle.eden_model.specs.declared.id.Id.{Id}
use Rattle.eden_model.specs.declared.id.Key.{Key}
use Rattle.eden_model.specs.declared.request.Request.{Request}
use Rattle.eden_model.specs.declared.reply.Reply.{Reply}
use Rattle.eden_model.specs.declared.reply.Reply.TheVariants as say
use Rattle.eden_model.specs.Keys.{same_key}
use Rattle.eden_model.specs.Requests.{most_objects}
use Rattle.eden_model.specs.Numbers.{Numbers}
use Rattle.eden_model.specs.Trees.{Tree}
use Rattle.eden_model.proofs.CallerLemmas.{same_key-Decides}
use Rattle.eden_model.specs.Histories.{entry}
use Rattle.eden_object.specs.Objects.{Body}
use Rattle.eden_source.specs.Asking.{Asked}
use Rattle.eden_source.specs.Fetching.{Answer}
use Rattle.eden_import.specs.Keys.{has_key, without_key}
use Rattle.eden_import.specs.Queue.{Queue, Mark, IsQueue, IsPass, want_of, mark_of, wants_key, next_key, after_want, after_leave, after_await, after_quit, after_take, after_done, after_failed}
use Rattle.eden_import.specs.Queue.{after_failure}
use Rattle.eden_import.proofs.CallerLemmas.{all_are_met, wanters_are_marked}
use Rattle.eden_mount.specs.declared.seats.Pending.{Pending}
use Rattle.eden_mount.specs.declared.events.Turned.TheVariants.{Done, Wait}
use Rattle.eden_mount.specs.Tables.{Table, Stores, KeepsBytes}
use Rattle.eden_mount.specs.Core.{Core, seat_of, Pends, IsFree, pending_from, after_start}
use Rattle.eden_mount.specs.Kept.{IsMount}
use Rattle.eden_mount.specs.Replying.{Replied, attempted, uncopied, failed, ToldBy, WaitsBy}
use Rattle.eden_mount.specs.Steps.{Turns, Takes}
use Rattle.eden_mount.specs.Serving.{FailsBy, HasFailed, Comes, IsAtRest, IsDriven, LeadsTo, first, waiting, storing, IsTold, MayEvict, MayLetGo, Serves, Stays, budget, Hands, Drives}
use Rattle.eden_mount.proofs.CallerLemmas.{stays_on, stays_at, turn_stays, take_stays, unload_stays}

-- ---- the queue of one caller

quit_alone : (q : Queue) → want_of 1 q ≡ None → after_quit 1 q ≡ after_failure 1 q
quit_alone q none = ap (λ o. after_failure 1 (option_map_or (λ k. after_leave k 1 q) o q)) none

await_alone : (k : Key) (q : Queue) → q.queue ≡ [] → q.flight ≡ [] → want_of 1 q ≡ None → after_await k 1 q ≡ record q { queue = k ∷ []; wants = set q.wants 0 (Some k) }
await_alone k q empty grounded none =
    let f : List Key → List Key → List Key = λ fs ks. cond (has_key k fs || has_key k ks) ks (ks ++ k ∷ []) in
    let queued : f q.flight q.queue ≡ k ∷ [] = ap (λ fs. f fs q.queue) grounded ∙ ap (f []) empty in
    at (want_of 1 q) none ∙ ap (λ ks. record q { queue = ks; wants = set q.wants 0 (Some k) }) queued
  where
    at : (o : Option Key) → o ≡ None → after_want k 1 (cond (wants_key k o) q (option_map_or (λ j. after_leave j 1 q) o q)) ≡ after_want k 1 q
    at None e = refl
    at (Some j) e = absurd (cc e)

-- the only key is the one that is taken
took_alone : (k j : Key) (q : Queue) → q.flight ≡ [] → q.queue ≡ k ∷ [] → 1 ≤ q.flights → Some j ≡ next_key q → (j ≡ k) × (after_take (next_key q) q ≡ record q { queue = []; flight = k ∷ [] })
took_alone k j q grounded queued some is =
    let f : List Key → List Key → Option Key = λ fs ks. cond (nat_lt (length fs) q.flights) (slice_get ks 0) None in
    let room : nat_lt 0 q.flights ≡ true = lt-ltb 0 q.flights (omega arith) in
    let next : next_key q ≡ Some k = ap (λ fs. f fs q.queue) grounded ∙ ap (f []) queued ∙ ap (λ b. cond b (Some k) None) room in
    let same : Some j ≡ Some k = is ∙ next in
    let g : List Key → List Key → Queue = λ fs ks. record q { queue = drop 1 ks; flight = fs ++ k ∷ [] } in
    let moved : g q.flight q.queue ≡ record q { queue = []; flight = k ∷ [] } = ap (λ fs. g fs q.queue) grounded ∙ ap (g []) queued in
    (cc same, ap (λ o. after_take o q) next ∙ moved)

own_key : (k : Key) → same_key k k ≡ true
own_key k = (same_key-Decides k k).1 refl

landed_alone : (k : Key) (fs : List Key) → fs ≡ k ∷ [] → without_key k fs ≡ []
landed_alone k fs is = ap (without_key k) is ∙ ap (λ b. cond (not b) (k ∷ []) []) (own_key k)

met : (k : Key) (o : Option Key) (X : Option Mark) (x : Mark) → o ≡ Some k → (cond (wants_key k o) None o ≡ None) × (cond (wants_key k o) (Some x) X ≡ Some x)
met k None X x e = absurd (cc e)
met k (Some j) X x e =
    let same : j ≡ k = cc e in
    let yes : same_key k j ≡ true = ap (same_key k) same ∙ own_key k in
    (ap (λ b. cond b None (Some j)) yes, ap (λ b. cond b (Some x) X) yes)

first_pass : (q : Queue) → IsQueue q → IsPass 1 q
first_pass q h = (omega arith, h.some_passes.0)

-- ---- one round: a turn that waits, its key taken, fetched and handed in

-- an upper bound for the turns to come
abbrev pub turns_left : Option Mark → ℕ → ℕ
turns_left None n = 2 * n + 1
turns_left (Some mark) n = 2 * n

abbrev pub left_at : {T : Type 0} → Table T → T → Option Pending → ℕ
left_at A t None = 0
left_at A t (Some s) = A.left t s.request

abbrev pub drive_size : {T : Type 0} → Table T → Core T → ℕ
drive_size A m = turns_left (mark_of 1 m.queue) (left_at A m.table (seat_of 1 m))

module _ {T : Type 0} (A : Table T) where
  same_seat : (m : Core T) (s t : Pending) → Pends 1 s m → Pends 1 t m → s ≡ t
  same_seat m s t p r = let both : Some s ≡ Some t = sym p.1 ∙ r.1 in cc both

  size_of : (q : Request) (m : Core T) → IsDriven A q m → drive_size A m ≡ turns_left (mark_of 1 m.queue) (A.left m.table q)
  size_of q m h = ap (λ o. turns_left (mark_of 1 m.queue) (left_at A m.table o)) h.pends.1 ∙ ap (λ (x : Request). turns_left (mark_of 1 m.queue) (A.left m.table x)) h.request

  -- the caller's key is in flight, and nothing else is asked for
  record IsFlying (q : Request) (k : Key) (m : Core T) : Type 0 where
    queue : m.queue.queue ≡ []
    flight : m.queue.flight ≡ k ∷ []
    kept : IsQueue m.queue
    seat : Pending
    pends : Pends 1 seat m
    request : seat.request ≡ q
    wants : want_of 1 m.queue ≡ Some k
    unmarked : mark_of 1 m.queue ≡ None
    needs : A.needs m.table q k

  -- fewer objects are left, or the key has failed
  abbrev HasGone : Request → Asked → Core T → Core T → Type 0
  HasGone q a m m' = ((mark_of 1 m'.queue ≡ None) × (A.left m'.table q < A.left m.table q)) ⊎ ((x : Cause) × FailsBy a x × (mark_of 1 m'.queue ≡ Some (a.key, x)) × (m'.table ≡ m.table))

  -- how the caller stands after the answer was handed in
  record Goes (q : Request) (a : Asked) (m m' : Core T) : Type 0 where
    driven : IsDriven A q m'
    came : ((k : Key) × (o : Body) × Stores A m.table k o m'.table) ⊎ (m'.table ≡ m.table)
    history : m'.history ≡ m.history
    seats : m'.seats ≡ m.seats
    stays : Stays A m m'
    how : HasGone q a m m'

  -- the queue after the caller's key landed, with a mark or without
  module _ (q : Request) (k : Key) (m m' : Core T) (kept : IsQueue m'.queue) (h : IsFlying q k m) (seats : m'.seats ≡ m.seats) where
    driven_on : m'.queue.queue ≡ m.queue.queue → m'.queue.flight ≡ without_key k m.queue.flight → want_of 1 m'.queue ≡ cond (wants_key k (want_of 1 m.queue)) None (want_of 1 m.queue)
        → ((j : Key) (x : Cause) → mark_of 1 m'.queue ≡ Some (j, x) → A.needs m'.table q j) → IsDriven A q m'
    driven_on queue flight want marked = record {
      kept = kept;
      quiet = record {
        queue = queue ∙ h.queue;
        flight = flight ∙ landed_alone k m.queue.flight h.flight;
      };
      seat = h.seat;
      pends = (h.pends.0, ap (λ (x : List (Option Pending)). slice_index_or x 0 None) seats ∙ h.pends.1);
      request = h.request;
      unwanting = want ∙ (met k (want_of 1 m.queue) None (k, cause.Memory) h.wants).0;
      marked = marked;
    }

  lands : (q : Request) (a : Asked) (m m' : Core T) (framed : List ℕ) → IsQueue m'.queue → IsFlying q a.key m → KeepsBytes A m.table a.key framed m'.table
      → m' ≡ record m { table = m'.table; queue = after_done a.key m.queue } → Goes q a m m'
  lands q a m m' framed kept h keeps is =
      let k = a.key in
      let queue : m'.queue ≡ after_done k m.queue = ap (λ (x : Core T). x.queue) is in
      let seats : m'.seats ≡ m.seats = ap (λ (x : Core T). x.seats) is in
      let mark : mark_of 1 m'.queue ≡ None = ap (mark_of 1) queue ∙ h.unmarked in
      let none : (j : Key) (x : Cause) → mark_of 1 m'.queue ≡ Some (j, x) → A.needs m'.table q j = λ j x e. absurd (let both : None ≡ Some (j, x) = sym mark ∙ e in cc both) in
      record {
        driven = driven_on q k m m' kept h seats (ap (λ (x : Queue). x.queue) queue) (ap (λ (x : Queue). x.flight) queue) (ap (want_of 1) queue ∙ (all_are_met m.queue k cause.Memory 1).0) none;
        came = inl (k, record { kind = k.kind; bytes = keeps.0 }, keeps.2);
        history = ap (λ (x : Core T). x.history) is;
        seats = seats;
        stays = record { commit = keeps.2.commit; next = (let same = keeps.2.next in omega (arith, same)); passes = ap (λ (x : Queue). x.passes) queue; limit = ap (λ (x : Core T). x.limit) is };
        how = inl (mark, keeps.2.left q h.needs);
      }

  fails : (q : Request) (a : Asked) (m m' : Core T) (x : Cause) → IsQueue m'.queue → IsFlying q a.key m → FailsBy a x → m' ≡ record m { queue = after_failed a.key x m.queue } → Goes q a m m'
  fails q a m m' x kept h why is =
      let k = a.key in
      let queue : m'.queue ≡ after_failed k x m.queue = ap (λ (y : Core T). y.queue) is in
      let seats : m'.seats ≡ m.seats = ap (λ (y : Core T). y.seats) is in
      let table : m'.table ≡ m.table = ap (λ (y : Core T). y.table) is in
      let mark : mark_of 1 m'.queue ≡ Some (k, x) = ap (mark_of 1) queue ∙ wanters_are_marked m.queue k x 1 h.kept (first_pass m.queue h.kept) ∙
      (met k (want_of 1 m.queue) (mark_of 1 m.queue) (k, x) h.wants).1 in
      let want : want_of 1 m'.queue ≡ cond (wants_key k (want_of 1 m.queue)) None (want_of 1 m.queue) = ap (want_of 1) queue ∙ (all_are_met m.queue k x 1).1 ∙ (all_are_met m.queue k x 1).0 in
      let needed : (j : Key) (y : Cause) → mark_of 1 m'.queue ≡ Some (j, y) → A.needs m'.table q j = λ j y e.
      (let both : Some (k, x) ≡ Some (j, y) = sym mark ∙ e in
      let pair : (k, x) ≡ (j, y) = cc both in
      let same : k ≡ j = ap (λ (p : Key × Cause). p.0) pair in
      subst (λ (i : Key). A.needs m'.table q i) same (subst (λ (t : T). A.needs t q k) (sym table) h.needs)) in
      record {
        driven = driven_on q k m m' kept h seats (ap (λ (y : Queue). y.queue) queue) (ap (λ (y : Queue). y.flight) queue) want needed;
        came = inr table;
        history = ap (λ (y : Core T). y.history) is;
        seats = seats;
        stays = stays_at A m m' table (ap (λ (y : Queue). y.passes) queue) (ap (λ (y : Core T). y.limit) is);
        how = inr (x, why, mark, table);
      }

  goes : (q : Request) (k : Key) (answer : Answer) (m m' : Core T) → IsQueue m'.queue → IsFlying q k m → Comes A m (record { key = k; answer = answer }) m'
      → Goes q (record { key = k; answer = answer }) m m'
  goes q k (Ok framed) m m' kept h (inl (keeps, is)) = lands q (record { key = k; answer = Ok framed }) m m' framed kept h keeps is
  goes q k (Err e) m m' kept h (inl none) = absurd none
  goes q k answer m m' kept h (inr (x, why, is)) = fails q (record { key = k; answer = answer }) m m' x kept h why is

  -- ---- what is left, in numbers

  -- after the key landed the turns to come are fewer, and so are the objects
  fewer_turns : (o : Option Mark) (n b : ℕ) (q : Request) (a : Asked) (m m' : Core T) → b ≡ A.left m.table q → b ≤ budget o n → 1 ≤ b → HasGone q a m m'
      → turns_left (mark_of 1 m'.queue) (A.left m'.table q) < turns_left o n
  fewer_turns o n b q a m m' is within some (inl (none, less)) =
      at o within
    where
      new : turns_left (mark_of 1 m'.queue) (A.left m'.table q) ≡ 2 * A.left m'.table q + 1
      new = ap (λ y. turns_left y (A.left m'.table q)) none

      at : (y : Option Mark) → b ≤ budget y n → turns_left (mark_of 1 m'.queue) (A.left m'.table q) < turns_left y n
      at None w = omega (arith, is, some, less, w, new)
      at (Some mark) w = omega (arith, is, some, less, w, new)
  fewer_turns o n b q a m m' is within some (inr (x, why, marked, table)) =
      at o within
    where
      same : A.left m'.table q ≡ A.left m.table q
      same = ap (λ (u : T). A.left u q) table

      new : turns_left (mark_of 1 m'.queue) (A.left m'.table q) ≡ 2 * A.left m'.table q
      new = ap (λ y. turns_left y (A.left m'.table q)) marked

      at : (y : Option Mark) → b ≤ budget y n → turns_left (mark_of 1 m'.queue) (A.left m'.table q) < turns_left y n
      at None w = omega (arith, is, some, same, new, w)
      at (Some mark) w = omega (arith, is, some, same, new, w)

  -- one question more
  one_more_ask : (n b i : ℕ) (q : Request) (a : Asked) (m m' : Core T) → b ≡ A.left m.table q → b ≤ n → 1 ≤ b → i ≤ budget (mark_of 1 m'.queue) (A.left m'.table q) → HasGone q a m m' → i + 1 ≤ n
  one_more_ask n b i q a m m' is within some few (inl (none, less)) =
      let w : i ≤ A.left m'.table q = subst (λ o. i ≤ budget o (A.left m'.table q)) none few in
      omega (arith, is, within, some, less, w)
  one_more_ask n b i q a m m' is within some few (inr (x, why, marked, table)) =
      let w : i ≤ A.left m'.table q - 1 = subst (λ o. i ≤ budget o (A.left m'.table q)) marked few in
      let same : A.left m'.table q ≡ A.left m.table q = ap (λ (u : T). A.left u q) table in
      omega (arith, is, within, some, same, w)

  -- what failed before the rest was asked for was asked for here
  failed_here : (q : Request) (a : Asked) (m m' : Core T) (asks : List Asked) (id : Id) (x : Cause) → HasGone q a m m' → HasFailed asks id x
      ⊎ ((i : Key) × (i.id ≡ id) × (mark_of 1 m'.queue ≡ Some (i, x))) → HasFailed (a ∷ asks) id x
  failed_here q a m m' asks id x how (inl later) = inr later
  failed_here q a m m' asks id x (inl (none, less)) (inr (i, same, marked)) = absurd (let both : None ≡ Some (i, x) = sym none ∙ marked in cc both)
  failed_here q a m m' asks id x (inr (y, why, marks, table)) (inr (i, same, marked)) =
      let both : Some (a.key, y) ≡ Some (i, x) = sym marks ∙ marked in
      let pair : (a.key, y) ≡ (i, x) = cc both in
      let keys : a.key ≡ i = ap (λ (p : Key × Cause). p.0) pair in
      let causes : y ≡ x = ap (λ (p : Key × Cause). p.1) pair in
      inl (ap (λ (z : Key). z.id) keys ∙ same, subst (λ (z : Cause). FailsBy a z) causes why)

module _ {T : Type 0} (A : Table T) (honest : Type 0) where
  -- a turn that waits has come further where a key had failed
  within_budget : (q : Request) (m : Core T) (k : Key) (u : T) → IsDriven A q m → WaitsBy A honest m.table q (mark_of 1 m.queue) k u → A.left u q ≤ budget (mark_of 1 m.queue) (A.left m.table q)
  within_budget q m k u h w = at (mark_of 1 m.queue) refl
    where
      begun : A.left u q ≤ A.left m.table q
      begun = subst (λ n. A.left u q ≤ n) (w.ticks.left q) w.awaits.needs.left

      further : (j : Key) (x : Cause) → mark_of 1 m.queue ≡ Some (j, x) → (j ≡ k) ⊎ (A.left u q < A.left w.begun q) → A.left u q ≤ A.left m.table q - 1
      further j x e (inl same) = absurd (w.awaits.unmarked x (e ∙ ap (λ (i : Key). Some (i, x)) same))
      further j x e (inr less) =
          let now : A.left u q < A.left m.table q = subst (λ n. A.left u q < n) (w.ticks.left q) less in
          omega (arith, now)

      at : (o : Option Mark) → mark_of 1 m.queue ≡ o → A.left u q ≤ budget o (A.left m.table q)
      at None e = begun
      at (Some (j, x)) e = further j x e (w.awaits.needs.still j (w.ticks.needs q j (h.marked j x e)))

  -- the turn waited, and its key was taken
  record Flies (q : Request) (m m2 : Core T) (k j : Key) : Type 0 where
    same : j ≡ k
    waited : WaitsBy A honest m.table q (mark_of 1 m.queue) k m2.table
    flying : IsFlying A q k m2
    within : A.left m2.table q ≤ budget (mark_of 1 m.queue) (A.left m.table q)
    some : 1 ≤ A.left m2.table q
    history : m2.history ≡ m.history
    seats : m2.seats ≡ m.seats
    stays : Stays A m m2

  flies : (copies : Bool) (q : Request) (m m1 m2 : Core T) (k j : Key) → IsQueue m2.queue → IsDriven A q m → Turns A honest copies m 1 (Wait k) m1 → Takes m1 (Some j) m2 → Flies q m m2 k j
  flies copies q m m1 m2 k j kept2 h (s, p, is, w) (next, is2) =
      let old : Queue = after_failure 1 m.queue in
      let asked : s.request ≡ q = ap (λ (x : Pending). x.request) (same_seat A m s h.seat p h.pends) ∙ h.request in
      let wait : WaitsBy A honest m.table q (mark_of 1 m.queue) k m1.table = subst (λ (y : Request). WaitsBy A honest m.table y (mark_of 1 m.queue) k m1.table) asked w in
      let queue1 : m1.queue ≡ record old { queue = k ∷ []; wants = set m.queue.wants 0 (Some k) } = ap (λ (x : Core T). x.queue) is ∙ await_alone k old h.quiet.queue h.quiet.flight h.unwanting in
      let took = took_alone k j m1.queue (ap (λ (x : Queue). x.flight) queue1 ∙ h.quiet.flight) (ap (λ (x : Queue). x.queue) queue1)
      (subst (λ n. 1 ≤ n) (sym (ap (λ (x : Queue). x.flights) queue1)) h.kept.some_flights.0) next in
      let queue2 : m2.queue ≡ record old { queue = []; flight = k ∷ []; wants = set m.queue.wants 0 (Some k) } = ap (λ (x : Core T). x.queue) is2 ∙ took.1 ∙ ap
      (λ (x : Queue). record x { queue = []; flight = k ∷ [] }) queue1 in
      let table : m2.table ≡ m1.table = ap (λ (x : Core T). x.table) is2 in
      let seats : m2.seats ≡ m.seats = ap (λ (x : Core T). x.seats) is2 ∙ ap (λ (x : Core T). x.seats) is in
      let wide : 0 < length m.queue.wants = (let e = h.kept.each_pass_wants in let low = h.kept.some_passes.0 in omega (arith, e, low)) in
      let deep : 0 < length m.queue.marks = (let e = h.kept.each_pass_has_mark in let low = h.kept.some_passes.0 in omega (arith, e, low)) in
      record {
        same = took.0;
        waited = subst (λ (t : T). WaitsBy A honest m.table q (mark_of 1 m.queue) k t) (sym table) wait;
        flying = record {
          queue = ap (λ (x : Queue). x.queue) queue2;
          flight = ap (λ (x : Queue). x.flight) queue2;
          kept = kept2;
          seat = h.seat;
          pends = (h.pends.0, ap (λ (x : List (Option Pending)). slice_index_or x 0 None) seats ∙ h.pends.1);
          request = h.request;
          wants = ap (want_of 1) queue2 ∙ get_or-set_same m.queue.wants 0 (Some k) None wide;
          unmarked = ap (mark_of 1) queue2 ∙ get_or-set_same m.queue.marks 0 None None deep;
          needs = subst (λ (t : T). A.needs t q k) (sym table) wait.awaits.needs.needed;
        };
        within = subst (λ (t : T). A.left t q ≤ budget (mark_of 1 m.queue) (A.left m.table q)) (sym table) (within_budget q m k m1.table h wait);
        some = subst (λ (t : T). 1 ≤ A.left t q) (sym table) wait.awaits.needs.some;
        history = ap (λ (x : Core T). x.history) is2 ∙ ap (λ (x : Core T). x.history) is;
        seats = seats;
        stays = stays_on A m m1 m2 (turn_stays A honest copies m m1 1 (Wait k) (s, p, is, w)) (take_stays A m1 m2 (Some j) (next, is2));
      }

module _ {S : Type 0} (fetched : S → Id → Answer → S → Type 0) {T : Type 0} (A : Table T) (honest : Type 0) (copies : Bool) (q : Request) where
  -- what came of the key that was waited for
  came_of : (m m2 m3 : Core T) (s t : S) (k j : Key) → j ≡ k → (hand : Hands fetched A m2 s j m3 t) → Comes A m2 (record { key = k; answer = hand.answer }) m3
  came_of m m2 m3 s t k j same hand = subst (λ (i : Key). Comes A m2 (record { key = i; answer = hand.answer }) m3) same hand.came

  -- after one round the caller goes on, with fewer turns to come
  pub round_goes : (m m1 m2 m3 : Core T) (s t : S) (k j : Key) → IsQueue m2.queue → IsQueue m3.queue → IsDriven A q m → Turns A honest copies m 1 (Wait k) m1 → Takes m1 (Some j) m2
      → Hands fetched A m2 s j m3 t → IsDriven A q m3 × (drive_size A m3 < drive_size A m)
  round_goes m m1 m2 m3 s t k j kept2 kept3 h turn take hand =
      let f = flies A honest copies q m m1 m2 k j kept2 h turn take in
      let g = goes A q k hand.answer m2 m3 kept3 f.flying (came_of m m2 m3 s t k j f.same hand) in
      let less = fewer_turns A (mark_of 1 m.queue) (A.left m.table q) (A.left m2.table q) q (record { key = k; answer = hand.answer }) m2 m3 refl f.within f.some g.how in
      (g.driven, subst (λ n. n < drive_size A m) (sym (size_of A q m3 g.driven)) (subst (λ n. turns_left (mark_of 1 m3.queue) (A.left m3.table q) < n) (sym (size_of A q m h)) less))

  -- the answer was handed in, and then the rest
  after_answer : (a : Asked) (m m' : Core T) (v : T) → Goes A q a m m' → LeadsTo A honest q m'.table v → LeadsTo A honest q m.table v
  after_answer a m m' v g rest = by g.came where
    by : ((k : Key) × (o : Body) × Stores A m.table k o m'.table) ⊎ (m'.table ≡ m.table) → LeadsTo A honest q m.table v
    by (inl (k, o, stores)) = storing m.table m'.table v k o stores rest
    by (inr same) = subst (λ (t : T). LeadsTo A honest q t v) same rest

  pub done_drives : (m m' : Core T) (s : S) (n : ℕ) (r : Reply) → IsDriven A q m → Turns A honest copies m 1 (Done n r) m' → Drives fetched A honest copies q m s r m' s
  done_drives m m' s n r h (p, pends, number, is, told) =
      let asked : p.request ≡ q = ap (λ (x : Pending). x.request) (same_seat A m p h.seat pends h.pends) ∙ h.request in
      let mine : ToldBy A honest copies m.table q (mark_of 1 m.queue) r m'.table = subst (λ (x : Request). ToldBy A honest copies m.table x (mark_of 1 m.queue) r m'.table) asked told in
      let queue : m'.queue ≡ after_failure 1 (after_failure 1 m.queue) = ap (λ (x : Core T). x.queue) is ∙ quit_alone (after_failure 1 m.queue) h.unwanting in
      record {
        asks = [];
        asked = refl;
        few = omega arith;
        told = record { before = m.table; led = first m.table; mark = mark_of 1 m.queue; told = mine };
        history = ap (λ (x : Core T). x.history) is ∙ ap (λ (x : Request). m.history ++ entry 1 x r ∷ []) asked;
        seats = ap (λ (x : Core T). x.seats) is;
        quiet = record {
          queue = ap (λ (x : Queue). x.queue) queue ∙ h.quiet.queue;
          flight = ap (λ (x : Queue). x.flight) queue ∙ h.quiet.flight;
        };
        stays = turn_stays A honest copies m m' 1 (Done n r) (p, pends, number, is, told);
        failed = λ id x e. inr (why mine.begun m'.table id x e mine.replied);
      }
    where
      why : (t u : T) (id : Id) (x : Cause) → r ≡ say.Fault (fault.Fetch id x) → Replied A honest copies t q (mark_of 1 m.queue) r u → (k : Key) × (k.id ≡ id) × (mark_of 1 m.queue ≡ Some (k, x))
      why t u id x e (attempted done) = absurd (done.unfetched id x e)
      why t u id x e (uncopied lacking found done large memory) = absurd (let both : say.Fault fault.Memory ≡ say.Fault (fault.Fetch id x) = sym memory ∙ e in cc both)
      why t u id x e (failed k z needs marked was) =
          let both : say.Fault (fault.Fetch k.id z) ≡ say.Fault (fault.Fetch id x) = sym was ∙ e in
          let ids : k.id ≡ id = cc both in
          let causes : z ≡ x = cc both in
          (k, ids, marked ∙ ap (λ (c : Cause). Some (k, c)) causes)

  -- one more round, and then the rest
  pub round_drives : (m m1 m2 m3 m' : Core T) (s t u : S) (k j : Key) (r : Reply) → IsQueue m2.queue → IsQueue m3.queue → IsDriven A q m → Turns A honest copies m 1 (Wait k) m1 → Takes m1 (Some j) m2
      → Hands fetched A m2 s j m3 t → (IsDriven A q m3 → Drives fetched A honest copies q m3 t r m' u) → Drives fetched A honest copies q m s r m' u
  round_drives m m1 m2 m3 m' s t u k j r kept2 kept3 h turn take hand rest =
      let f = flies A honest copies q m m1 m2 k j kept2 h turn take in
      let g = goes A q k hand.answer m2 m3 kept3 f.flying (came_of m m2 m3 s t k j f.same hand) in
      let d = rest g.driven in
      let a : Asked = record { key = k; answer = hand.answer } in
      let few = one_more_ask A (budget (mark_of 1 m.queue) (A.left m.table q)) (A.left m2.table q) (length d.asks) q a m2 m3 refl f.within f.some d.few g.how in
      record {
        asks = a ∷ d.asks;
        asked = (t, subst (λ (i : Key). fetched s i.id hand.answer t) f.same hand.asked, d.asked);
        few = omega (arith, few);
        told = record {
          before = d.told.before;
          led = waiting m.table m2.table d.told.before (mark_of 1 m.queue) k f.waited (after_answer a m2 m3 d.told.before g d.told.led);
          mark = d.told.mark;
          told = d.told.told;
        };
        history = d.history ∙ ap (λ es. es ++ entry 1 q r ∷ []) (g.history ∙ f.history);
        seats = d.seats ∙ ap (λ xs. set xs 0 None) (g.seats ∙ f.seats);
        quiet = d.quiet;
        stays = stays_on A m m2 m' f.stays (stays_on A m2 m3 m' g.stays d.stays);
        failed = λ id x e. inl (failed_here A q a m2 m3 d.asks id x g.how (d.failed id x e));
      }

-- ---- the whole call

-- what directories that may have gone leave as it was
let_go_stays : {T : Type 0} (A : Table T) (honest : Type 0) (m m' : Core T) → MayEvict A honest m.table m'.table → m' ≡ record m { table = m'.table } → Stays A m m'
let_go_stays A honest m m' (inl same) is = stays_at A m m' same (ap (λ x. x.queue.passes) is) (ap (λ x. x.limit) is)
let_go_stays A honest m m' (inr (p, age, gone, unloads)) is = unload_stays A honest m m' p age gone (unloads, is)

emptied : {X : Type 0} (xs : List (Option X)) → slice_index_or (set xs 0 None) 0 None ≡ None
emptied [] = refl
emptied (x ∷ xs) = refl

module _ {T : Type 0} (A : Table T) (honest : Type 0) (opening : Tree) (N : Numbers) (q : Request) (m m1 : Core T) (h : IsMount A honest opening N m) (r : IsAtRest m) (free : IsFree 1 m)
    (is : m1 ≡ after_start 1 q m) where
  -- a request that was started at rest is driven
  pub started_driven : IsDriven A q m1
  started_driven =
      let queue : m1.queue ≡ m.queue = ap (λ (x : Core T). x.queue) is in
      let idle = h.rests 1 free in
      let seats = h.seats in
      let wide : 0 < length m.seats = (let low = free.0.1 in omega (arith, seats, low)) in
      record {
        kept = subst IsQueue (sym queue) h.queue;
        quiet = record {
          queue = ap (λ (x : Queue). x.queue) queue ∙ r.quiet.queue;
          flight = ap (λ (x : Queue). x.flight) queue ∙ r.quiet.flight;
        };
        seat = pending_from q m;
        pends = (free.0.0, ap (λ (x : Core T). seat_of 1 x) is ∙ get_or-set_same m.seats 0 (Some (pending_from q m)) None wide);
        request = refl;
        unwanting = ap (want_of 1) queue ∙ idle.0;
        marked = λ k x e. absurd (let both : None ≡ Some (k, x) = sym idle.1 ∙ sym (ap (mark_of 1) queue) ∙ e in cc both);
      }

  pub started_serves : {S : Type 0} (copies : Bool) (fetched : S → Id → Answer → S → Type 0) (m2 m' : Core T) (s t : S) (reply : Reply) → ((u : T) (p : Request) → A.left u p ≤ most_objects p)
      → Drives fetched A honest copies q m1 s reply m2 t → MayLetGo A honest m2 m' → Serves fetched A honest copies q m s reply m' t
  started_serves copies fetched m2 m' s t reply most d (evicted, same) =
      let clear : mark_of 1 m1.queue ≡ None = ap (λ (x : Core T). mark_of 1 x.queue) is ∙ (h.rests 1 free).1 in
      let few : length d.asks ≤ A.left m1.table q = subst (λ o. length d.asks ≤ budget o (A.left m1.table q)) clear d.few in
      let bound : A.left m1.table q ≤ most_objects q = most m1.table q in
      record {
        asks = d.asks;
        asked = d.asked;
        few = omega (arith, few, bound);
        last = m2.table;
        told = subst (λ (t : T). IsTold A honest copies q reply t m2.table) (ap (λ (x : Core T). x.table) is) d.told;
        evicted = evicted;
        history = ap (λ (x : Core T). x.history) same ∙ d.history ∙ ap (λ (x : Core T). x.history ++ entry 1 q reply ∷ []) is;
        rest = record {
          quiet = record {
            queue = ap (λ (x : Core T). x.queue.queue) same ∙ d.quiet.queue;
            flight = ap (λ (x : Core T). x.queue.flight) same ∙ d.quiet.flight;
          };
          free = ap (λ (x : Core T). slice_index_or x.seats 0 None) same ∙ ap (λ (x : List (Option Pending)). slice_index_or x 0 None) d.seats ∙ emptied m1.seats;
        };
        stays = stays_on A m m2 m' (stays_on A m m1 m2 (stays_at A m m1 (ap (λ (x : Core T). x.table) is) (ap (λ (x : Core T). x.queue.passes) is) (ap (λ (x : Core T). x.limit) is)) d.stays)
            (let_go_stays A honest m2 m' evicted same);
        failed = λ id x e. ⊎_elim (λ f. f) (λ w. absurd (let both : None ≡ Some (w.0, x) = sym clear ∙ w.2 in cc both)) (d.failed id x e);
      }
