-- What holds of every run, by one step after another.
use Rattle.std.proofs.Common.{◌≡◌, ◌≤◌, ◌<◌, ◌-◌, ◌==◌, ℕ, Bool, true, false, cond, List, [], ◌∷◌, ◌++◌, length, Option, Some, None, slice_index_or, IsSome, IfSome, Ok, Err, length-append}
use Rattle.std.proofs.Common.{append_assoc, append-nil, refl, sym, ap, ◌∙◌, subst, arith}
use Rattle.std.proofs.Math.ListN.{set}
use Rattle.std.specs.Option.{option_map}
use Rattle.eden_model.specs.declared.fault.StartFault.TheVariants.{NoPass, Busy, HistoryFull, Memory}
use Rattle.eden_model.specs.declared.id.Key.{Key}
use Rattle.eden_model.specs.declared.request.Request.{Request}
use Rattle.eden_model.specs.Numbers.{Numbers}
use Rattle.eden_model.specs.Trees.{Tree}
use Rattle.eden_model.specs.Histories.{entry}
use Rattle.eden_import.specs.Queue.{Queue, next_key, after_failed, after_failure, after_take}
use Rattle.eden_import.proofs.CallerLemmas.{quit_rest, passes_keep_flight}
use Rattle.eden_mount.specs.declared.seats.Pending.{Pending}
use Rattle.eden_mount.specs.declared.events.Turned.TheVariants.{Done, Wait, Idle}
use Rattle.eden_mount.specs.declared.events.Arrived.TheVariants.{Stored, Refused, Stray}
use Rattle.eden_mount.specs.declared.events.Event.{Event}
use Rattle.eden_mount.specs.declared.events.Outcome.{Outcome}
use Rattle.eden_mount.specs.Tables.{Table}
use Rattle.eden_mount.specs.Core.{Core, seat_of, Pends}
use Rattle.eden_mount.specs.Kept.{IsMount}
use Rattle.eden_mount.specs.Events.{Steps, starts, turns, takes, arrives, fails, unloads, syncs}
use Rattle.eden_mount.specs.Spans.{request_of, since_of, with_pass, then_asked, asked_after, entry_of, then_told, told_in_run, IsAnswered, AreAnswered}
use Rattle.eden_mount.specs.Spans.{then_length, then_begun, IsNumbered, AreNumbered}
use Rattle.eden_mount.proofs.SeatLemmas.{write_one, within_if_some}

pub taken_passes : (q : Queue) (o : Option Key) → (after_take o q).passes ≡ q.passes
taken_passes q None = refl
taken_passes q (Some k) = refl

module _ {T : Type 0} (A : Table T) (honest : Type 0) (copies : Bool) (opening : Tree) (N : Numbers) where
  -- the events were answered so, one after another, and after each there was a mount
  abbrev pub Runs : Core T → List Event → List Outcome → Core T → Type 0
  Runs m [] [] m' = m' ≡ m
  Runs m [] (o ∷ os) m' = ⊥
  Runs m (e ∷ es) [] m' = ⊥
  Runs m (e ∷ es) (o ∷ os) m' = (k : Core T) × Steps A honest copies m k e o × IsMount A honest opening N k × Runs k es os m'

  -- of every run, from any mount
  abbrev pub OfRuns : (Core T → List Event → List Outcome → Core T → Type 0) → Type 0
  OfRuns P = (m m' : Core T) (es : List Event) (os : List Outcome) → IsMount A honest opening N m → Runs m es os m' → P m es os m'

  -- every mount that comes of a run is one
  pub runs_keep : OfRuns (λ m es os m'. IsMount A honest opening N m')
  runs_keep m m' [] [] h r = subst (IsMount A honest opening N) (sym r) h
  runs_keep m m' [] (o ∷ os) h r = absurd r
  runs_keep m m' (e ∷ es) [] h r = absurd r
  runs_keep m m' (e ∷ es) (o ∷ os) h (k, step, kept, more) = runs_keep k m' es os kept more

  -- ---- spans

  -- what was read off the events is what the seats say
  record Links (f : ℕ → Option Request) (b : ℕ → Option ℕ) (m : Core T) : Type 0 where
    asked : (c : ℕ) → 1 ≤ c → f c ≡ request_of m c
    begun : (c : ℕ) → 1 ≤ c → b c ≡ since_of m c

  -- one step, as the seats and the history go through it
  record Follows (f : ℕ → Option Request) (b : ℕ → Option ℕ) (m k : Core T) (e : Event) (o : Outcome) : Type 0 where
    links : Links (then_asked f e o) (then_begun b (length m.history) e o) k
    history : k.history ≡ m.history ++ then_told f e o
    grown : length k.history ≡ then_length (length m.history) o
    numbered : IsNumbered b (length m.history) e o

  same_seats : (f : ℕ → Option Request) (b : ℕ → Option ℕ) (m k : Core T) → k.seats ≡ m.seats → Links f b m → Links f b k
  same_seats f b m k s l = record {
    asked = λ c low. l.asked c low ∙ ap (λ (x : List (Option Pending)). option_map (λ (s : Pending). s.request) (slice_index_or x (c - 1) None)) (sym s);
    begun = λ c low. l.begun c low ∙ ap (λ (x : List (Option Pending)). option_map (λ (s : Pending). s.since) (slice_index_or x (c - 1) None)) (sym s);
  }

  -- one seat was written
  one_link : {X : Type 0} (f : ℕ → Option X) (look : Pending → X) (m k : Core T) (c : ℕ) (o : Option Pending) → IsMount A honest opening N m → 1 ≤ c → c ≤ length m.seats
      → k.seats ≡ set m.seats (c - 1) o → ((i : ℕ) → 1 ≤ i → f i ≡ option_map look (seat_of i m)) → (i : ℕ) → 1 ≤ i → with_pass f c (option_map look o) i ≡ option_map look (seat_of i k)
  one_link f look m k c o h low high is l i positive = at (i == c)
      (ap (λ (x : List (Option Pending)). slice_index_or x (i - 1) None) is ∙ write_one m.seats (length m.seats) c i o None refl low high positive)
    where
      at : (b : Bool) → seat_of i k ≡ cond b o (seat_of i m) → cond b (option_map look o) (f i) ≡ option_map look (seat_of i k)
      at true e = ap (option_map look) (sym e)
      at false e = l i positive ∙ ap (option_map look) (sym e)

  quiet : (f : ℕ → Option Request) (b : ℕ → Option ℕ) (m k : Core T) → Links f b m → k.seats ≡ m.seats → k.history ≡ m.history → Links f b k × (k.history ≡ m.history ++ [])
      × (length k.history ≡ length m.history)
  quiet f b m k l s h = (same_seats f b m k s l, h ∙ sym (append-nil m.history), ap length h)

  follows : (f : ℕ → Option Request) (b : ℕ → Option ℕ) (m k : Core T) (e : Event) (o : Outcome) → IsMount A honest opening N m → Links f b m → Steps A honest copies m k e o → Follows f b m k e o
  follows f b m k _ _ h l (starts c q (Ok u) p) =
      let is = p.2 in
      let seats = h.seats in
      let high : c ≤ length m.seats = omega (arith, p.0.0.1, seats) in
      let s : Pending = record { request = q; since = length m.history } in
      let written : k.seats ≡ set m.seats (c - 1) (Some s) = ap (λ (x : Core T). x.seats) is in
      record {
        links = record {
          asked = one_link f (λ (x : Pending). x.request) m k c (Some s) h p.0.0.0 high written l.asked;
          begun = one_link b (λ (x : Pending). x.since) m k c (Some s) h p.0.0.0 high written l.begun;
        };
        history = ap (λ (x : Core T). x.history) is ∙ sym (append-nil m.history);
        grown = ap (λ (x : Core T). length x.history) is;
        numbered = tt;
      }
  follows f b m k _ _ h l (starts c q (Err x) p) =
      let w = quiet f b m k l (ap (λ (x : Core T). x.seats) p.1) (ap (λ (x : Core T). x.history) p.1) in
      record { links = w.0; history = w.1; grown = w.2; numbered = tt }
  follows f b m k _ _ h l (turns c (Done n r) p) =
      let s = p.0 in
      let low : 1 ≤ c = p.1.0 in
      let inside = within_if_some m.seats (c - 1) s p.1.1 in
      let is = p.3 in
      let written : k.seats ≡ set m.seats (c - 1) None = ap (λ (x : Core T). x.seats) is in
      let mine : f c ≡ Some s.request = l.asked c low ∙ ap (option_map (λ (x : Pending). x.request)) p.1.1 in
      let own : b c ≡ Some s.since = l.begun c low ∙ ap (option_map (λ (x : Pending). x.since)) p.1.1 in
      let long : k.history ≡ m.history ++ entry c s.request r ∷ [] = ap (λ (x : Core T). x.history) is in
      record {
        links = record {
          asked = one_link f (λ (x : Pending). x.request) m k c None h low (omega (arith, inside, low)) written l.asked;
          begun = one_link b (λ (x : Pending). x.since) m k c None h low (omega (arith, inside, low)) written l.begun;
        };
        history = long ∙ ap (λ o. m.history ++ entry_of c o r) (sym mine);
        grown = ap length long ∙ length-append m.history (entry c s.request r ∷ []);
        numbered = (p.2, subst (λ o. IfSome o (λ i. i < n)) (sym own) (let early = h.since c s p.1 in omega (arith, early, p.2)));
      }
  follows f b m k _ _ h l (turns c (Wait j) p) =
      let w = quiet f b m k l (ap (λ (x : Core T). x.seats) p.2) (ap (λ (x : Core T). x.history) p.2) in
      record { links = w.0; history = w.1; grown = w.2; numbered = tt }
  follows f b m k _ _ h l (turns c Idle p) =
      let w = quiet f b m k l (ap (λ (x : Core T). x.seats) p.2) (ap (λ (x : Core T). x.history) p.2) in
      record { links = w.0; history = w.1; grown = w.2; numbered = tt }
  follows f b m k _ _ h l (takes o p) =
      let w = quiet f b m k l (ap (λ (x : Core T). x.seats) p.1) (ap (λ (x : Core T). x.history) p.1) in
      record { links = w.0; history = w.1; grown = w.2; numbered = tt }
  follows f b m k _ _ h l (arrives j bytes Stored p) =
      let w = quiet f b m k l (ap (λ (x : Core T). x.seats) p.2) (ap (λ (x : Core T). x.history) p.2) in
      record { links = w.0; history = w.1; grown = w.2; numbered = tt }
  follows f b m k _ _ h l (arrives j bytes (Refused x) p) =
      let w = quiet f b m k l (ap (λ (x : Core T). x.seats) p.2) (ap (λ (x : Core T). x.history) p.2) in
      record { links = w.0; history = w.1; grown = w.2; numbered = tt }
  follows f b m k _ _ h l (arrives j bytes Stray p) =
      let w = quiet f b m k l (ap (λ (x : Core T). x.seats) p.1) (ap (λ (x : Core T). x.history) p.1) in
      record { links = w.0; history = w.1; grown = w.2; numbered = tt }
  follows f b m k _ _ h l (fails j x y p) =
      let w = quiet f b m k l (ap (λ (x : Core T). x.seats) p.1) (ap (λ (x : Core T). x.history) p.1) in
      record { links = w.0; history = w.1; grown = w.2; numbered = tt }
  follows f b m k _ _ h l (unloads q age gone p) =
      let w = quiet f b m k l (ap (λ (x : Core T). x.seats) p.1) (ap (λ (x : Core T). x.history) p.1) in
      record { links = w.0; history = w.1; grown = w.2; numbered = tt }
  follows f b m k _ _ h l (syncs y p) =
      let w = quiet f b m k l (ap (λ (x : Core T). x.seats) p.1) (ap (λ (x : Core T). x.history) p.1) in
      record { links = w.0; history = w.1; grown = w.2; numbered = tt }

  grows : (f : ℕ → Option Request) (b : ℕ → Option ℕ) (m m' : Core T) (es : List Event) (os : List Outcome) → Links f b m → IsMount A honest opening N m → Runs m es os m'
      → m'.history ≡ m.history ++ told_in_run f es os
  grows f b m m' [] [] l h r = ap (λ (x : Core T). x.history) r ∙ sym (append-nil m.history)
  grows f b m m' [] (o ∷ os) l h r = absurd r
  grows f b m m' (e ∷ es) [] l h r = absurd r
  grows f b m m' (e ∷ es) (o ∷ os) l h (k, step, kept, more) =
      let one = follows f b m k e o h l step in
      grows (then_asked f e o) (then_begun b (length m.history) e o) k m' es os one.links kept more
      ∙ ap (λ es'. es' ++ told_in_run (then_asked f e o) es os) one.history
      ∙ append_assoc m.history (then_told f e o) (told_in_run (then_asked f e o) es os)

  numbers : (f : ℕ → Option Request) (b : ℕ → Option ℕ) (n : ℕ) (m m' : Core T) (es : List Event) (os : List Outcome) → Links f b m → length m.history ≡ n → IsMount A honest opening N m
      → Runs m es os m' → AreNumbered b n es os
  numbers f b n m m' [] os l z h r = tt
  numbers f b n m m' (e ∷ es) [] l z h r = tt
  numbers f b n m m' (e ∷ es) (o ∷ os) l z h (k, step, kept, more) =
      let one = follows f b m k e o h l step in
      let P : ℕ → Type 0 = λ i. AreNumbered b i (e ∷ es) (o ∷ os) in
      subst P z (one.numbered, numbers (then_asked f e o) (then_begun b (length m.history) e o) (then_length (length m.history) o) k m' es os one.links one.grown kept more)

  pendings : (f : ℕ → Option Request) (b : ℕ → Option ℕ) (m m' : Core T) (es : List Event) (os : List Outcome) → Links f b m → IsMount A honest opening N m → Runs m es os m' → (c : ℕ)
      → 1 ≤ c → request_of m' c ≡ asked_after f es os c
  pendings f b m m' [] [] l h r c low = ap (λ (x : Core T). request_of x c) r ∙ sym (l.asked c low)
  pendings f b m m' [] (o ∷ os) l h r c low = absurd r
  pendings f b m m' (e ∷ es) [] l h r c low = absurd r
  pendings f b m m' (e ∷ es) (o ∷ os) l h (k, step, kept, more) c low =
      let one = follows f b m k e o h l step in
      pendings (then_asked f e o) (then_begun b (length m.history) e o) k m' es os one.links kept more c low

  -- ---- answers

  passes_stay : (m k : Core T) (e : Event) (o : Outcome) → Steps A honest copies m k e o → k.queue.passes ≡ m.queue.passes
  passes_stay m k _ _ (starts c q (Ok u) p) = ap (λ (x : Core T). x.queue.passes) p.2
  passes_stay m k _ _ (starts c q (Err x) p) = ap (λ (x : Core T). x.queue.passes) p.1
  passes_stay m k _ _ (turns c (Done n r) p) = ap (λ (x : Core T). x.queue.passes) p.3 ∙ (quit_rest c (after_failure c m.queue)).1
  passes_stay m k _ _ (turns c (Wait j) p) = ap (λ (x : Core T). x.queue.passes) p.2 ∙ (passes_keep_flight (after_failure c m.queue) j c).2.1
  passes_stay m k _ _ (turns c Idle p) = ap (λ (x : Core T). x.queue.passes) p.2
  passes_stay m k _ _ (takes o p) = ap (λ (x : Core T). x.queue.passes) p.1 ∙ taken_passes m.queue (next_key m.queue)
  passes_stay m k _ _ (arrives j bytes Stored p) = ap (λ (x : Core T). x.queue.passes) p.2
  passes_stay m k _ _ (arrives j bytes (Refused x) p) = ap (λ (x : Core T). x.queue.passes) p.2
  passes_stay m k _ _ (arrives j bytes Stray p) = ap (λ (x : Core T). x.queue.passes) p.1
  passes_stay m k _ _ (fails j x true p) = ap (λ (x : Core T). x.queue.passes) p.1 ∙ ap (λ b. (cond b (after_failed j x m.queue) m.queue).passes) (sym p.0)
  passes_stay m k _ _ (fails j x false p) = ap (λ (x : Core T). x.queue.passes) p.1 ∙ ap (λ b. (cond b (after_failed j x m.queue) m.queue).passes) (sym p.0)
  passes_stay m k _ _ (unloads q age gone p) = ap (λ (x : Core T). x.queue.passes) p.1
  passes_stay m k _ _ (syncs y p) = ap (λ (x : Core T). x.queue.passes) p.1

  module _ (f : ℕ → Option Request) (b : ℕ → Option ℕ) (m : Core T) (l : Links f b m) where
    asks_none : (c : ℕ) → 1 ≤ c → seat_of c m ≡ None → f c ≡ None
    asks_none c low none = l.asked c low ∙ ap (option_map (λ (s : Pending). s.request)) none

    asks_some : (c : ℕ) (s : Pending) → Pends c s m → IsSome (f c)
    asks_some c s pends = subst IsSome (sym (l.asked c pends.0 ∙ ap (option_map (λ (x : Pending). x.request)) pends.1)) refl

    rests : (c : ℕ) → ((s : Pending) → ¬ Pends c s m) → 1 ≤ c → f c ≡ None
    rests c never low = asks_none c low (at (seat_of c m) refl)
      where
        at : (o : Option Pending) → seat_of c m ≡ o → seat_of c m ≡ None
        at None is = is
        at (Some s) is = absurd (never s (low, is))

    answered : (k : Core T) (e : Event) (o : Outcome) → Steps A honest copies m k e o → IsAnswered m.queue.passes f e o
    answered k _ _ (starts c q (Ok u) p) = (p.0.0.0, p.0.0.1, asks_none c p.0.0.0 p.0.1)
    answered k _ _ (starts c q (Err NoPass) p) = p.0
    answered k _ _ (starts c q (Err Busy) p) = asks_some c p.0.1 p.0.2
    answered k _ _ (starts c q (Err (HistoryFull limit)) p) = asks_none c p.0.0.0.0 p.0.0.1
    answered k _ _ (starts c q (Err Memory) p) = asks_none c p.0.0.0.0 p.0.0.1
    answered k _ _ (turns c (Done n r) p) = asks_some c p.0 p.1
    answered k _ _ (turns c (Wait j) p) = asks_some c p.0 p.1
    answered k _ _ (turns c Idle p) = rests c p.0
    answered k _ _ (takes o p) = tt
    answered k _ _ (arrives j bytes a p) = tt
    answered k _ _ (fails j x y p) = tt
    answered k _ _ (unloads q age gone p) = tt
    answered k _ _ (syncs y p) = tt

  all_answered : (f : ℕ → Option Request) (b : ℕ → Option ℕ) (m m' : Core T) (es : List Event) (os : List Outcome) → Links f b m → IsMount A honest opening N m → Runs m es os m'
      → AreAnswered m.queue.passes f es os
  all_answered f b m m' [] [] l h r = tt
  all_answered f b m m' [] (o ∷ os) l h r = absurd r
  all_answered f b m m' (e ∷ es) [] l h r = absurd r
  all_answered f b m m' (e ∷ es) (o ∷ os) l h (k, step, kept, more) =
      let one = follows f b m k e o h l step in
      let rest = all_answered (then_asked f e o) (then_begun b (length m.history) e o) k m' es os one.links kept more in
      (answered f b m l k e o step, subst (λ n. AreAnswered n (then_asked f e o) es os) (passes_stay m k e o step) rest)

  from_start : (m : Core T) → Links (request_of m) (since_of m) m
  from_start m = record { asked = λ c low. refl; begun = λ c low. refl }

  pub history_grows : OfRuns (λ m es os m'. m'.history ≡ m.history ++ told_in_run (request_of m) es os)
  history_grows m m' es os h r = grows (request_of m) (since_of m) m m' es os (from_start m) h r

  pub numbers_are_in_spans : OfRuns (λ m es os m'. AreNumbered (since_of m) (length m.history) es os)
  numbers_are_in_spans m m' es os h r = numbers (request_of m) (since_of m) (length m.history) m m' es os (from_start m) refl h r

  pub pending_is_asked : OfRuns (λ m es os m'. (c : ℕ) → 1 ≤ c → request_of m' c ≡ asked_after (request_of m) es os c)
  pending_is_asked m m' es os h r = pendings (request_of m) (since_of m) m m' es os (from_start m) h r

  pub all_are_answered : OfRuns (λ m es os m'. AreAnswered m.queue.passes (request_of m) es os)
  all_are_answered m m' es os h r = all_answered (request_of m) (since_of m) m m' es os (from_start m) h r
