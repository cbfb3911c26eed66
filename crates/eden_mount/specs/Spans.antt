-- What a list of events and outcomes says of each pass: what it has asked, what it waits for, what failed for it.
use Rattle.std.specs.Prelude.{◌≡◌, ◌≢◌, ◌<◌, ◌≤◌, ◌+◌, ◌==◌, ◌⊎◌, ◌&&◌, ◌||◌, not, ℕ, Bool, true, false, if◌then◌else◌, List, [], ◌∷◌, ◌++◌, Option, Some, None}
use Rattle.std.specs.Prelude.{IsSome, IfSome, Ok, Err}
use Rattle.std.specs.Option.{option_map}
use Rattle.eden_model.specs.declared.entry.Entry.{Entry}
use Rattle.eden_model.specs.declared.fault.Cause.{Cause}
use Rattle.eden_model.specs.declared.fault.Fault.TheVariants as fault
use Rattle.eden_model.specs.declared.fault.StartFault.TheVariants.{NoPass, Busy}
use Rattle.eden_model.specs.declared.id.Key.{Key}
use Rattle.eden_model.specs.declared.reply.Reply.{Reply}
use Rattle.eden_model.specs.declared.reply.Reply.TheVariants as say
use Rattle.eden_model.specs.declared.request.Request.{Request}
use Rattle.eden_model.specs.Keys.{same_key}
use Rattle.eden_model.specs.Histories.{entry}
use Rattle.eden_import.specs.Keys.{has_key}
use Rattle.eden_import.specs.Queue.{want_of, mark_of}
use Rattle.eden_mount.specs.declared.seats.Pending.{Pending}
use Rattle.eden_mount.specs.declared.events.Turned.TheVariants.{Done, Wait, Idle}
use Rattle.eden_mount.specs.declared.events.Arrived.TheVariants.{Stored, Refused, Stray}
use Rattle.eden_mount.specs.declared.events.Event.{Event}
use Rattle.eden_mount.specs.declared.events.Event.TheVariants as event
use Rattle.eden_mount.specs.declared.events.Outcome.{Outcome}
use Rattle.eden_mount.specs.declared.events.Outcome.TheVariants as outcome
use Rattle.eden_mount.specs.Core.{Core, seat_of}

-- ---- what a mount says at the run's start

abbrev pub request_of : {T : Type 0} → Core T → ℕ → Option Request
request_of m c = option_map (λ (s : Pending). s.request) (seat_of c m)

abbrev pub since_of : {T : Type 0} → Core T → ℕ → Option ℕ
since_of m c = option_map (λ (s : Pending). s.since) (seat_of c m)

abbrev pub waits_of : {T : Type 0} → Core T → ℕ → Option Key
waits_of m c = want_of c m.queue

abbrev pub flies_in : {T : Type 0} → Core T → Key → Bool
flies_in m k = has_key k m.queue.flight

-- this of one pass, and of every other what f has
abbrev pub with_pass : {X : Type 0} → (ℕ → X) → ℕ → X → ℕ → X
with_pass f c x i = if i == c then x else f i

-- ---- spans

-- the request that each pass has pending: that of its last accepted start, until it is done
abbrev pub then_asked : (ℕ → Option Request) → Event → Outcome → ℕ → Option Request
then_asked f (event.Start c q) (outcome.Start (Ok u)) = with_pass f c (Some q)
then_asked f (event.Turn c) (outcome.Turn (Done n r)) = with_pass f c None
then_asked f e o = f

abbrev pub asked_after : (ℕ → Option Request) → List Event → List Outcome → ℕ → Option Request
asked_after f [] os = f
asked_after f (e ∷ es) [] = f
asked_after f (e ∷ es) (o ∷ os) = asked_after (then_asked f e o) es os

abbrev pub entry_of : ℕ → Option Request → Reply → List Entry
entry_of c None r = []
entry_of c (Some q) r = entry c q r ∷ []

-- an entry for each finished request: its pass, the request of its span, its reply
abbrev pub then_told : (ℕ → Option Request) → Event → Outcome → List Entry
then_told f (event.Turn c) (outcome.Turn (Done n r)) = entry_of c (f c) r
then_told f e o = []

abbrev pub told_in_run : (ℕ → Option Request) → List Event → List Outcome → List Entry
told_in_run f [] os = []
told_in_run f (e ∷ es) [] = []
told_in_run f (e ∷ es) (o ∷ os) = then_told f e o ++ told_in_run (then_asked f e o) es os

-- ---- answers

-- Each event has an answer of its kind. A start is refused as unknown if there is none of n such passes, and as busy if
-- a request is pending; a turn is idle exactly if none is.
abbrev pub IsAnswered : ℕ → (ℕ → Option Request) → Event → Outcome → Type 0
IsAnswered n f (event.Start c q) (outcome.Start (Ok u)) = (1 ≤ c) × (c ≤ n) × (f c ≡ None)
IsAnswered n f (event.Start c q) (outcome.Start (Err NoPass)) = ¬ ((1 ≤ c) × (c ≤ n))
IsAnswered n f (event.Start c q) (outcome.Start (Err Busy)) = IsSome (f c)
IsAnswered n f (event.Start c q) (outcome.Start (Err x)) = f c ≡ None
IsAnswered n f (event.Turn c) (outcome.Turn Idle) = 1 ≤ c → f c ≡ None
IsAnswered n f (event.Turn c) (outcome.Turn t) = IsSome (f c)
IsAnswered n f event.Take (outcome.Take o) = Unit {0}
IsAnswered n f (event.Arrive k bytes) (outcome.Arrive a) = Unit {0}
IsAnswered n f (event.Fail k x) (outcome.Fail b) = Unit {0}
IsAnswered n f (event.Unload p age) (outcome.Unload gone) = Unit {0}
IsAnswered n f event.Sync (outcome.Sync b) = Unit {0}
IsAnswered n f e o = ⊥

abbrev pub AreAnswered : ℕ → (ℕ → Option Request) → List Event → List Outcome → Type 0
AreAnswered n f [] [] = Unit {0}
AreAnswered n f (e ∷ es) (o ∷ os) = IsAnswered n f e o × AreAnswered n (then_asked f e o) es os
AreAnswered n f es os = ⊥

-- ---- numbers

-- how long the history is
abbrev pub then_length : ℕ → Outcome → ℕ
then_length n (outcome.Turn (Done k r)) = n + 1
then_length n o = n

-- how long it was at the start of each span
abbrev pub then_begun : (ℕ → Option ℕ) → ℕ → Event → Outcome → ℕ → Option ℕ
then_begun b n (event.Start c q) (outcome.Start (Ok u)) = with_pass b c (Some n)
then_begun b n (event.Turn c) (outcome.Turn (Done k r)) = with_pass b c None
then_begun b n e o = b

-- a number that is told is the next of the history, and greater than its length at the span's start
abbrev pub IsNumbered : (ℕ → Option ℕ) → ℕ → Event → Outcome → Type 0
IsNumbered b n (event.Turn c) (outcome.Turn (Done k r)) = (k ≡ n + 1) × IfSome (b c) (λ s. s < k)
IsNumbered b n e o = Unit {0}

abbrev pub AreNumbered : (ℕ → Option ℕ) → ℕ → List Event → List Outcome → Type 0
AreNumbered b n (e ∷ es) (o ∷ os) = IsNumbered b n e o × AreNumbered (then_begun b n e o) (then_length n o) es os
AreNumbered b n es os = Unit {0}

-- ---- waits and failures

-- the key that each pass waits for: that of its last turn
abbrev pub then_waits : (ℕ → Option Key) → Event → Outcome → ℕ → Option Key
then_waits w (event.Turn c) (outcome.Turn (Done n r)) = with_pass w c None
then_waits w (event.Turn c) (outcome.Turn (Wait k)) = with_pass w c (Some k)
then_waits w e o = w

abbrev pub waits_after : (ℕ → Option Key) → List Event → List Outcome → ℕ → Option Key
waits_after w [] os = w
waits_after w (e ∷ es) [] = w
waits_after w (e ∷ es) (o ∷ os) = waits_after (then_waits w e o) es os

-- which pass heard since its last turn that a key, for which it waits, failed with that cause
abbrev pub Blames : Type 1
Blames = ℕ → Key → Cause → Type 0

-- the failures that a mount's passes have heard
abbrev pub heard_by : {T : Type 0} → Core T → Blames
heard_by m c k x = mark_of c m.queue ≡ Some (k, x)

abbrev pub or_failed : (ℕ → Option Key) → Blames → Key → Cause → Blames
or_failed w P k x i j y = P i j y ⊎ ((w i ≡ Some k) × (j ≡ k) × (y ≡ x))

abbrev pub but_for : Blames → ℕ → Blames
but_for P c i j y = (i ≢ c) × P i j y

abbrev pub then_heard : (ℕ → Option Key) → Blames → Event → Outcome → Blames
then_heard w P (event.Turn c) (outcome.Turn (Done n r)) = but_for P c
then_heard w P (event.Turn c) (outcome.Turn (Wait k)) = but_for P c
then_heard w P (event.Arrive k bytes) (outcome.Arrive (Refused x)) = or_failed w P k x
then_heard w P (event.Fail k x) (outcome.Fail true) = or_failed w P k x
then_heard w P e o = P

-- a fetch fault has a failure that its pass heard while it waited for that key
abbrev pub IsBlamed : Blames → Event → Outcome → Type 0
IsBlamed P (event.Turn c) (outcome.Turn (Done n (say.Fault (fault.Fetch id x)))) = (k : Key) × (k.id ≡ id) × P c k x
IsBlamed P e o = Unit {0}

abbrev pub AreBlamed : (ℕ → Option Key) → Blames → List Event → List Outcome → Type 0
AreBlamed w P (e ∷ es) (o ∷ os) = IsBlamed P e o × AreBlamed (then_waits w e o) (then_heard w P e o) es os
AreBlamed w P es os = Unit {0}

-- ---- flights

-- whether a key is in flight: it was taken, and since then neither arrived nor failed
abbrev pub then_flies : (Key → Bool) → Event → Outcome → Key → Bool
then_flies g event.Take (outcome.Take (Some k)) = λ j. g j || same_key j k
then_flies g (event.Arrive k bytes) (outcome.Arrive Stored) = λ j. g j && not (same_key k j)
then_flies g (event.Arrive k bytes) (outcome.Arrive (Refused x)) = λ j. g j && not (same_key k j)
then_flies g (event.Fail k x) (outcome.Fail true) = λ j. g j && not (same_key k j)
then_flies g e o = g

-- what is taken isn't in flight, and only what is arrives or fails
abbrev pub IsFlown : (Key → Bool) → Event → Outcome → Type 0
IsFlown g event.Take (outcome.Take (Some k)) = g k ≡ false
IsFlown g (event.Arrive k bytes) (outcome.Arrive Stored) = g k ≡ true
IsFlown g (event.Arrive k bytes) (outcome.Arrive (Refused x)) = g k ≡ true
IsFlown g (event.Arrive k bytes) (outcome.Arrive Stray) = g k ≡ false
IsFlown g (event.Fail k x) (outcome.Fail b) = b ≡ g k
IsFlown g e o = Unit {0}

abbrev pub AreFlown : (Key → Bool) → List Event → List Outcome → Type 0
AreFlown g (e ∷ es) (o ∷ os) = IsFlown g e o × AreFlown (then_flies g e o) es os
AreFlown g es os = Unit {0}
