-- What follows from the definitions of the joined queue, for its callers.
use Rattle.std.specs.Prelude.{◌≡◌, ◌≢◌, ◌≤◌, ◌==◌, ◌++◌, ◌&&◌, ◌||◌, not, ℕ, true, false, if◌then◌else◌, List, length, Option, Some, None}
use Rattle.std.specs.Bool.{Decides}
use Rattle.std.specs.List.{AllPairs, Contains}
use Rattle.eden_model.specs.declared.id.Key.{Key}
use Rattle.eden_model.specs.declared.fault.Cause.{Cause}
use Rattle.eden_model.specs.Keys.{same_key}
use Rattle.eden_import.specs.Keys.{has_key}
use Rattle.eden_import.specs.Queue.{Queue, IsQueue, IsPass, want_of, mark_of, stands, wants_key, next_key}
use Rattle.eden_import.specs.Queue.{after_want, after_leave, after_await, after_quit, after_take, after_done, after_failed, after_failure}

-- the test of a list finds what it contains
abbrev pub HasIsContains : Type 0
HasIsContains = (ks : List Key) (k : Key) → Decides (has_key k ks) (Contains ks k)

-- ---- every queue

-- no two of the keys in flight and queued are equal
abbrev pub EachStandsOnce : Type 0
EachStandsOnce = (q : Queue) → IsQueue q → AllPairs (λ j k. j ≢ k) (q.flight ++ q.queue)

-- no more keys are queued than there are passes
abbrev pub FewAreQueued : Type 0
FewAreQueued = (q : Queue) → IsQueue q → length q.queue ≤ q.passes

-- some pass wants each queued key
abbrev pub QueuedAreWanted : Type 0
QueuedAreWanted = (q : Queue) (k : Key) → IsQueue q → has_key k q.queue ≡ true → (p : ℕ) × IsPass p q × (want_of p q ≡ Some k)

-- what a pass wants is queued or in flight
abbrev pub WantedStand : Type 0
WantedStand = (q : Queue) (k : Key) (p : ℕ) → IsQueue q → IsPass p q → want_of p q ≡ Some k → stands k q ≡ true

-- ---- what the steps do to the want and the mark of each pass

abbrev pub OneWants : Type 0
OneWants = (q : Queue) (k : Key) (p r : ℕ) → IsQueue q → IsPass p q → IsPass r q → want_of r (after_want k p q) ≡ (if r == p then Some k else want_of r q)

abbrev pub OneLeaves : Type 0
OneLeaves = (q : Queue) (k : Key) (p r : ℕ) → IsQueue q → IsPass p q → IsPass r q
    → want_of r (after_leave k p q) ≡ (if (r == p) && wants_key k (want_of p q) then None else want_of r q)

abbrev pub OneAwaits : Type 0
OneAwaits = (q : Queue) (k : Key) (p r : ℕ) → IsQueue q → IsPass p q → IsPass r q → want_of r (after_await k p q) ≡ (if r == p then Some k else want_of r q)

abbrev pub OneQuits : Type 0
OneQuits = (q : Queue) (p r : ℕ) → IsQueue q → IsPass p q → IsPass r q
    → (want_of r (after_quit p q) ≡ (if r == p then None else want_of r q)) × (mark_of r (after_quit p q) ≡ (if r == p then None else mark_of r q))

-- all wants of the key end, and no others
abbrev pub AllAreMet : Type 0
AllAreMet = (q : Queue) (k : Key) (c : Cause) (r : ℕ)
    → (want_of r (after_done k q) ≡ (if wants_key k (want_of r q) then None else want_of r q)) × (want_of r (after_failed k c q) ≡ want_of r (after_done k q))

-- each pass that wanted the key has the new mark, and every other its old one
abbrev pub WantersAreMarked : Type 0
WantersAreMarked = (q : Queue) (k : Key) (c : Cause) (r : ℕ) → IsQueue q → IsPass r q
    → mark_of r (after_failed k c q) ≡ (if wants_key k (want_of r q) then Some (k, c) else mark_of r q)

abbrev pub OneForgets : Type 0
OneForgets = (q : Queue) (p r : ℕ) → IsQueue q → IsPass p q → IsPass r q → mark_of r (after_failure p q) ≡ (if r == p then None else mark_of r q)

-- no other step changes a mark
abbrev pub MarksStay : Type 0
MarksStay = (q : Queue) (k : Key) (p : ℕ) (o : Option Key)
    → ((after_want k p q).marks ≡ q.marks) × ((after_leave k p q).marks ≡ q.marks) × ((after_await k p q).marks ≡ q.marks)
    × ((after_take o q).marks ≡ q.marks) × ((after_done k q).marks ≡ q.marks)

-- .. or a want
abbrev pub WantsStay : Type 0
WantsStay = (q : Queue) (p : ℕ) (o : Option Key) → ((after_take o q).wants ≡ q.wants) × ((after_failure p q).wants ≡ q.wants)

-- ---- what the steps do to the flight

-- the key that is taken was not in flight, and is now
abbrev pub OneIsTaken : Type 0
OneIsTaken = (q : Queue) (k j : Key) → IsQueue q → next_key q ≡ Some k
    → (has_key k q.flight ≡ false) × (has_key j (after_take (Some k) q).flight ≡ (has_key j q.flight || same_key j k))

-- the key that is done or failed isn't in flight any more
abbrev pub OneLands : Type 0
OneLands = (q : Queue) (k j : Key) (c : Cause)
    → (has_key j (after_done k q).flight ≡ (has_key j q.flight && not (same_key k j))) × ((after_failed k c q).flight ≡ (after_done k q).flight)

-- what a pass does by itself changes neither the flight nor how many passes and keys in flight there may be
abbrev pub KeepsFlight : Queue → Queue → Type 0
KeepsFlight q q' = (q'.flight ≡ q.flight) × (q'.passes ≡ q.passes) × (q'.flights ≡ q.flights)

abbrev pub PassesKeepFlight : Type 0
PassesKeepFlight = (q : Queue) (k : Key) (p : ℕ)
    → KeepsFlight q (after_want k p q) × KeepsFlight q (after_leave k p q) × KeepsFlight q (after_await k p q)
    × KeepsFlight q (after_quit p q) × KeepsFlight q (after_failure p q)

-- a queue stays one when a mark is handed out
abbrev pub ForgettingKeeps : Type 0
ForgettingKeeps = (q : Queue) (p : ℕ) → IsQueue q → IsPass p q → IsQueue (after_failure p q)
