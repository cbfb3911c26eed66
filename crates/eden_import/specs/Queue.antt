-- The joined queue: which keys are queued and in flight, and which pass wants which key.
use Rattle.std.specs.Prelude.{◌≡◌, ◌≤◌, ◌-◌, ℕ, Bool, true, false, ◌||◌, if◌then◌else◌, nat_lt}
use Rattle.std.specs.Prelude.{List, [], ◌∷◌, ◌++◌, length, map, drop, slice_set, slice_index_or, slice_get, replicate, Option, Some, None, IfSome}
use Rattle.std.specs.List.{IsDistinct, list_any}
use Rattle.std.specs.Option.{option_map_or}
use Rattle.eden_model.specs.declared.id.Key.{Key}
use Rattle.eden_model.specs.declared.fault.Cause.{Cause}
use Rattle.eden_model.specs.Keys.{same_key}
use Rattle.eden_import.specs.Keys.{has_key, without_key}

-- what is kept of a failed key for a pass that wanted it
abbrev pub Mark : Type 0
Mark = Key × Cause

pub record Queue : Type 0 where
  -- the keys that are to be fetched, the oldest first
  pub queue : List Key
  -- the keys that are being fetched, the first taken first
  pub flight : List Key
  -- the key that each pass wants
  pub wants : List (Option Key)
  -- the mark that each pass has
  pub marks : List (Option Mark)
  -- how many passes there are, and how many keys may be in flight
  pub passes : ℕ
  pub flights : ℕ

-- ---- what a queue shows

-- passes are numbered from 1
abbrev pub IsPass : ℕ → Queue → Type 0
IsPass p q = (1 ≤ p) × (p ≤ q.passes)

-- the key that a pass wants; of a number that is no pass's it says nothing
abbrev pub want_of : ℕ → Queue → Option Key
want_of p q = slice_index_or q.wants (p - 1) None

-- the mark that a pass has; likewise
abbrev pub mark_of : ℕ → Queue → Option Mark
mark_of p q = slice_index_or q.marks (p - 1) None

-- the pass wants this key or none
abbrev pub WantsNoOther : Key → ℕ → Queue → Type 0
WantsNoOther k p q = IfSome (want_of p q) (λ j. j ≡ k)

-- whether the key is queued or in flight
abbrev pub stands : Key → Queue → Bool
stands k q = has_key k q.flight || has_key k q.queue

-- whether a want is for the key
abbrev pub wants_key : Key → Option Key → Bool
wants_key k None = false
wants_key k (Some j) = same_key k j

-- whether one of these wants is for the key
abbrev pub is_wanted : Key → List (Option Key) → Bool
is_wanted k ws = list_any (wants_key k) ws

-- ---- what every queue keeps

-- there may be so many passes, and so many keys in flight
abbrev pub IsPassCount : ℕ → Type 0
IsPassCount n = (1 ≤ n) × (n ≤ 64)

abbrev pub IsFlightCount : ℕ → Type 0
IsFlightCount n = (1 ≤ n) × (n ≤ 64)

pub record IsQueue (q : Queue) : Type 0 where
  pub some_passes : IsPassCount q.passes
  pub some_flights : IsFlightCount q.flights
  -- no key stands twice, in flight and queued together
  pub once : IsDistinct same_key (q.flight ++ q.queue)
  -- each queued key is wanted by a pass
  pub wanted : (k : Key) → has_key k q.queue ≡ true → is_wanted k q.wants ≡ true
  -- each wanted key is queued or in flight
  pub awaited : (k : Key) → is_wanted k q.wants ≡ true → stands k q ≡ true
  pub within_flights : length q.flight ≤ q.flights
  pub each_pass_wants : length q.wants ≡ q.passes
  pub each_pass_has_mark : length q.marks ≡ q.passes

-- ---- the steps

-- nothing is queued, in flight, wanted or marked
abbrev pub empty_queue : ℕ → ℕ → Queue
empty_queue passes flights =
    record { queue = []; flight = []; wants = replicate passes None; marks = replicate passes None; passes = passes; flights = flights }

-- the pass wants the key, which goes to the queue's end where it stood nowhere
abbrev pub after_want : Key → ℕ → Queue → Queue
after_want k p q = record q { queue = (if stands k q then q.queue else q.queue ++ k ∷ []); wants = slice_set q.wants (p - 1) (Some k) }

-- with these wants, the key is no longer queued where none of them is for it
abbrev pub unqueue_unwanted : Key → List (Option Key) → Queue → Queue
unqueue_unwanted k ws q = record q { queue = (if is_wanted k ws then q.queue else without_key k q.queue); wants = ws }

-- the pass no longer wants the key, where it did
abbrev pub after_leave : Key → ℕ → Queue → Queue
after_leave k p q = if wants_key k (want_of p q) then unqueue_unwanted k (slice_set q.wants (p - 1) None) q else q

-- the pass no longer wants the key that it wanted, if it did want one
abbrev pub after_leave_own : ℕ → Queue → Queue
after_leave_own p q = option_map_or (λ k. after_leave k p q) (want_of p q) q

-- the pass wants the key and no other: it leaves an old one, and a key that it wanted keeps its place
abbrev pub after_await : Key → ℕ → Queue → Queue
after_await k p q = after_want k p (if wants_key k (want_of p q) then q else after_leave_own p q)

-- the oldest queued key, where another may go into flight
abbrev pub next_key : Queue → Option Key
next_key q = if nat_lt (length q.flight) q.flights then slice_get q.queue 0 else None

-- the oldest key went into flight
abbrev pub after_take : Option Key → Queue → Queue
after_take None q = q
after_take (Some k) q = record q { queue = drop 1 q.queue; flight = q.flight ++ k ∷ [] }

-- these wants without those for the key
abbrev pub end_wants : Key → List (Option Key) → List (Option Key)
end_wants k ws = map (λ w. if wants_key k w then None else w) ws

-- the key left the flight, and nobody wants it any more
abbrev pub after_done : Key → Queue → Queue
after_done k q = record q { flight = without_key k q.flight; wants = end_wants k q.wants }

-- these marks, and a new one in the place of each whose pass wants the key
abbrev pub put_marks : Key → Cause → List (Option Key) → List (Option Mark) → List (Option Mark)
put_marks k c [] ms = ms
put_marks k c (w ∷ ws) [] = []
put_marks k c (w ∷ ws) (m ∷ ms) = (if wants_key k w then Some (k, c) else m) ∷ put_marks k c ws ms

-- the key left the flight with a mark for each pass that wanted it
abbrev pub after_failed : Key → Cause → Queue → Queue
after_failed k c q = record (after_done k q) { marks = put_marks k c q.wants q.marks }

-- the pass's mark is handed out
abbrev pub after_failure : ℕ → Queue → Queue
after_failure p q = record q { marks = slice_set q.marks (p - 1) None }

-- the pass wants nothing any more, and its mark is dropped
abbrev pub after_quit : ℕ → Queue → Queue
after_quit p q = after_failure p (after_leave_own p q)
