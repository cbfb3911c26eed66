-- What the steps leave as it was, and what they do to the flight.
use Rattle.std.proofs.Common.{◌≡◌, ◌||◌, Bool, true, false, cond, List, [], ◌∷◌, length, Option, Some, None, nat_lt, slice_get, refl, ap, ◌∙◌}
use Rattle.eden_model.specs.declared.id.Key.{Key}
use Rattle.eden_model.specs.Keys.{same_key}
use Rattle.eden_import.specs.Keys.{has_key}
use Rattle.eden_import.specs.Queue.{Queue, after_take}
use Rattle.eden_import.specs.Laws.{MarksStay, WantsStay, OneIsTaken, OneLands, PassesKeepFlight}
use Rattle.eden_import.proofs.KeyLemmas.{same_key-refl, has_key-append, has_key-without}
use Rattle.eden_import.proofs.StepLemmas.{not_in_flight}
use Rattle.eden_import.proofs.PassLemmas.{leave_rest, await_rest, quit_rest}

take_rest : (q : Queue) (o : Option Key) → ((after_take o q).marks ≡ q.marks) × ((after_take o q).wants ≡ q.wants)
take_rest q None = (refl, refl)
take_rest q (Some k) = (refl, refl)

pub marks_stay : MarksStay
marks_stay q k p o = (refl, (leave_rest k p q).1, (await_rest k p q).1, (take_rest q o).0, refl)

pub wants_stay : WantsStay
wants_stay q p o = ((take_rest q o).1, refl)

first_is_there : (k : Key) (ks : List Key) (b : Bool) → cond b (slice_get ks 0) None ≡ Some k → has_key k ks ≡ true
first_is_there k ks false e = absurd (cc e)
first_is_there k [] true e = absurd (cc e)
first_is_there k (j ∷ ks) true e = let same : j ≡ k = cc e in ap (λ (x : Key). same_key k x || has_key k ks) same ∙ ap (λ b. b || has_key k ks) (same_key-refl k)

or_false : (b : Bool) → (b || false) ≡ b
or_false true = refl
or_false false = refl

pub one_is_taken : OneIsTaken
one_is_taken q k j h next = (
  not_in_flight k q h (first_is_there k q.queue (nat_lt (length q.flight) q.flights) next),
  has_key-append j q.flight (k ∷ []) ∙ ap (λ b. has_key j q.flight || b) (or_false (same_key j k)),
)

pub one_lands : OneLands
one_lands q k j c = (has_key-without j k q.flight, refl)

pub passes_keep_flight : PassesKeepFlight
passes_keep_flight q k p = ((refl, refl, refl), (leave_rest k p q).0, (await_rest k p q).0, quit_rest p q, (refl, refl, refl))
