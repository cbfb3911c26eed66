-- A source that is asked first, and one that is asked for what the first lacks.
use Rattle.std.specs.Prelude.{◌≡◌, ◌≢◌, ℕ, Err}
use Rattle.eden_model.specs.declared.id.Id.{Id}
use Rattle.eden_model.specs.declared.fault.Cause.TheVariants as cause
use Rattle.eden_source.specs.Fetching.{Answer}

-- the sources, and how many answers were that the device failed
pub record Pair (A B : Type 0) : Type 0 where
  pub first : A
  pub second : B
  pub failures : ℕ

module _ {A B : Type 0} (fetched_first : A → Id → Answer → A → Type 0) (fetched_second : B → Id → Answer → B → Type 0) where
  -- The first was asked for the object, and heard. If it lacks it, the second was asked, and that was the answer; else the first's
  -- was, and the second was left as it was.
  pub record Asks (old : A × B) (id : Id) (answer : Answer) (new : A × B) : Type 0 where
    pub heard : Answer
    pub first : fetched_first old.0 id heard new.0
    pub lacking : heard ≡ Err cause.Missing → fetched_second old.1 id answer new.1
    pub had : heard ≢ Err cause.Missing → (answer ≡ heard) × (new.1 ≡ old.1)

  -- the same of a pair that counts
  abbrev pub FetchedFromPair : Pair A B → Id → Answer → Pair A B → Type 0
  FetchedFromPair old id answer new = Asks (old.first, old.second) id answer (new.first, new.second)
