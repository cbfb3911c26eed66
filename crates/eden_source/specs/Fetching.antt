-- What a source is asked, and what it answers.
use Rattle.std.specs.Prelude.{◌≡◌, ℕ, List, [], ◌∷◌, Result}
use Rattle.std.specs.Result.{result_map_both}
use Rattle.std.specs.declared.alloc.Global.{Global}
use Rattle.std.specs.declared.vec.Vec.{Vec}
use Rattle.eden_model.specs.declared.id.Id.{Id}
use Rattle.eden_model.specs.declared.fault.Cause.{Cause}
use Rattle.eden_model.specs.declared.fault.Cause.TheVariants as cause

-- the framed bytes that came, or why none did
abbrev pub Answer : Type 0
Answer = Result (List ℕ) Cause

abbrev pub answer_of : Result (Vec ℕ Global) Cause → Answer
answer_of r = result_map_both (λ v. v.items) (λ e. e) r

-- why a source gives no bytes
abbrev pub IsSourceCause : Cause → Type 0
IsSourceCause cause.Missing = Unit {0}
IsSourceCause cause.Device = Unit {0}
IsSourceCause cause.BadDigest = ⊥
IsSourceCause cause.Malformed = ⊥
IsSourceCause cause.WrongKind = ⊥
IsSourceCause cause.TooLarge = Unit {0}
IsSourceCause cause.Memory = Unit {0}

-- one question to a source, and its answer
pub record Ask : Type 0 where
  pub id : Id
  pub answer : Answer

-- a source s that answers as `fetched` says was asked these, in this order, which left it as t
abbrev pub Fetches : {S : Type 0} → (S → Id → Answer → S → Type 0) → S → List Ask → S → Type 0
Fetches fetched s [] t = s ≡ t
Fetches {S} fetched s (ask ∷ asks) t = (u : S) × fetched s ask.id ask.answer u × Fetches fetched u asks t
