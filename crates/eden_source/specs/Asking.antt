-- What a request asked its source for.
use Rattle.std.specs.Prelude.{List, map}
use Rattle.eden_model.specs.declared.id.Key.{Key}
use Rattle.eden_source.specs.Fetching.{Ask, Answer}

-- an object that was asked for, and what the source answered
pub record Asked : Type 0 where
  pub key : Key
  pub answer : Answer

-- what the source heard
abbrev pub heard : List Asked → List Ask
heard asks = map (λ a. record { id = a.key.id; answer = a.answer }) asks
