-- Laws of the protocol.
use Rattle.std.specs.Prelude.{◌≡◌, ◌<◌, ◌^◌, ℕ, List, ◌++◌, length, IfOk}
use Rattle.eden_source.specs.Fetching.{Answer}
use Rattle.eden_remote.specs.Protocol.{answer_text, object_text}

-- an answer of a length that a program can have
abbrev pub IsAnswer : Answer → Type 0
IsAnswer a = IfOk a (λ framed. length framed < 2 ^ 64)

-- bytes begin with one answer
abbrev pub OneAnswer : Type 0
OneAnswer =
    (a b : Answer) (x y : List ℕ) → IsAnswer a → IsAnswer b → answer_text a ++ x ≡ answer_text b ++ y
    → (answer_text a ≡ answer_text b) × (x ≡ y)

-- an answer gives one object
abbrev pub OneObject : Type 0
OneObject = (f g : List ℕ) → length f < 2 ^ 64 → length g < 2 ^ 64 → object_text f ≡ object_text g → f ≡ g
