-- What a writer that may fail holds.
use Rattle.std.specs.Prelude.{ℕ, ◌≡◌, ◌≤◌, false, List, [], ◌++◌, length, take, ⊤, Option, Result, MatchResult, OnOk}
use Rattle.std.specs.Io.KnownBytes.{Appends}
use Rattle.eden_wire.specs.declared.output.Output.{Output}
use Rattle.eden_wire.specs.declared.output.WriteFailed.{WriteFailed}

-- the bytes grew by a beginning of the text
pub record WritesFront (old new : Option (List ℕ)) (text : List ℕ) : Type 0 where
  pub front : List ℕ
  pub rest : List ℕ
  pub whole : text ≡ front ++ rest
  pub appends : Appends old new front

-- the text was written, or at an error a beginning of it
abbrev pub WritesText : {T E : Type 0} → Option (List ℕ) → Option (List ℕ) → Result T E → List ℕ → Type 0
WritesText old new r text = MatchResult r (λ _. Appends old new text) (λ _. WritesFront old new text)

-- one call of the writer: a beginning of the bytes was taken, or none at an error
abbrev pub SendsSome : Option (List ℕ) → Option (List ℕ) → List ℕ → Result ℕ WriteFailed → Type 0
SendsSome old new bytes r = MatchResult r (λ n. (n ≤ length bytes) × Appends old new (take n bytes)) (λ _. Appends old new [])

-- since the start this text was handed over: the writer got some, and the rest waits, or is lost after a failed write
pub record Holds (start now : Option (List ℕ)) (output : Output) (text : List ℕ) : Type 0 where
  pub sent : List ℕ
  pub rest : List ℕ
  pub whole : text ≡ sent ++ rest
  pub appends : Appends start now sent
  pub waits : output.failed ≡ false → rest ≡ output.pending.items

-- this text was handed over behind what was handed over before
pub record HandsOver (w v : Option (List ℕ)) (o p : Output) (text : List ℕ) : Type 0 where
  pub after : (start : Option (List ℕ)) (before : List ℕ) → Holds start w o before → Holds start v p (before ++ text)

-- nothing waits, and no write has failed
pub record IsIdle (output : Output) : Type 0 where
  pub empty : output.pending.items ≡ []
  pub working : output.failed ≡ false

-- what was handed over is written, or at an error a beginning of it
pub record Flushed (w v : Option (List ℕ)) (o p : Output) (r : Result ⊤ WriteFailed) : Type 0 where
  pub written : (start : Option (List ℕ)) (before : List ℕ) → Holds start w o before → WritesText start v r before
  pub idle : OnOk r (IsIdle p)
  pub worked : OnOk r (o.failed ≡ false)
