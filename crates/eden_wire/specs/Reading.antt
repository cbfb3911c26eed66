-- What a read brings.
use Rattle.std.specs.Prelude.{ℕ, ◌≡◌, List, ◌++◌, length, Option, Result, MatchResult}
use Rattle.std.specs.Io.KnownBytes.{Consumes, Keeps, IsAtEnd}

-- a piece was read
pub record ReadSome (left still : Option (List ℕ)) (old new : List ℕ) (n : ℕ) : Type 0 where
  pub piece : List ℕ
  pub consumed : Consumes left still piece
  pub joined : new ≡ old ++ piece
  pub size : length piece ≡ n
  pub at_end : n ≡ 0 → IsAtEnd still

-- a piece was put behind the bytes, or at an error nothing changed
abbrev pub ReadsPiece : {E : Type 0} → Option (List ℕ) → Option (List ℕ) → List ℕ → List ℕ → Result ℕ E → Type 0
ReadsPiece left still old new r = MatchResult r (ReadSome left still old new) (λ _. Keeps left still × (new ≡ old))
