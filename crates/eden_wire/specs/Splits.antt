-- Bytes cut at a mark.
use Rattle.std.specs.Prelude.{ℕ, ◌≡◌, ◌≢◌, ◌≤◌, List, [], ◌∷◌, ◌++◌, length, take, drop}
use Rattle.std.specs.List.{AllByRecursion}

-- no such byte among the bytes
abbrev pub Lacks : ℕ → List ℕ → Type 0
Lacks mark bytes = AllByRecursion (λ b. b ≢ mark) bytes

-- begins with this byte
abbrev pub BeginsWith : ℕ → List ℕ → Type 0
BeginsWith mark [] = ⊥
BeginsWith mark (b ∷ bytes) = b ≡ mark

-- nothing, or what begins with the mark
abbrev pub IsCutAt : ℕ → List ℕ → Type 0
IsCutAt mark [] = Unit {0}
IsCutAt mark (b ∷ bytes) = b ≡ mark

-- the bytes up to n lack the mark, and one or nothing comes after them
pub record IsFirstPart (bytes : List ℕ) (mark n : ℕ) : Type 0 where
  pub within : n ≤ length bytes
  pub plain : Lacks mark (take n bytes)
  pub cut : IsCutAt mark (drop n bytes)

-- the mark, a part without it, and nothing or what begins with the mark
pub record IsPart (mark : ℕ) (text part more : List ℕ) : Type 0 where
  pub whole : text ≡ mark ∷ (part ++ more)
  pub plain : Lacks mark part
  pub cut : IsCutAt mark more
