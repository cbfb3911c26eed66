-- Files by their numbers, as contracts see them.
use Rattle.std.specs.Prelude.{ℕ, ◌==◌, List, Option, Some, None, if◌then◌else◌, take, drop, IsSome, All, Contains}
use Rattle.eden_overlay_format.specs.declared.header.Head.{Head}
use Rattle.eden_overlay_format.specs.Content.{IsHead}

abbrev pub Stored : Type 0
Stored = ℕ → Option (List ℕ)

-- f, with w as file k
abbrev pub with_file : Stored → ℕ → Option (List ℕ) → Stored
with_file f k w = λ q. if k == q then w else f q

-- the bytes from a place on, at most so many
abbrev pub part : ℕ → ℕ → List ℕ → List ℕ
part from most bytes = take most (drop from bytes)

-- the numbers of the files, and no others
pub record ListsNumbers (ks : List ℕ) (f : Stored) : Type 0 where
  pub there : All (λ k. IsSome (f k)) ks
  pub all : (k : ℕ) → IsSome (f k) → Contains ks k

-- what was had is the head of the file, or there is no file
abbrev pub IsHeadOf : Option (List ℕ) → Option Head → Type 0
IsHeadOf (Some bytes) (Some head) = IsHead head bytes
IsHeadOf None None = Unit {0}
IsHeadOf _ _ = ⊥
