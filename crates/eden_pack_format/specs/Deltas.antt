-- What a delta makes of its base (gitformat-pack(5), "Deltified representation").
use Rattle.std.specs.Prelude.{◌≡◌, ℕ, ◌+◌, ◌/◌, ◌==◌, List, [], ◌∷◌, ◌++◌, length}
use Rattle.std.specs.Prelude.{take, drop, Option, Some, None, option_map, option_and_then, nat_lt, nat_le, if◌then◌else◌}
use Rattle.eden_pack_format.specs.Numbers as numbers

-- so many bytes of the base from an offset on, where they are all there
unfoldable pub piece_of : List ℕ → ℕ → ℕ → Option (List ℕ)
piece_of base offset size = if nat_le (offset + size) (length base) then Some (take size (drop offset base)) else None

-- a copy's size of 0 stands for 2^16
abbrev pub size_copied : ℕ → ℕ
size_copied size = if size == 0 then 65536 else size

-- An instruction to copy: the lower four bits of its code say which bytes of an offset into the base are there, and the next three
-- which bytes of a size. Also what is behind the instruction.
unfoldable pub copied : List ℕ → ℕ → List ℕ → Option (List ℕ × List ℕ)
copied base code text =
    option_and_then (λ o. option_and_then (λ s. option_map (λ piece. (piece, s.1)) (piece_of base o.0 (size_copied s.0))) (numbers.length_of (code / 16) o.1))
    (numbers.offset code text)

-- an instruction to add new bytes: as many as its code says
unfoldable pub added : ℕ → List ℕ → Option (List ℕ × List ℕ)
added count text = if nat_le count (length text) then Some (take count text, drop count text) else None

-- what the first instruction adds to the target, and what is behind it; the code 0 is reserved
unfoldable pub instruction : List ℕ → List ℕ → Option (List ℕ × List ℕ)
instruction base [] = None
instruction base (code ∷ text) = if code == 0 then None else if nat_lt code 128 then added code text else copied base code text

-- the instructions make that target of the base: one after the other, each adds its piece
pub data Makes (base : List ℕ) : List ℕ → List ℕ → Type 0 where
  ends : (text target : List ℕ) → text ≡ [] → target ≡ [] → Makes base text target
  adds : (text target piece rest more : List ℕ) → instruction base text ≡ Some (piece, rest) → target ≡ piece ++ more → Makes base rest more
      → Makes base text target

-- the delta says the sizes of the base and of the target, and its instructions make the target
pub record IsDelta (base delta target : List ℕ) : Type 0 where
  pub behind : List ℕ
  pub instructions : List ℕ
  pub of_base : numbers.size delta ≡ Some (length base, behind)
  pub of_target : numbers.size behind ≡ Some (length target, instructions)
  pub makes : Makes base instructions target
