-- The tables of an index (gitformat-pack(5), "Version 2 pack-*.idx files" and "multi-pack-index (MIDX) files have the following format").
use Rattle.std.specs.Prelude.{◌≡◌, ◌≤◌, ◌<◌, ◌+◌, ◌-◌, ◌*◌, ◌==◌, ℕ, List, [], ◌∷◌, length, take, drop, Bool, nat_lt, if◌then◌else◌}
use Rattle.std.specs.Int.{w32, w64, from_be_bytes}
use Rattle.eden_pack_format.specs.declared.table.Place.{Place}
use Rattle.eden_pack_format.specs.declared.table.Place.TheVariants as place

-- the number in the four bytes from there on, the highest first
abbrev pub number_at : List ℕ → ℕ → ℕ
number_at bytes at = from_be_bytes w32 (take 4 (drop at bytes))

-- the number in the eight bytes from there on
abbrev pub long_at : List ℕ → ℕ → ℕ
long_at bytes at = from_be_bytes w64 (take 8 (drop at bytes))

-- what a pack's index of version 2 begins with
abbrev pub index_magic : List ℕ
index_magic = 255 ∷ 116 ∷ 79 ∷ 99 ∷ 0 ∷ 0 ∷ 0 ∷ 2 ∷ []

-- how many ids there are up to that first byte
abbrev pub count : List ℕ → ℕ → ℕ
count counts first = number_at counts (4 * first)

-- how many ids there are before that first byte
abbrev pub count_below : List ℕ → ℕ → ℕ
count_below counts first = if first == 0 then 0 else count counts (first - 1)

-- no count is below the one before it
abbrev pub Rises : List ℕ → Type 0
Rises counts = (first : ℕ) → first < 255 → count counts first ≤ count counts (first + 1)

-- the id stands in a row of ids, after so many others
pub record HasId (ids id : List ℕ) (number : ℕ) : Type 0 where
  pub within : 20 * number + 20 ≤ length ids
  pub is : take 20 (drop (20 * number) ids) ≡ id

-- Where an object begins. If there is a table of long places and the number has its highest bit, the others say which of that table's
-- rows tells it.
abbrev pub place_of : Bool → ℕ → Place
place_of long number = if long then (if nat_lt number 2147483648 then place.At number else place.Long (number - 2147483648)) else place.At number
