-- A multi-pack index (gitformat-pack(5), "multi-pack-index (MIDX) files have the following format").
use Rattle.std.specs.Prelude.{◌≡◌, ◌≢◌, ◌≤◌, ◌+◌, ◌*◌, ℕ, List, [], ◌∷◌, ◌++◌, length, take, drop, slice_index, All}
use Rattle.eden_model.specs.Bytes.{nul_byte}
use Rattle.eden_pack_format.specs.Indexes.{number_at, long_at}

-- MIDX, version 1, and ids that are SHA-1
abbrev pub magic : List ℕ
magic = 77 ∷ 73 ∷ 68 ∷ 88 ∷ 1 ∷ 1 ∷ []

-- it begins an index of that version, with such ids, that goes on from no other, and has so many chunks and so many packs
pub record IsFront (front : List ℕ) (chunks packs : ℕ) : Type 0 where
  pub kind : take 6 front ≡ magic
  pub has_chunks : chunks ≡ slice_index front 6
  pub alone : slice_index front 7 ≡ 0
  pub has_packs : packs ≡ number_at front 8

-- The row of that number in the table of chunks has that name, and its chunk begins and ends there: where the row says, and where
-- the next row's begins.
pub record IsChunkOf (table name : List ℕ) (row begin end : ℕ) : Type 0 where
  pub within : 12 * row + 24 ≤ length table
  pub named : take 4 (drop (12 * row) table) ≡ name
  pub begins : begin ≡ long_at table (12 * row + 4)
  pub ends : end ≡ long_at table (12 * row + 16)
  pub ordered : begin ≤ end

-- the chunk of that name begins and ends there, by some row of the table, whose last row has no chunk
pub record IsChunk (table name : List ℕ) (begin end : ℕ) : Type 0 where
  pub row : ℕ
  pub of_row : IsChunkOf table name row begin end

-- the names of packs, each before a NUL: the first, and those after it
pub record IsSplit (names first others : List ℕ) : Type 0 where
  pub is : names ≡ first ++ nul_byte ∷ others
  pub first_ends : All (λ byte. byte ≢ 0) first
