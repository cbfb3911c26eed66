-- A directory's file while its entries are written.
use Rattle.std.specs.Prelude.{◌≡◌, ◌++◌, ℕ, List, [], length, drop, replicate, Some, None}
use Rattle.std.specs.List.{flat_map, AllByRecursion}
use Rattle.eden_overlay_format.specs.declared.stored_entry.StoredEntry.{StoredEntry}
use Rattle.eden_overlay_format.specs.Directory.{IsStorable, row, directory_body}
use Rattle.eden_overlay_format.specs.Reading.{Field, rows_at}

-- the rows that were read, or none
abbrev pub rows_read : Field (List StoredEntry) → List StoredEntry
rows_read (Some read) = read.0
rows_read None = []

-- the entries that so many rows are
abbrev pub entries_read : ℕ → List ℕ → List StoredEntry
entries_read count rows = rows_read (rows_at count rows)

-- .. behind the room for a header and for their count
unfoldable pub entries_under_way : ℕ → List ℕ → List StoredEntry
entries_under_way count file = entries_read count (drop 68 file)

-- bytes are the rows of these entries, which are so many
pub record AreRowsOf (es : List StoredEntry) (count : ℕ) (rows : List ℕ) : Type 0 where
  pub each : AllByRecursion IsStorable es
  pub counted : length es ≡ count
  pub written : rows ≡ flat_map row es

-- behind that room stand so many rows, and nothing else
pub record IsUnderWay (count : ℕ) (file : List ℕ) : Type 0 where
  pub entries : List StoredEntry
  pub each : AllByRecursion IsStorable entries
  pub counted : length entries ≡ count
  pub rows : file ≡ replicate 68 0 ++ flat_map row entries

-- behind room for a header stands the body of a directory of so many entries
pub record IsListingBody (count : ℕ) (file : List ℕ) : Type 0 where
  pub entries : List StoredEntry
  pub each : AllByRecursion IsStorable entries
  pub counted : length entries ≡ count
  pub body : file ≡ replicate 64 0 ++ directory_body entries
