-- Files as they lie in memory.
use Rattle.std.specs.Prelude.{ℕ, ◌==◌, List, map}
use Rattle.std.specs.Map.{lookup}
use Rattle.eden_overlay_format.specs.Stored.{stored_as}
use Rattle.eden_overlay_format.specs.declared.header.Identifier.TheVariants as identifier
use Rattle.eden_overlay.specs.declared.memory.FileBytes.{FileBytes}
use Rattle.eden_overlay.specs.declared.memory.FileBytes.TheVariants as bytes
use Rattle.eden_overlay.specs.Files.{Stored}

-- a file's bytes: as they were stored, or those that a directory with its body is stored as
abbrev pub bytes_in_memory : FileBytes → List ℕ
bytes_in_memory (bytes.Whole file) = file.items
bytes_in_memory (bytes.Directory body) = stored_as identifier.Directory body.items

-- the entries of a map, as numbers and bytes
abbrev pub files_of : List (ℕ × FileBytes) → List (ℕ × List ℕ)
files_of entries = map (λ e. (e.0, bytes_in_memory e.1)) entries

-- what a list of numbers and bytes stores
abbrev pub stored_in : List (ℕ × List ℕ) → Stored
stored_in files = λ number. lookup (λ k. number == k) files
