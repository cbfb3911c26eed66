-- A directory's entries, of which one changes.
use Rattle.std.specs.Prelude.{◌≡◌, ◌+◌, ◌++◌, ℕ, List, [], ◌∷◌, length, Option, Some, None, if◌then◌else◌}
use Rattle.std.specs.List.{flat_map}
use Rattle.std.specs.Str.{bytes_eq}
use Rattle.eden_model.specs.Trees.{Name}
use Rattle.eden_model.specs.Operations.{name_lt}
use Rattle.eden_overlay_format.specs.declared.directory_body.RowFacts.{RowFacts}
use Rattle.eden_overlay_format.specs.declared.stored_entry.StoredEntry.{StoredEntry}
use Rattle.eden_overlay_format.specs.Directory.{IsStorable, row}

-- an entry, by its name and what stands beside that in its row
abbrev pub entry_as : Name → RowFacts → StoredEntry
entry_as n f = record { name = n; kind = f.kind; origin = f.origin; number = f.number }

-- this one in front of them, if there is one
abbrev pub put_front : Option StoredEntry → List StoredEntry → List StoredEntry
put_front None es = es
put_front (Some e) es = e ∷ es

-- entries that rise by name, with this as the one of that name, or with none of it
abbrev pub entries_with : Name → Option StoredEntry → List StoredEntry → List StoredEntry
entries_with n o [] = put_front o []
entries_with n o (e ∷ es) =
    if name_lt e.name n then e ∷ entries_with n o es else put_front o (if bytes_eq n e.name then es else e ∷ es)

-- those of them whose names are less
abbrev pub entries_before : Name → List StoredEntry → List StoredEntry
entries_before n [] = []
entries_before n (e ∷ es) = if name_lt e.name n then e ∷ entries_before n es else []

-- the others, without that of the name
abbrev pub entries_behind : Name → List StoredEntry → List StoredEntry
entries_behind n [] = []
entries_behind n (e ∷ es) = if name_lt e.name n then entries_behind n es else (if bytes_eq n e.name then es else e ∷ es)

-- the rows before and behind a name, and how many they are
pub record IsSplit (n : Name) (es : List StoredEntry) (before behind : List ℕ) (count : ℕ) : Type 0 where
  pub rows_before : before ≡ flat_map row (entries_before n es)
  pub rows_behind : behind ≡ flat_map row (entries_behind n es)
  pub counted : count ≡ length (entries_before n es) + length (entries_behind n es)

-- bytes begin with a row
pub record BeginsWithRow (bytes : List ℕ) : Type 0 where
  pub entry : StoredEntry
  pub rest : List ℕ
  pub storable : IsStorable entry
  pub starts : bytes ≡ row entry ++ rest

-- what is told of the row that they begin with: its name, and what stands behind it
abbrev pub TellsRow : List ℕ → List ℕ → List ℕ → Type 0
TellsRow bytes name behind = (e : StoredEntry) (rest : List ℕ) → IsStorable e → bytes ≡ row e ++ rest → (name ≡ e.name) × (behind ≡ rest)
