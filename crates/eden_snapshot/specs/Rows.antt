-- What a commit's tree and an overlay's directory have, name by name.
use Rattle.std.specs.Prelude.{◌≡◌, Bool, List, Option, Some, None}
use Rattle.std.specs.Option.{unwrap_or}
use Rattle.std.specs.Map.{lookup}
use Rattle.std.specs.BTreeMap.{is_at}
use Rattle.std.specs.Cmp.Lexicographic.{slice_cmp}
use Rattle.std.specs.Ordering.{nat_cmp}
use Rattle.eden_model.specs.declared.tree_entry.TreeEntry.{TreeEntry}
use Rattle.eden_model.specs.Named.{named, AreRising}
use Rattle.eden_model.specs.Trees.{Name}
use Rattle.eden_overlay_format.specs.declared.stored_entry.StoredEntry.{StoredEntry}
use Rattle.eden_snapshot.specs.Commits.{Place, place_named}
use Rattle.eden_snapshot.specs.declared.rows.Row.{Row}

-- each name that either has, and what they have under it
abbrev pub Rows : Type 0
Rows = List (Name × Row)

-- the stored entry of that name
abbrev pub stored_named : Name → List StoredEntry → Option StoredEntry
stored_named n es = named (λ (e : StoredEntry). e.name) n es

-- neither has anything
abbrev pub nothing : Row
nothing = record { old = None; new = None }

-- it is that name
abbrev pub is_name : Name → Name → Bool
is_name n = is_at (slice_cmp nat_cmp n)

-- what they have under the name
abbrev pub row_in : Rows → Name → Row
row_in rows n = unwrap_or (lookup (is_name n) rows) nothing

-- with what the commit has put in the place of all, where there is such, and with what the overlay has put beside it
abbrev pub over_all : Row → Option Place → Row
over_all row None = row
over_all row (Some place) = record { old = Some place; new = None }

abbrev pub beside : Row → Option StoredEntry → Row
beside row None = row
beside row (Some entry) = record { old = row.old; new = Some entry }

-- what the first and the second have, in byte order of names
pub record AreRows (old : List TreeEntry) (new : List StoredEntry) (rows : Rows) : Type 0 where
  pub rising : AreRising (λ r. r.0) rows
  pub at : (n : Name) → row_in rows n ≡ record { old = place_named n old; new = stored_named n new }
