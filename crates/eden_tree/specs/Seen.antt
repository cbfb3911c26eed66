-- How the fields of an entry and of a directory are seen.
use Rattle.std.specs.Prelude.{ℕ, Bool, List, Option, Box}
use Rattle.std.specs.Option.{option_map}
use Rattle.eden_model.specs.declared.kind.Kind.{Kind}
use Rattle.eden_model.specs.declared.kind.Origin.{Origin}
use Rattle.eden_model.specs.Trees.{Name}
use Rattle.eden_tree.specs.Directory.{Row, Directory, child_from}

abbrev pub row_from : {A : Type 0} → ℕ → Kind → Origin → Option (Box Directory A) → Row
row_from k d o c = record { number = k; kind = d; origin = o; child = child_from (option_map (λ b. b.value) c) }

abbrev pub directory_from : ℕ → Bool → List (Name × Row) → Directory
directory_from s u rows = record { stamp = s; unsaved = u; rows = rows }
