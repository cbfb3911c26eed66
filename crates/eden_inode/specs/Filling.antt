-- The entries of a tree object, and those of a stored directory, in memory.
use Rattle.std.specs.Prelude.{◌≡◌, ℕ, suc, List, [], ◌∷◌, length, map, None}
use Rattle.eden_model.specs.declared.kind.Origin.{Origin}
use Rattle.eden_model.specs.declared.kind.Origin.TheVariants as origin
use Rattle.eden_model.specs.declared.kind.Mode.{Mode}
use Rattle.eden_model.specs.declared.kind.Mode.TheVariants as mode
use Rattle.eden_model.specs.declared.id.Id.{Id}
use Rattle.eden_model.specs.declared.tree_entry.TreeEntry.{TreeEntry}
use Rattle.eden_model.specs.Names.{name_refusal}
use Rattle.eden_model.specs.Trees.{Name}
use Rattle.eden_model.specs.Repository.{item_by}
use Rattle.eden_overlay_format.specs.declared.stored_entry.StoredEntry.{StoredEntry}
use Rattle.eden_tree.specs.Directory.{unloaded, Row}

-- where the contents of an entry of a tree object come from
abbrev pub origin_by : Mode → Id → Origin
origin_by mode.File id = origin.Object id
origin_by mode.Exec id = origin.Object id
origin_by mode.Link id = origin.Object id
origin_by mode.Dir id = origin.Object id
origin_by mode.Gitlink id = origin.Empty

-- such an entry in memory, with that number and nothing loaded
abbrev pub row_by : ℕ → TreeEntry → Row
row_by k e = record { number = k; kind = (item_by e.mode e.id).kind; origin = origin_by e.mode e.id; child = unloaded }

-- such entries, numbered from k on
abbrev pub numbered : ℕ → List TreeEntry → List (Name × Row)
numbered k [] = []
numbered k (e ∷ es) = (e.name, row_by k e) ∷ numbered (suc k) es

-- a stored entry in memory, with nothing loaded
abbrev pub row_stored : StoredEntry → Name × Row
row_stored e = (e.name, record { number = e.number; kind = e.kind; origin = e.origin; child = unloaded })

abbrev pub rows_stored : List StoredEntry → List (Name × Row)
rows_stored es = map row_stored es

-- the bytes are the entry's name
pub record IsNamed (name : List ℕ) (e : TreeEntry) : Type 0 where
  pub is : name ≡ e.name
  pub good : name_refusal name ≡ None
  pub id : length e.id.bytes ≡ 20
