-- What a table of entries in memory shows, over a repository and stored files.
use Rattle.std.specs.Prelude.{◌≡◌, ℕ, List, Option, Some, None}
use Rattle.std.specs.Option.{option_map}
use Rattle.eden_model.specs.Trees.{Name, Tree}
use Rattle.eden_model.specs.Shown.{Item, Items, Ground, map_items, shown}
use Rattle.eden_model.specs.Repository.{Repository, Source, source_of, OwnFiles, entries_with, content_with, ground_with}
use Rattle.eden_overlay.specs.Files.{Stored}
use Rattle.eden_overlay.specs.Held.{own_files}
use Rattle.eden_tree.specs.Directory.{Child, unloaded, loaded, Rows, Row, Directory, listed}
use Rattle.eden_tree.specs.Rows.{find_row}

-- where the contents of an entry in memory come from: its loaded directory, or what it would be loaded from
pub data TableSource : Type 0 where
  Loaded : Rows → TableSource
  Away : Source → TableSource

abbrev pub loaded_or : Child → Source → TableSource
loaded_or unloaded s = Away s
loaded_or (loaded stamp mark rows) s = Loaded rows

-- an entry in memory, and the same were it not loaded
abbrev pub item_in : Row → Item TableSource
item_in x = record { kind = x.kind; source = loaded_or x.child (source_of x.number x.origin) }

abbrev pub item_away : Row → Item Source
item_away x = record { kind = x.kind; source = source_of x.number x.origin }

-- the entries of a loaded directory
abbrev pub items_in : Rows → Items TableSource
items_in rows = λ n. option_map item_in (find_row n (listed rows))

-- .. and the same were none of them loaded
abbrev pub items_away : Directory → Items Source
items_away d = λ n. option_map item_away (find_row n d.rows)

module _ (R : Repository) (own : OwnFiles) where
  abbrev pub table_entries : TableSource → Option (Items TableSource)
  table_entries (Loaded rows) = Some (items_in rows)
  table_entries (Away s) = option_map (map_items Away) (entries_with R own s)

  abbrev pub table_content : TableSource → Option (List ℕ)
  table_content (Loaded rows) = None
  table_content (Away s) = content_with R own s

  -- the entries in memory above own files and a repository
  abbrev pub table_ground : Ground TableSource
  table_ground = record { entries = table_entries; content = table_content }

-- the tree that an entry shows with all that is loaded in it
abbrev pub shown_in : Repository → Stored → Row → Tree
shown_in R F x = shown (table_ground R (own_files F)) (item_in x)

-- .. and the tree that the files show, where it isn't loaded
abbrev pub shown_away : Repository → Stored → Row → Tree
shown_away R F x = shown (ground_with R (own_files F)) (item_away x)

-- what the entry x would be loaded from is what the directory has
pub record IsFrom (R : Repository) (own : OwnFiles) (x : Row) (d : Directory) : Type 0 where
  pub items : Items Source
  pub had : entries_with R own (source_of x.number x.origin) ≡ Some items
  pub each : (n : Name) → items_away d n ≡ items n
