-- What an entry in memory is as an item of a table.
use Rattle.std.proofs.Common.{◌≡◌, true, false, cond, List, [], ◌∷◌, map, Option, Some, None, refl, sym, ap, ◌∙◌}
use Rattle.std.proofs.lemmas.Option.{same_Some}
use Rattle.std.specs.Str.{bytes_eq}
use Rattle.std.specs.Option.{option_map}
use Rattle.eden_model.specs.declared.kind.Kind.{Kind}
use Rattle.eden_model.specs.declared.kind.Kind.TheVariants as kind
use Rattle.eden_model.specs.declared.kind.Origin.{Origin}
use Rattle.eden_model.specs.Named.{named}
use Rattle.eden_model.specs.Trees.{Name}
use Rattle.eden_model.specs.Shown.{Item, Ground, node_from, node_of, if_dir, entry_in, shown_at, map_item}
use Rattle.eden_model.specs.Repository.{Repository, Source, source_of, OwnFiles}
use Rattle.eden_overlay_format.specs.declared.stored_entry.StoredEntry.{StoredEntry}
use Rattle.eden_overlay.specs.Held.{item_of, items_of}
use Rattle.eden_tree.specs.Directory.{Row, Directory, rows_of, listed, child_of, with_child}
use Rattle.eden_tree.specs.Rows.{find_row}
use Rattle.eden_tree.proofs.CallerLemmas.{child_of-with_child, with_child-child_of, with_child-same}
use Rattle.eden_coupling.specs.Shown.{Loaded, Away, item_in, item_away, table_ground}

-- an entry in memory with its origin as `from` gives it: as it is stored, and as it shows
module _ (from : Row → Origin) where
  abbrev pub entry_as : Name × Row → StoredEntry
  entry_as e = record { name = e.0; kind = e.1.kind; origin = from e.1; number = e.1.number }

  abbrev pub item_as : Row → Item Source
  item_as z = record { kind = z.kind; source = source_of z.number (from z) }

  -- what is stored of rows shows them
  pub items_listed : (n : Name) (es : List (Name × Row)) → items_of (map entry_as es) n ≡ option_map item_as (find_row n es)
  items_listed n [] = refl
  items_listed n (e ∷ es) =
      elim (bytes_eq n e.0) as (λ b. option_map item_of (cond b (Some (entry_as e)) (named (λ (s : StoredEntry). s.name) n (map entry_as es)))
      ≡ option_map item_as (cond b (Some e.1) (find_row n es))) [
        | true ↦ refl
        | false ↦ items_listed n es
      ]

-- ---- by whether it is loaded

-- not loaded, it is the item that the files have
pub unloaded_item : (x : Row) → child_of x ≡ None → item_in x ≡ map_item Away (item_away x)
unloaded_item x h = ap item_in (sym (ap (λ o. with_child o x) (sym h) ∙ with_child-child_of x))

-- loaded, its contents are its rows
loaded_item : (x : Row) (d : Directory) → child_of x ≡ Some d → item_in x ≡ record { kind = x.kind; source = Loaded (rows_of d.rows) }
loaded_item x d h = ap item_in (sym (with_child-same x d h))

-- which come back as they were
rows_back : (x : Row) (d : Directory) → listed (rows_of d.rows) ≡ d.rows
rows_back x d = ap (λ (e : Directory). e.rows) (same_Some (record d { rows = listed (rows_of d.rows) }) d (child_of-with_child (Some d) x))

-- what a loaded directory shows of itself, and below a name
module _ (R : Repository) (own : OwnFiles) (x : Row) (d : Directory) (holds : child_of x ≡ Some d) where
  pub loaded_node : node_of (table_ground R own) (item_in x) ≡ node_from x.kind None true
  loaded_node = ap (node_of (table_ground R own)) (loaded_item x d holds)

  pub loaded_entry : (n : Name) → entry_in (table_ground R own) (item_in x) n ≡ if_dir x.kind (option_map item_in (find_row n d.rows))
  loaded_entry n =
      ap (λ i. entry_in (table_ground R own) i n) (loaded_item x d holds)
      ∙ ap (λ es. if_dir x.kind (option_map item_in (find_row n es))) (rows_back x d)

-- what a directory alone has, shown alike
pub if_dir_alike : {S : Type 0} (G : Ground S) (k : Kind) (o u : Option (Item S)) → shown_at G u ≡ shown_at G o → shown_at G (if_dir k u) ≡ shown_at G (if_dir k o)
if_dir_alike G kind.File o u same = refl
if_dir_alike G kind.Exec o u same = refl
if_dir_alike G kind.Link o u same = refl
if_dir_alike G kind.Dir o u same = same
