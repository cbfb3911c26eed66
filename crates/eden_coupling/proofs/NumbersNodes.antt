-- Numbers stand where nodes are shown.
use Rattle.std.proofs.Common.{◌≡◌, ℕ, List, [], ◌∷◌, Option, Some, None, refl, sym, ap, subst, ◌∙◌}
use Rattle.std.proofs.lemmas.Option.{option_and_then_some}
use Rattle.std.specs.Option.{IsSome, option_map, option_and_then}
use Rattle.eden_model.specs.declared.id.Id.{Id}
use Rattle.eden_model.specs.declared.kind.Kind.{Kind}
use Rattle.eden_model.specs.declared.kind.Kind.TheVariants as kind
use Rattle.eden_model.specs.declared.kind.Origin.{Origin}
use Rattle.eden_model.specs.declared.kind.Origin.TheVariants as origin
use Rattle.eden_model.specs.declared.tree_entry.TreeEntry.{TreeEntry}
use Rattle.eden_model.specs.Named.{named}
use Rattle.eden_model.specs.Repository.{Repository, Source, source_of, entries_with}
use Rattle.eden_model.specs.Shown.{Item, Items, Ground, if_dir, entry_in, shown, shown_at, map_item, map_items}
use Rattle.eden_model.specs.Trees.{Name, Path}
use Rattle.eden_model.specs.Repository as repository
use Rattle.eden_overlay_format.specs.declared.stored_entry.StoredEntry.{StoredEntry}
use Rattle.eden_overlay.specs.Files.{Stored}
use Rattle.eden_overlay.specs.Held.{item_of, items_of, own_files}
use Rattle.eden_tree.specs.Directory.{Row, Directory, child_of}
use Rattle.eden_tree.specs.Rows.{find_row}
use Rattle.eden_coupling.specs.Listings.{top}
use Rattle.eden_coupling.specs.Shown.{TableSource, Away, item_in, item_away, table_ground}
use Rattle.eden_coupling.specs.Numberings.{NumberFiles, number_files, entries_by, stored_below, row_of, row_named, entry_below, numbers, entry_at}
use Rattle.eden_coupling.specs.NumberNodes.{ListsTree, ListTrees, NumbersAreNodes}
use Rattle.eden_coupling.specs.ShownLaws.{AreDirectories}
use Rattle.eden_coupling.proofs.Items.{unloaded_item, loaded_entry}
use Rattle.eden_coupling.proofs.NumbersRead.{below_loaded, below_away}
use Rattle.eden_coupling.proofs.Chain.{root_loaded}
use Rattle.eden_coupling.proofs.Follows.{below_top}

named_item : (o : Option StoredEntry) → option_map item_away (option_map row_of o) ≡ option_map item_of o
named_item None = refl
named_item (Some e) = refl

abbrev tree_items : List TreeEntry → Items Source
tree_items es = repository.items_of es

module _ (R : Repository) (F : Stored) (saved : ℕ → Id → Option (List StoredEntry)) where
  abbrev M : NumberFiles
  M = number_files F saved

  abbrev table : Ground TableSource
  table = table_ground R (own_files F)

  -- what an entry has stored, the repository and the files have
  had_by : (k : ℕ) (o : Origin) (es : List StoredEntry) (n : Name) (w : Row) → ((id : Id) → o ≡ origin.Object id → saved k id ≡ Some es → ListsTree R id es)
      → entries_by M k o ≡ Some es → row_named n es ≡ Some w
      → option_and_then (λ (items : Items Source). items n) (entries_with R (own_files F) (source_of k o)) ≡ Some (item_away w)
  had_by k (origin.Object id) es n w lists had found =
      let listed = lists id refl had in
      ap (λ o. option_and_then (λ (items : Items Source). items n) (option_map tree_items o)) listed.1 ∙ sym (listed.2 n) ∙ ap (option_map item_away) found
  had_by k origin.Own es n w lists had found =
      ap (λ o. option_and_then (λ (items : Items Source). items n) (option_map items_of o)) had
      ∙ sym (named_item (named (λ (e : StoredEntry). e.name) n es)) ∙ ap (option_map item_away) found
  had_by k origin.Empty es n w lists had found = cc

  away_items : (o : Option (Items Source)) (n : Name) (w : Row) → option_and_then (λ (items : Items Source). items n) o ≡ Some (item_away w)
      → option_and_then (λ (items : Items TableSource). items n) (option_map (map_items Away) o) ≡ Some (map_item Away (item_away w))
  away_items None n w e = cc
  away_items (Some items) n w e = ap (option_map (map_item Away)) e

  away_by : (k : Kind) (o : Option (List StoredEntry)) (j : Option (Item TableSource)) (n : Name) (w : Row) (v : Item TableSource)
      → option_and_then (row_named n) (if_dir k o) ≡ Some w → ((es : List StoredEntry) → o ≡ Some es → row_named n es ≡ Some w → j ≡ Some v) → if_dir k j ≡ Some v
  away_by kind.File o j n w v h each = cc
  away_by kind.Exec o j n w v h each = cc
  away_by kind.Link o j n w v h each = cc
  away_by kind.Dir o j n w v h each = option_and_then_some (row_named n) o w h (λ es had found. each es had found)

  -- an entry that is stored holds no loaded directory
  row_away : (n : Name) (es : List StoredEntry) (w : Row) → row_named n es ≡ Some w → child_of w ≡ None
  row_away n es w found = away_of (named (λ (e : StoredEntry). e.name) n es) w found
    where
      away_of : (o : Option StoredEntry) (w : Row) → option_map row_of o ≡ Some w → child_of w ≡ None
      away_of None w h = cc
      away_of (Some e) w h = let is : row_of e ≡ w = cc in ap child_of (sym is)

  -- an entry below, as it is shown
  record IsShownBelow (z : Row) (n : Name) (w : Row) : Type 0 where
    item : entry_in table (item_in z) n ≡ Some (item_in w)
    dirs : AreDirectories w

  unloaded_dirs : (w : Row) → child_of w ≡ None → AreDirectories w
  unloaded_dirs w none y d q holds = absurd (root_loaded w y d q holds none)

  below_shown : (z : Row) (n : Name) (w : Row) (o : Option Directory) → child_of z ≡ o → AreDirectories z → ListTrees R M z → entry_below M z n ≡ Some w → IsShownBelow z n w
  below_shown z n w (Some d) holds dirs trees there =
      let found : find_row n d.rows ≡ Some w = sym (below_loaded M z d n holds) ∙ there in
      record {
        item = loaded_entry R (own_files F) z d holds n ∙ ap (λ k. if_dir k (option_map item_in (find_row n d.rows))) (dirs z d top holds) ∙ ap (option_map item_in) found;
        dirs = λ y c q loaded. dirs y c (below_top z w y d n holds found q) loaded;
      }
  below_shown z n w None none dirs trees there =
      let stored : option_and_then (row_named n) (stored_below M z) ≡ Some w = sym (below_away M z n none) ∙ there in
      let away : child_of w ≡ None = option_and_then_some (row_named n) (stored_below M z) w stored (λ es had found. row_away n es w found) in
      record {
        item =
            ap (λ i. entry_in table i n) (unloaded_item z none)
            ∙ away_by z.kind (entries_by M z.number z.origin) _ n w (map_item Away (item_away w)) stored
            (λ es had found. away_items (entries_with R (own_files F) (source_of z.number z.origin)) n w (had_by z.number z.origin es n w (λ id is kept. trees [] z id es refl none is kept) had found))
            ∙ ap (λ (i : Item TableSource). Some i) (sym (unloaded_item w away));
        dirs = unloaded_dirs w away;
      }

  at_path : (z : Row) (p : Path) (n : ℕ) → AreDirectories z → ListTrees R M z → numbers M z p ≡ Some n → IsSome (shown table (item_in z) p)
  at_path z [] n dirs trees h = refl
  at_path z (m ∷ p) n dirs trees h = option_and_then_some (λ w. numbers M w p) (entry_below M z m) n h (λ w there rest.
      (let b = below_shown z m w (child_of z) refl dirs trees there in
      subst (λ (o : Option (Item TableSource)). IsSome (shown_at table o p)) (sym b.item)
      (at_path w p n b.dirs (λ q v id es at away is kept. trees (m ∷ q) v id es (ap (option_and_then (λ u. entry_at M u q)) there ∙ at) away is kept) rest)))

pub numbers_are_nodes : NumbersAreNodes
numbers_are_nodes R F saved x p n dirs trees h = at_path R F saved x p n dirs trees h
