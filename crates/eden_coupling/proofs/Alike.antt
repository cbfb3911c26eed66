-- What a table shows once the entry at a path is another.
use Rattle.std.proofs.Common.{◌≡◌, ◌≢◌, ℕ, true, false, cond, [], ◌∷◌, ◌++◌, Option, Some, None, refl, sym, ap, ◌∙◌, subst}
use Rattle.std.proofs.Math.Path.{fun_ext}
use Rattle.std.proofs.lemmas.Option.{same_Some, option_and_then_some}
use Rattle.std.specs.Str.{bytes_eq}
use Rattle.std.specs.Option.{option_map, option_and_then, is_some}
use Rattle.eden_model.specs.declared.kind.Kind.TheVariants as kind
use Rattle.eden_model.specs.Trees.{Name, Path, Tree, graft}
use Rattle.eden_model.specs.Shown.{Item, Items, Ground, node_from, node_of, if_dir, entry_in, shown, shown_at, map_item, map_items}
use Rattle.eden_model.specs.Repository.{Repository, Source, source_of, content_with, ground_with}
use Rattle.eden_model.proofs.CallerLemmas.{follows_sources, grafts_entry}
use Rattle.eden_overlay.specs.Files.{Stored}
use Rattle.eden_overlay.specs.Held.{own_files}
use Rattle.eden_tree.specs.Directory.{Row, Directory, child_of, with_child}
use Rattle.eden_tree.specs.Rows.{find_row, set_row}
use Rattle.eden_tree.specs.Paths.{row_at, edit_row, stamped_along}
use Rattle.eden_tree.proofs.CallerLemmas.{same-≡, same-≢, same-refl, child_of-with_child, find_row-set_row, steps_back}
use Rattle.eden_tree.proofs.CallerLemmas.{stamped_along-unloaded, stamped_along-end, stamped_along-absent, stamped_along-found}
use Rattle.eden_coupling.specs.Listings.{Place, top, inside}
use Rattle.eden_coupling.specs.Shown.{TableSource, Away, item_in, item_away, table_ground, shown_in, IsFrom}
use Rattle.eden_coupling.specs.ShownLaws.{ShowsAway, LoadsAlike, StampsAlike, AreDirectories, ChangesGraft, shown_from}
use Rattle.eden_coupling.specs.Unloading.{HasNoneInside}
use Rattle.eden_coupling.proofs.Items.{unloaded_item, loaded_node, loaded_entry, if_dir_alike}

-- of the same node, and with the same below each name, the same is shown
same_below : {S : Type 0} (G : Ground S) (i j : Item S) → node_of G j ≡ node_of G i
    → ((n : Name) → shown_at G (entry_in G j n) ≡ shown_at G (entry_in G i n)) → shown G j ≡ shown G i
same_below G i j node below = fun_ext at_path
  where
    at_path : (p : Path) → shown G j p ≡ shown G i p
    at_path [] = ap Some node
    at_path (n ∷ p) = ap (λ (T : Tree). T p) (below n)

-- ---- an entry that isn't loaded

pub shows_away : ShowsAway
shows_away R F x none =
    ap (shown (table_ground R (own_files F))) (unloaded_item x none)
    ∙ follows_sources Source TableSource Away (ground_with R (own_files F)) (table_ground R (own_files F)) (record { entries = λ s. refl; content = λ s. refl }) (item_away x)

-- an entry of a directory that holds no loaded one
unloaded_entry : (d : Directory) → HasNoneInside d → (n : Name) (o : Option Row) → find_row n d.rows ≡ o → option_map item_in o ≡ option_map (map_item Away) (option_map item_away o)
unloaded_entry d inside_none n None found = refl
unloaded_entry d inside_none n (Some z) found = ap Some (unloaded_item z (inside_none n z found))

module _ (R : Repository) (F : Stored) where
  abbrev table : Ground TableSource
  table = table_ground R (own_files F)

  -- ---- one directory in the place of another

  module _ (x : Row) (d e : Directory) (holds : child_of x ≡ Some d) where
    new_node : node_of table (item_in (with_child (Some e) x)) ≡ node_of table (item_in x)
    new_node = loaded_node R (own_files F) (with_child (Some e) x) e (child_of-with_child (Some e) x) ∙ sym (loaded_node R (own_files F) x d holds)

    new_entry : (n : Name) → entry_in table (item_in (with_child (Some e) x)) n ≡ if_dir x.kind (option_map item_in (find_row n e.rows))
    new_entry n = loaded_entry R (own_files F) (with_child (Some e) x) e (child_of-with_child (Some e) x) n

    -- with what shows the same below a name, the same is shown there
    new_shown : (n : Name) → shown_from R F (find_row n e.rows) ≡ shown_from R F (find_row n d.rows)
        → shown_at table (entry_in table (item_in (with_child (Some e) x)) n) ≡ shown_at table (entry_in table (item_in x) n)
    new_shown n same =
        ap (shown_at table) (new_entry n)
        ∙ if_dir_alike table x.kind (option_map item_in (find_row n d.rows)) (option_map item_in (find_row n e.rows)) same
        ∙ ap (shown_at table) (sym (loaded_entry R (own_files F) x d holds n))

    pub directories_alike : ((n : Name) → shown_from R F (find_row n e.rows) ≡ shown_from R F (find_row n d.rows)) → shown_in R F (with_child (Some e) x) ≡ shown_in R F x
    directories_alike same = same_below table (item_in x) (item_in (with_child (Some e) x)) new_node (λ n. new_shown n (same n))

  -- a row set to what shows the same
  set_alike : (n : Name) (z v : Row) (d : Directory) → find_row n d.rows ≡ Some z → shown_in R F v ≡ shown_in R F z
      → (m : Name) → shown_from R F (find_row m (set_row n v d.rows)) ≡ shown_from R F (find_row m d.rows)
  set_alike n z v d found same m =
      ap (shown_from R F) (find_row-set_row m n v z d.rows found)
      ∙ elim (bytes_eq m n) as (λ b. bytes_eq m n ≡ b → shown_from R F (cond b (Some v) (find_row m d.rows)) ≡ shown_from R F (find_row m d.rows)) [
        | true ↦ λ s. same ∙ ap (shown_from R F) (sym (ap (λ (k : Name). find_row k d.rows) (same-≡ m n s) ∙ found))
        | false ↦ λ s. refl
      ] refl

  -- ---- along a path

  pub edited_alike : (p : Path) (f : Row → Row) (x y : Row) → row_at p x ≡ Some y → shown_in R F (f y) ≡ shown_in R F y
      → shown_in R F (edit_row p f x) ≡ shown_in R F x
  edited_alike [] f x y at same = subst (λ (v : Row). shown_in R F (f v) ≡ shown_in R F v) (sym (same_Some x y at)) same
  edited_alike (n ∷ p) f x y at same =
      option_and_then_some (λ (d : Directory). option_and_then (row_at p) (find_row n d.rows)) (child_of x) y at (λ d holds rest.
      option_and_then_some (row_at p) (find_row n d.rows) y rest (λ z found below.
      ap (shown_in R F) (sym (steps_back n p f x z d holds found))
      ∙ directories_alike x d (record d { rows = set_row n (edit_row p f z) d.rows }) holds (set_alike n z (edit_row p f z) d found (edited_alike p f z y below same))))

  -- stamps
  stamped_alike : (p : Path) (clock : ℕ) (x : Row) → shown_in R F (stamped_along p clock x) ≡ shown_in R F x
  stamped_alike [] clock x = elim (child_of x) as (λ o. child_of x ≡ o → shown_in R F (stamped_along [] clock x) ≡ shown_in R F x) [
    | None ↦ λ none. ap (shown_in R F) (stamped_along-unloaded clock x [] none)
    | Some d ↦ λ holds. ap (shown_in R F) (stamped_along-end clock x d holds) ∙ directories_alike x d (record d { stamp = clock }) holds (λ m. refl)
  ] refl
  stamped_alike (n ∷ p) clock x = elim (child_of x) as (λ o. child_of x ≡ o → shown_in R F (stamped_along (n ∷ p) clock x) ≡ shown_in R F x) [
    | None ↦ λ none. ap (shown_in R F) (stamped_along-unloaded clock x (n ∷ p) none)
    | Some d ↦ λ holds. elim (find_row n d.rows) as (λ o. find_row n d.rows ≡ o → shown_in R F (stamped_along (n ∷ p) clock x) ≡ shown_in R F x) [
      | None ↦ λ absent. ap (shown_in R F) (stamped_along-absent clock x n p d holds absent) ∙ directories_alike x d (record d { stamp = clock }) holds (λ m. refl)
      | Some z ↦ λ found.
          ap (shown_in R F) (stamped_along-found clock x n p d holds z found)
          ∙ directories_alike x d (record d { stamp = clock; rows = set_row n (stamped_along p clock z) d.rows }) holds (set_alike n z (stamped_along p clock z) d found (stamped_alike p clock z))
    ] refl
  ] refl

  -- ---- a directory that is loaded

  module _ (y : Row) (d : Directory) (none : child_of y ≡ None) (dir : y.kind ≡ kind.Dir) (inside_none : HasNoneInside d) (from : IsFrom R (own_files F) y d) where
    abbrev its_source : Source
    its_source = source_of y.number y.origin

    loaded_alike : shown_in R F (with_child (Some d) y) ≡ shown_in R F y
    loaded_alike = same_below table (item_in y) (item_in (with_child (Some d) y)) node (λ n. ap (shown_at table) (entry n))
      where
        node : node_of table (item_in (with_child (Some d) y)) ≡ node_of table (item_in y)
        node =
            loaded_node R (own_files F) (with_child (Some d) y) d (child_of-with_child (Some d) y)
            ∙ ap (λ k. node_from k None true) dir
            ∙ sym (ap (λ k. node_from k (content_with R (own_files F) its_source) true) dir)
            ∙ sym (ap (λ (o : Option (Items Source)). node_from y.kind (content_with R (own_files F) its_source) (is_some (option_map (map_items Away) o))) from.had)
            ∙ ap (node_of table) (sym (unloaded_item y none))

        entry : (n : Name) → entry_in table (item_in (with_child (Some d) y)) n ≡ entry_in table (item_in y) n
        entry n =
            loaded_entry R (own_files F) (with_child (Some d) y) d (child_of-with_child (Some d) y) n
            ∙ ap (if_dir y.kind) (unloaded_entry d inside_none n (find_row n d.rows) refl ∙ ap (option_map (map_item Away)) (from.each n))
            ∙ sym (ap (λ (o : Option (Items Source)). if_dir y.kind (option_and_then (λ (es : Items TableSource). es n) (option_map (map_items Away) o))) from.had)
            ∙ ap (λ i. entry_in table i n) (sym (unloaded_item y none))

  -- ---- an entry in the place of another

  -- in the directory of an entry
  graft_here : (n : Name) (o : Option Row) (x : Row) (d e : Directory) → child_of x ≡ Some d → x.kind ≡ kind.Dir
      → ((m : Name) → m ≢ n → find_row m e.rows ≡ find_row m d.rows) → find_row n e.rows ≡ o
      → shown_in R F (with_child (Some e) x) ≡ graft (n ∷ []) (shown_from R F o) (shown_in R F x)
  graft_here n o x d e holds dir others here =
      grafts_entry TableSource TableSource table table (item_in x) (item_in (with_child (Some e) x)) n [] (shown_from R F o)
      (new_node x d e holds)
      (λ m ne. new_shown x d e holds m (ap (shown_from R F) (others m ne)))
      (ap (shown_at table) (new_entry x d e holds n ∙ ap (λ k. if_dir k (option_map item_in (find_row n e.rows))) dir ∙ ap (option_map item_in) here))

  -- below an entry of it
  graft_below : (n : Name) (front : Path) (X : Tree) (x z v : Row) (d : Directory) → child_of x ≡ Some d → x.kind ≡ kind.Dir → find_row n d.rows ≡ Some z
      → shown_in R F v ≡ graft front X (shown_in R F z)
      → shown_in R F (with_child (Some (record d { rows = set_row n v d.rows })) x) ≡ graft (n ∷ front) X (shown_in R F x)
  graft_below n front X x z v d holds dir found same =
      grafts_entry TableSource TableSource table table (item_in x) (item_in (with_child (Some e) x)) n front X
      (new_node x d e holds)
      (λ m ne. new_shown x d e holds m (ap (shown_from R F) (set m ∙ ap (λ b. cond b (Some v) (find_row m d.rows)) (same-≢ m n ne))))
      (ap (shown_at table) now ∙ same ∙ ap (λ (o : Option (Item TableSource)). graft front X (shown_at table o)) (sym before))
    where
      e : Directory
      e = record d { rows = set_row n v d.rows }

      set : (m : Name) → find_row m (set_row n v d.rows) ≡ cond (bytes_eq m n) (Some v) (find_row m d.rows)
      set m = find_row-set_row m n v z d.rows found

      now : entry_in table (item_in (with_child (Some e) x)) n ≡ Some (item_in v)
      now =
          new_entry x d e holds n
          ∙ ap (λ k. if_dir k (option_map item_in (find_row n e.rows))) dir
          ∙ ap (option_map item_in) (set n ∙ ap (λ b. cond b (Some v) (find_row n d.rows)) (same-refl n))

      before : entry_in table (item_in x) n ≡ Some (item_in z)
      before =
          loaded_entry R (own_files F) x d holds n
          ∙ ap (λ k. if_dir k (option_map item_in (find_row n d.rows))) dir
          ∙ ap (option_map item_in) found

  -- along a path, from an entry that stands in a table of directories
  module _ (r : Row) (dirs : AreDirectories r) (n : Name) (o : Option Row) (y : Row) (d e : Directory) (holds : child_of y ≡ Some d)
      (others : (m : Name) → m ≢ n → find_row m e.rows ≡ find_row m d.rows) (here : find_row n e.rows ≡ o) where
    graft_along : (p : Path) (x : Row) → Place r x → row_at p x ≡ Some y
        → shown_in R F (edit_row p (with_child (Some e)) x) ≡ graft (p ++ n ∷ []) (shown_from R F o) (shown_in R F x)
    graft_along [] x place at =
        let loaded : child_of x ≡ Some d = ap child_of (same_Some x y at) ∙ holds in
        graft_here n o x d e loaded (dirs x d place loaded) others here
    graft_along (m ∷ p) x place at =
        option_and_then_some (λ (c : Directory). option_and_then (row_at p) (find_row m c.rows)) (child_of x) y at (λ c loaded rest.
        option_and_then_some (row_at p) (find_row m c.rows) y rest (λ z found below.
        ap (shown_in R F) (sym (steps_back m p (with_child (Some e)) x z c loaded found))
        ∙ graft_below m (p ++ n ∷ []) (shown_from R F o) x z (edit_row p (with_child (Some e)) z) c loaded (dirs x c place loaded) found (graft_along p z (inside x c m z place loaded found) below)))

-- ---- the laws

pub stamps_alike : StampsAlike
stamps_alike R F p clock x = stamped_alike R F p clock x

pub loads_alike : LoadsAlike
loads_alike R F p x y d at none dir inside_none from = edited_alike R F p (with_child (Some d)) x y at (loaded_alike R F y d none dir inside_none from)

pub changes_graft : ChangesGraft
changes_graft R F p n o x y d e dirs at holds others here = graft_along R F x dirs n o y d e holds others here p x top at
