-- What a table shows at and below the entries in memory.
use Rattle.std.proofs.Common.{◌≡◌, [], ◌∷◌, ◌++◌, Some, ap, ◌∙◌}
use Rattle.std.proofs.lemmas.Option.{same_Some}
use Rattle.std.specs.Option.{option_map, option_and_then}
use Rattle.eden_model.specs.declared.kind.Kind.TheVariants as kind
use Rattle.eden_model.specs.Trees.{Name, Path}
use Rattle.eden_model.specs.Shown.{Ground, if_dir, shown}
use Rattle.eden_model.specs.Repository.{Repository}
use Rattle.eden_overlay.specs.Files.{Stored}
use Rattle.eden_overlay.specs.Held.{own_files}
use Rattle.eden_tree.specs.Directory.{Row, Directory, child_of}
use Rattle.eden_tree.specs.Rows.{find_row}
use Rattle.eden_tree.specs.Paths.{row_at}
use Rattle.eden_coupling.specs.Listings.{top}
use Rattle.eden_coupling.specs.Shown.{TableSource, item_in, table_ground, shown_in}
use Rattle.eden_coupling.specs.ShownLaws.{AreDirectories, ShowsBelow, ShowsAbsent, shown_from}
use Rattle.eden_coupling.proofs.Rows.{and_then_some}
use Rattle.eden_coupling.proofs.Follows.{below_top}
use Rattle.eden_coupling.proofs.Chain.{place_at}
use Rattle.eden_coupling.proofs.Items.{loaded_entry}

module _ (R : Repository) (F : Stored) where
  abbrev table : Ground TableSource
  table = table_ground R (own_files F)

  -- below a name of a loaded directory
  below_name : (x : Row) (d : Directory) (n : Name) (q : Path) → x.kind ≡ kind.Dir → child_of x ≡ Some d → shown_in R F x (n ∷ q) ≡ shown_from R F (find_row n d.rows) q
  below_name x d n q dir holds =
      ap (option_and_then (λ j. shown table j q))
      (loaded_entry R (own_files F) x d holds n ∙ ap (λ k. if_dir k (option_map item_in (find_row n d.rows))) dir)

  below_path : (p q : Path) (x y : Row) → AreDirectories x → row_at p x ≡ Some y → shown_in R F x (p ++ q) ≡ shown_in R F y q
  below_path [] q x y dirs at = ap (λ (a : Row). shown_in R F a q) (same_Some x y at)
  below_path (n ∷ p) q x y dirs at =
      let one = and_then_some (λ (a : Directory). option_and_then (row_at p) (find_row n a.rows)) (child_of x) y at in
      let two = and_then_some (row_at p) (find_row n one.0.rows) y one.1.1 in
      below_name x one.0 n (p ++ q) (dirs x one.0 top one.1.0) one.1.0
      ∙ ap (λ o. shown_from R F o (p ++ q)) two.1.0
      ∙ below_path p q two.0 y (λ w e place h. dirs w e (below_top x two.0 w one.0 n one.1.0 two.1.0 place) h) two.1.1

pub shows_below : ShowsBelow
shows_below R F p q x y dirs at = below_path R F p q x y dirs at

pub shows_absent : ShowsAbsent
shows_absent R F p n q x y d dirs at holds none =
    below_path R F p (n ∷ q) x y dirs at
    ∙ below_name R F y d n q (dirs y d (place_at p x y at) holds) holds
    ∙ ap (λ o. shown_from R F o q) none
