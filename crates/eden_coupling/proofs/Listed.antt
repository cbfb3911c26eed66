-- A table, and a ground that has for each loaded directory what the directory has.
use Rattle.std.proofs.Common.{◌≡◌, ◌≢◌, ℕ, true, false, List, [], ◌∷◌, Option, Some, None, refl, sym, ap, ◌∙◌, subst}
use Rattle.std.proofs.Math.Path.{fun_ext}
use Rattle.std.specs.Option.{option_map, option_and_then, is_some}
use Rattle.eden_model.specs.declared.kind.Kind.TheVariants as kind
use Rattle.eden_model.specs.declared.kind.Origin.{Origin}
use Rattle.eden_model.specs.declared.kind.Origin.TheVariants as origin
use Rattle.eden_model.specs.Trees.{Name, Path, Tree}
use Rattle.eden_model.specs.Shown.{Items, Ground, node_from, node_of, if_dir, entry_in, shown, shown_at}
use Rattle.eden_model.specs.Repository.{Repository, Source, source_of, OwnFiles, no_files, entries_with, ground_with}
use Rattle.eden_overlay_format.specs.declared.stored_entry.StoredEntry.{StoredEntry}
use Rattle.eden_overlay.specs.Files.{Stored}
use Rattle.eden_overlay.specs.Held.{HoldsEntries, items_of, own_files}
use Rattle.eden_tree.specs.Directory.{Row, Directory, child_of}
use Rattle.eden_tree.specs.Rows.{find_row}
use Rattle.eden_coupling.specs.Listings.{listing_of, Place, top, inside}
use Rattle.eden_coupling.specs.Shown.{TableSource, item_in, table_ground, shown_in, IsFrom}
use Rattle.eden_coupling.specs.Kept.{IsKept}
use Rattle.eden_coupling.specs.ShownLaws.{AreDirectories, ShowsFiles}
use Rattle.eden_coupling.proofs.Rows.{by_origin}
use Rattle.eden_coupling.proofs.Items.{items_listed, item_as, loaded_node, loaded_entry}
use Rattle.eden_coupling.proofs.Alike.{shows_away}

-- the ground has under this item what the directory has
pub record HasRows (H : Ground Source) (from : Row → Origin) (z : Row) (d : Directory) : Type 0 where
  pub items : Items Source
  pub had : H.entries (item_as from z).source ≡ Some items
  pub each : (n : Name) → option_map (item_as from) (find_row n d.rows) ≡ items n

module _ (R : Repository) (F : Stored) (x : Row) (dirs : AreDirectories x) (H : Ground Source) (from : Row → Origin)
    (when_away : (z : Row) → Place x z → child_of z ≡ None → shown_in R F z ≡ shown H (item_as from z))
    (when_loaded : (z : Row) (d : Directory) → Place x z → child_of z ≡ Some d → HasRows H from z d) where
  abbrev table : Ground TableSource
  table = table_ground R (own_files F)

  -- one loaded directory
  module _ (z : Row) (d : Directory) (place : Place x z) (holds : child_of z ≡ Some d) where
    dir : z.kind ≡ kind.Dir
    dir = dirs z d place holds

    rows : HasRows H from z d
    rows = when_loaded z d place holds

    node_alike : node_of table (item_in z) ≡ node_of H (item_as from z)
    node_alike =
        loaded_node R (own_files F) z d holds
        ∙ ap (λ k. node_from k None true) dir
        ∙ sym (ap (λ k. node_from k (H.content (item_as from z).source) true) dir)
        ∙ sym (ap (λ (o : Option (Items Source)). node_from z.kind (H.content (item_as from z).source) (is_some o)) rows.had)

    table_entry : (n : Name) → entry_in table (item_in z) n ≡ option_map item_in (find_row n d.rows)
    table_entry n = loaded_entry R (own_files F) z d holds n ∙ ap (λ k. if_dir k (option_map item_in (find_row n d.rows))) dir

    ground_entry : (n : Name) → entry_in H (item_as from z) n ≡ option_map (item_as from) (find_row n d.rows)
    ground_entry n =
        ap (λ k. if_dir k (option_and_then (λ (es : Items Source). es n) (H.entries (item_as from z).source))) dir
        ∙ ap (option_and_then (λ (es : Items Source). es n)) rows.had
        ∙ sym (rows.each n)

  -- both show the same at every path
  shows_at : (p : Path) (z : Row) → Place x z → shown_in R F z p ≡ shown H (item_as from z) p
  shows_at [] z place = elim (child_of z) as (λ o. child_of z ≡ o → shown_in R F z [] ≡ shown H (item_as from z) []) [
    | None ↦ λ none. ap (λ (T : Tree). T []) (when_away z place none)
    | Some d ↦ λ holds. ap Some (node_alike z d place holds)
  ] refl
  shows_at (n ∷ q) z place = elim (child_of z) as (λ o. child_of z ≡ o → shown_in R F z (n ∷ q) ≡ shown H (item_as from z) (n ∷ q)) [
    | None ↦ λ none. ap (λ (T : Tree). T (n ∷ q)) (when_away z place none)
    | Some d ↦ λ holds.
        ap (λ o. shown_at table o q) (table_entry z d place holds n)
        ∙ elim (find_row n d.rows) as (λ o. find_row n d.rows ≡ o → shown_at table (option_map item_in o) q ≡ shown_at H (option_map (item_as from) o) q) [
          | None ↦ λ absent. refl
          | Some w ↦ λ found. shows_at q w (inside z d n w place holds found)
        ] refl
        ∙ ap (λ o. shown_at H o q) (sym (ground_entry z d place holds n))
  ] refl

  pub shows_listed : (z : Row) → Place x z → shown_in R F z ≡ shown H (item_as from z)
  shows_listed z place = fun_ext (λ p. shows_at p z place)

-- ---- what a directory would be loaded from

-- its own file, which lists it
pub own_from : (R : Repository) (F : Stored) (y : Row) (d : Directory) → y.origin ≡ origin.Own → HoldsEntries F y.number (listing_of d) → IsFrom R (own_files F) y d
own_from R F y d own held = record {
  items = items_of (listing_of d);
  had = ap (λ o. entries_with R (own_files F) (source_of y.number o)) own ∙ ap (option_map items_of) held;
  each = λ n. sym (items_listed (λ z. z.origin) n d.rows);
}

-- what isn't its own is read from no file
other_entries : (R : Repository) (own : OwnFiles) (k : ℕ) (o : Origin) → o ≢ origin.Own → entries_with R own (source_of k o) ≡ entries_with R no_files (source_of k o)
other_entries R own k (origin.Object id) other = refl
other_entries R own k origin.Own other = absurd (other refl)
other_entries R own k origin.Empty other = refl

-- so nothing that is stored changes what it would be loaded from
pub other_from : (R : Repository) (F : Stored) (y : Row) (d : Directory) → y.origin ≢ origin.Own → IsFrom R no_files y d → IsFrom R (own_files F) y d
other_from R F y d other from = record { items = from.items; had = other_entries R (own_files F) y.number y.origin other ∙ from.had; each = from.each }

module _ (R : Repository) (F : Stored) (x : Row) (next : ℕ) (kept : IsKept R F x next) where
  -- a loaded directory that isn't marked unsaved has what it would be loaded from
  pub saved_from : (y : Row) (d : Directory) → Place x y → child_of y ≡ Some d → d.unsaved ≡ false → IsFrom R (own_files F) y d
  saved_from y d place holds saved =
      by_origin y.origin (IsFrom R (own_files F) y d)
      (λ other. other_from R F y d other (kept.agrees y d place holds other))
      (λ own.
      (let s = kept.ties.stored y d place holds own in
      let P : List StoredEntry → Type 0 = λ es. HoldsEntries F y.number es in
      own_from R F y d own (subst P (s.all saved) s.held)))

pub shows_files : ShowsFiles
shows_files R F x next t kept saved =
    shows_listed R F x kept.ties.fits.is_dir (ground_with R (own_files F)) (λ z. z.origin)
    (λ z place none. shows_away R F z none)
    (λ z d place holds.
    (let from = saved_from R F x next kept z d place holds (saved z d place holds) in
    record { items = from.items; had = from.had; each = from.each })) x top
