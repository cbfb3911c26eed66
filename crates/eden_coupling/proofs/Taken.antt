-- A loaded directory that isn't its own, taken out while its entry moves: it may be put back there, or where it was.
use Rattle.std.proofs.Common.{◌≡◌, ◌≢◌, ℕ, false, List, [], ◌∷◌, ◌++◌, Some, None, Contains, refl, sym, subst, inl, inr, arith}
use Rattle.eden_model.specs.declared.kind.Origin.TheVariants as origin
use Rattle.eden_model.specs.Repository.{Repository, no_files}
use Rattle.eden_model.specs.Trees.{Name, Path}
use Rattle.eden_overlay_format.specs.declared.stored_entry.StoredEntry.{StoredEntry}
use Rattle.eden_overlay_format.specs.Directory.{AreStorable}
use Rattle.eden_overlay.specs.Files.{Stored}
use Rattle.eden_overlay.specs.Held.{without}
use Rattle.eden_overlay.specs.Soundness.{Names, IsLive}
use Rattle.eden_tree.specs.Directory.{Row, Directory, child_of, with_child}
use Rattle.eden_tree.specs.Rows.{find_row}
use Rattle.eden_tree.specs.Paths.{row_at, edit_row}
use Rattle.eden_tree.proofs.CallerLemmas.{child_of-with_child}
use Rattle.eden_coupling.specs.Changing.{MayMove, files_left, files_moved, marked_source, moved_in, with_listing}
use Rattle.eden_coupling.specs.Kept.{IsTable, IsKept}
use Rattle.eden_coupling.specs.Listings.{full_listing, listing_of, Place}
use Rattle.eden_coupling.specs.Shown.{IsFrom}
use Rattle.eden_coupling.specs.Unloading.{HasNoneInside}
use Rattle.eden_coupling.proofs.Chain.{place_at}
use Rattle.eden_coupling.proofs.Fine.{from_alike}
use Rattle.eden_coupling.proofs.Going.{bare_listing}
use Rattle.eden_coupling.proofs.Gone.{gone_free}
use Rattle.eden_coupling.proofs.Grown.{AreFree, AreFresh}
use Rattle.eden_coupling.proofs.Loaded.{other_loaded_kept}
use Rattle.eden_coupling.proofs.Marked.{marked_free, marked_table}
use Rattle.eden_coupling.proofs.Moving.{moved_free, moved_table, replaced_free}
use Rattle.eden_coupling.proofs.Objects.{none_own}
use Rattle.eden_coupling.proofs.Places.{place_counts}
use Rattle.eden_coupling.proofs.Rows.{stored_rising}
use Rattle.eden_coupling.proofs.Steps.{Above, above}

-- a path that ends in a name isn't empty
some_path : (p : Path) (n : Name) → p ++ n ∷ [] ≡ [] → ⊥
some_path [] n is = cc
some_path (a ∷ p) n is = cc

-- a loaded directory that is saved and isn't its own, with none loaded inside
pub record IsLeaf (x : Row) (p : Path) (n : Name) : Type 0 where
  pub row : Row
  pub directory : Directory
  pub at : row_at (p ++ n ∷ []) x ≡ Some row
  pub holds : child_of row ≡ Some directory
  pub other : row.origin ≢ origin.Own
  pub saved : directory.unsaved ≡ false
  pub none_inside : HasNoneInside directory

module _ (R : Repository) (F : Stored) (x : Row) (next : ℕ) (table : IsTable x next) (k : IsKept R F x next) (p : Path) (n : Name) (l : IsLeaf x p n) where
  abbrev y : Row
  y = l.row

  abbrev d : Directory
  d = l.directory

  abbrev from : Path
  from = p ++ n ∷ []

  -- the table without it, and its entry there
  abbrev taken : Row
  taken = edit_row from (with_child None) x

  abbrev left : Row
  left = with_child None y

  place : Place x y
  place = place_at from x y l.at

  are : AreStorable (listing_of d)
  are = table.listed y d place l.holds

  full_is : full_listing d ≡ listing_of d
  full_is = bare_listing d (stored_rising d are) l.none_inside

  live : IsLive k.full y.number
  live = place_counts k.full x next k.ties.fits y d place l.holds

  names : (f : StoredEntry) → Contains (listing_of d) f → Names k.full y.number f
  names f there = record {
    entries = full_listing d;
    held = k.ties.fits.held y d place l.holds;
    there = (let P : List StoredEntry → Type 0 = λ es. Contains es f in subst P (sym full_is) there);
  }

  had_from : IsFrom R no_files y d
  had_from = k.agrees y d place l.holds l.other

  fresh : (full : Stored) → AreFree full (listing_of d) → AreFresh full next (listing_of d)
  fresh full free = record {
    quiet = none_own R y d are l.other had_from;
    free = free;
    most = λ f there. k.ties.fits.below y.number f live (names f there);
    distinct = λ e f in_e in_f same. (k.ties.fits.sound.once y.number y.number e f live live (names e in_e) (names f in_f) same).1;
  }

  -- it may be put where its entry is, over files that name none of its numbers
  put : (G : Stored) (u : Row) → IsTable u next → (z : IsKept R G u next) × AreFree z.full (listing_of d) → (q : Path) → row_at q u ≡ Some left
      → IsKept R G (with_listing q d u) next
  put G u table_u z q at =
      other_loaded_kept R G u next table_u z.0 q left d at (k.ties.fits.is_dir y d place l.holds) (child_of-with_child None y) l.saved l.none_inside are next l.other
      (fresh z.0.full z.1) (from_alike R no_files left y d d refl refl refl had_from) (omega arith)

  up : Above from x y
  up = elim (above from x y l.at) [ inl is ↦ absurd (some_path p n is.0) | inr a ↦ a ]

  gone : (z : IsKept R F taken next) × AreFree z.full (listing_of d)
  gone =
      let g = gone_free R F x next table k from y d l.at l.holds l.none_inside l.other up in
      (g.0, (let P : List StoredEntry → Type 0 = λ es. AreFree g.0.full es in subst P full_is g.1))

  module _ (table_taken : IsTable taken next) where
    -- nothing was stored
    pub back_kept : row_at from taken ≡ Some left → IsKept R F (with_listing from d taken) next
    back_kept at = put F taken table_taken gone from at

    module _ (q : Path) (m : Name) (may : MayMove taken p n q m) where
      -- the first directory was stored without the entry
      pub back_marked : row_at from (marked_source taken p n q m may) ≡ Some left
          → IsKept R (files_left taken p n q m may F) (with_listing from d (marked_source taken p n q m may)) next
      back_marked at =
          put (files_left taken p n q m may F) (marked_source taken p n q m may) (marked_table taken next p n q m table_taken may)
          (marked_free R F taken next p n q m gone.0 may (listing_of d) gone.1) from at

      -- both were stored
      module _ (to : Path) (at : row_at to (moved_in taken p n q m may) ≡ Some left) where
        pub went_kept : IsKept R (files_moved taken p n q m may F) (with_listing to d (moved_in taken p n q m may)) next
        went_kept =
            put (files_moved taken p n q m may F) (moved_in taken p n q m may) (moved_table taken next p n q m table_taken may)
            (moved_free R F taken next p n q m table_taken gone.0 may (listing_of d) gone.1) to at

        -- .. and the file of what was replaced was removed
        pub went_cleared : (w : Row) → find_row m may.target.rows ≡ Some w
            → IsKept R (without (files_moved taken p n q m may F) w.number) (with_listing to d (moved_in taken p n q m may)) next
        went_cleared w stood =
            put (without (files_moved taken p n q m may F) w.number) (moved_in taken p n q m may) (moved_table taken next p n q m table_taken may)
            (replaced_free R F taken next p n q m table_taken gone.0 may w stood (listing_of d) gone.1) to at
