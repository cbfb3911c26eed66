-- A loaded directory with another mark.
use Rattle.std.proofs.Common.{◌≡◌, Bool, Some, inl, inr, refl, ap, sym, ◌∙◌}
use Rattle.std.proofs.lemmas.Option.{same_Some}
use Rattle.eden_model.specs.Trees.{Path}
use Rattle.eden_tree.specs.Directory.{Row, Directory, child_of, with_child}
use Rattle.eden_tree.specs.Rows.{find_row}
use Rattle.eden_tree.specs.Paths.{row_at}
use Rattle.eden_tree.proofs.CallerLemmas.{child_of-with_child}
use Rattle.eden_coupling.specs.Changing.{with_listing}
use Rattle.eden_coupling.specs.Listings.{listing_of, Place, inside}
use Rattle.eden_coupling.proofs.Follows.{place_cases}
use Rattle.eden_coupling.proofs.Chain.{place_at}
use Rattle.eden_coupling.proofs.Loops.{place_on}
use Rattle.eden_coupling.proofs.Steps.{edited_forth}

-- the directory of that mark
abbrev pub remarked : Bool → Directory → Directory
remarked b d = record d { unsaved = b }

-- a loaded directory was there before, with the same listing
pub record Before (x w : Row) (e : Directory) : Type 0 where
  pub row : Row
  pub directory : Directory
  pub place : Place x row
  pub holds : child_of row ≡ Some directory
  pub number : w.number ≡ row.number
  pub origin : w.origin ≡ row.origin
  pub listing : listing_of e ≡ listing_of directory

module _ (x : Row) (p : Path) (y : Row) (d : Directory) (at : row_at p x ≡ Some y) (holds : child_of y ≡ Some d) (b : Bool) where
  remarked_holds : child_of (with_child (Some (remarked b d)) y) ≡ Some (remarked b d)
  remarked_holds = child_of-with_child (Some (remarked b d)) y

  pub before : (w : Row) (e : Directory) → Place (with_listing p (remarked b d) x) w → child_of w ≡ Some e → Before x w e
  before w e r h = elim (edited_forth p (Some (remarked b d)) x y at w e r h) [
    | inl s ↦ elim (place_cases (with_child (Some (remarked b d)) y) w s) [
      | inl is ↦
          (let dir : e ≡ remarked b d = same_Some e (remarked b d) (sym h ∙ ap child_of is ∙ remarked_holds) in
          record {
            row = y;
            directory = d;
            place = place_at p x y at;
            holds = holds;
            number = ap (λ (c : Row). c.number) is;
            origin = ap (λ (c : Row). c.origin) is;
            listing = ap listing_of dir;
          })
      | inr l ↦
          (let dir : l.directory ≡ remarked b d = same_Some l.directory (remarked b d) (sym l.holds ∙ remarked_holds) in
          let there : find_row l.name d.rows ≡ Some l.row = ap (λ (c : Directory). find_row l.name c.rows) (sym dir) ∙ l.there in
          record {
            row = w;
            directory = e;
            place = place_on x l.row w (inside y d l.name l.row (place_at p x y at) holds there) l.place;
            holds = h;
            number = refl;
            origin = refl;
            listing = refl;
          })
    ]
    | inr l ↦ record { row = l.row; directory = l.directory; place = l.place; holds = l.holds; number = l.number; origin = l.origin; listing = l.listing }
  ]
