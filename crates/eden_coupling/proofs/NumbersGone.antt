-- A directory of a tree object whose numbers are saved, and that goes.
use Rattle.std.proofs.Common.{◌≡◌, ℕ, true, false, length, Some, None, refl, sym, ap, ◌∙◌, inl, arith}
use Rattle.eden_model.specs.declared.id.Id.{Id}
use Rattle.eden_model.specs.declared.kind.Origin.TheVariants as origin
use Rattle.eden_model.specs.Repository.{Repository}
use Rattle.eden_model.specs.Shown.{if_dir}
use Rattle.eden_model.specs.Trees.{Path}
use Rattle.eden_model.specs.Numbers.{AreOnce}
use Rattle.eden_overlay.specs.Files.{Stored}
use Rattle.eden_overlay.proofs.CallerLemmas.{numbers_held}
use Rattle.eden_overlay.specs.Held.{with_numbers}
use Rattle.eden_tree.specs.Directory.{Row, Directory, child_of, with_child}
use Rattle.eden_tree.specs.Paths.{row_at, edit_row}
use Rattle.eden_coupling.specs.Kept.{IsTable, IsKept}
use Rattle.eden_coupling.specs.Listings.{Place, listing_of}
use Rattle.eden_coupling.specs.Unloading.{HasNoneInside, Goes, none, one_more}
use Rattle.eden_coupling.specs.Numberings.{entries_by, numbers, in_files}
use Rattle.eden_coupling.specs.NumberSaves.{HasStored, GoesStored, IsSameOver, GoneSameOver}
use Rattle.eden_coupling.proofs.Chain.{place_at}
use Rattle.eden_coupling.proofs.Gone.{goes_kept}
use Rattle.eden_coupling.proofs.UnloadsShown.{unloads_alike}
use Rattle.eden_coupling.proofs.NumbersOver.{elsewhere, saved_same_over}
use Rattle.eden_coupling.proofs.NumbersStored.{gone_same}
use Rattle.eden_coupling.proofs.NumbersQuiet.{listing_not_own, none_own}

module _ (R : Repository) (F : Stored) (x y : Row) (p : Path) (d : Directory) (id : Id) (next : ℕ) (table : IsTable x next) (kept : IsKept R F x next)
    (once : AreOnce (numbers (in_files F) x)) (at : row_at p x ≡ Some y) (holds : child_of y ≡ Some d) (object : y.origin ≡ origin.Object id) (bytes : length id.bytes ≡ 20)
    (inside_none : HasNoneInside d) (saved : d.unsaved ≡ false) where
  abbrev G : Stored
  G = with_numbers F y.number id (listing_of d)

  abbrev z : Row
  z = edit_row p (with_child None) x

  place : Place x y
  place = place_at p x y at

  well : IsSameOver R F G x x next
  well = saved_same_over R F x y p d id next table kept once at holds object

  goes : Goes (Unit {0}) 0 0 G x G z
  goes = record {
    path = p;
    row = y;
    directory = d;
    at = at;
    holds = holds;
    old = omega arith;
    none_inside = inside_none;
    gone = refl;
    saved = λ h mark. refl;
    stored = λ h mark. (let both : false ≡ true = sym saved ∙ mark in cc);
  }

  has_stored : HasStored (in_files G) y d
  has_stored =
      let are = table.listed y d place holds in
      let from = kept.agrees y d place holds (λ own. let both : origin.Object id ≡ origin.Own = sym object ∙ own in absurd (cc)) in
      inl (ap (λ k. if_dir k (entries_by (in_files G) y.number y.origin)) (kept.ties.fits.is_dir y d place holds)
      ∙ ap (entries_by (in_files G) y.number) object
      ∙ numbers_held F y.number id (listing_of d) bytes are (none_own (listing_of d) (listing_not_own R y d id object from are)))

  leaves : GoesStored (in_files F) x (in_files G) z
  leaves = record {
    path = p;
    row = y;
    directory = d;
    at = at;
    holds = holds;
    none_inside = inside_none;
    elsewhere = elsewhere R F x y p d id next table kept at holds object;
    stored = has_stored;
    gone = refl;
  }

  pub goes_over : IsSameOver R F G x z next
  goes_over = record {
    kept = goes_kept (Unit {0}) R 0 0 next G x G z tt table well.kept goes;
    nodes = unloads_alike (Unit {0}) R 0 0 next G x G z 1 tt table well.kept (one_more G x 0 G z none goes) ∙ well.nodes;
    same = λ q. gone_same (in_files F) x (in_files G) z q once leaves;
  }

pub gone_same_over : GoneSameOver
gone_same_over R F x y p d id next table kept once at holds object bytes inside_none saved =
    goes_over R F x y p d id next table kept once at holds object bytes inside_none saved
