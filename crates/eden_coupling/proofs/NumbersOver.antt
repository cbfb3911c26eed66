-- A table over files in which the numbers of a loaded directory are saved.
use Rattle.std.proofs.Common.{◌≡◌, ◌≢◌, ℕ, Some, None, sym, ap, subst, ◌∙◌, inl, inr, arith}
use Rattle.std.specs.Option.{option_and_then}
use Rattle.eden_model.specs.declared.id.Id.{Id}
use Rattle.eden_model.specs.declared.kind.Origin.TheVariants as origin
use Rattle.eden_model.specs.Numbers.{AreOnce}
use Rattle.eden_model.specs.Repository.{Repository}
use Rattle.eden_model.specs.Trees.{Path}
use Rattle.eden_overlay_format.specs.declared.header.Identifier.TheVariants as identifier
use Rattle.eden_overlay_format.specs.Stored.{stored_as}
use Rattle.eden_overlay_format.specs.Directory.{directory_body}
use Rattle.eden_overlay_format.specs.Numbers.{numbers_body}
use Rattle.eden_overlay_format.specs.Values.{entries_in}
use Rattle.eden_overlay.specs.Files.{Stored}
use Rattle.eden_overlay.specs.Held.{numbers_of, root_file, saved_at, with_entries, with_numbers}
use Rattle.eden_overlay.proofs.CallerLemmas.{put_apart, same_or_apart, root_has_numbers, entries_have_none}
use Rattle.eden_tree.specs.Directory.{Row, Directory, child_of}
use Rattle.eden_tree.specs.Paths.{row_at}
use Rattle.eden_coupling.specs.Kept.{IsTable, IsKept}
use Rattle.eden_coupling.specs.Listings.{Place, listing_of}
use Rattle.eden_coupling.specs.NumberSaves.{SameElsewhere, IsSameOver, SavedSameOver, BlankRises, BlankSaved, BlankStored}
use Rattle.eden_coupling.specs.Numberings.{in_files, numbers}
use Rattle.eden_coupling.proofs.Chain.{place_at}
use Rattle.eden_coupling.proofs.NumbersSaved.{other_file_kept, other_file_alike}
use Rattle.eden_coupling.proofs.NumbersStored.{save_unseen}

module _ (R : Repository) (F : Stored) (x y : Row) (p : Path) (d : Directory) (id : Id) (next : ℕ) (table : IsTable x next) (kept : IsKept R F x next)
    (at : row_at p x ≡ Some y) (holds : child_of y ≡ Some d) (object : y.origin ≡ origin.Object id) where
  abbrev G : Stored
  G = with_numbers F y.number id (listing_of d)

  place : Place x y
  place = place_at p x y at

  not_own : y.origin ≢ origin.Own
  not_own own = let both : origin.Object id ≡ origin.Own = sym object ∙ own in absurd (cc)

  but : (c : ℕ) → c ≢ y.number → G c ≡ F c
  but c ne = put_apart F y.number c (Some (stored_as identifier.Numbers (numbers_body id (listing_of d)))) (λ is. ne (sym is))

  unrooted : y.number ≡ 1 → root_file G ≡ None
  unrooted one = subst (λ (k : ℕ). root_file (with_numbers F k id (listing_of d)) ≡ None) (sym one) (root_has_numbers F id (listing_of d))

  pub elsewhere : SameElsewhere (in_files F) (in_files G) y.number
  elsewhere c ne = (ap (option_and_then entries_in) (but c ne), λ i. ap (option_and_then (numbers_of i)) (but c ne))

  pub saved_over : AreOnce (numbers (in_files F) x) → IsSameOver R F G x x next
  saved_over once = record {
    kept = other_file_kept R F G x y d next kept place holds not_own unrooted but;
    nodes = other_file_alike R F G x y d next kept place holds but;
    same = λ q. save_unseen (in_files F) (in_files G) x y p d q once at holds elsewhere;
  }

pub saved_same_over : SavedSameOver
saved_same_over R F x y p d id next table kept once at holds object = saved_over R F x y p d id next table kept at holds object once

-- ---- numbers yet to be given

pub blank_rises : BlankRises
blank_rises F next later blank rises k id least = blank k id (omega (arith, least, rises))

pub blank_saved : BlankSaved
blank_saved F next k id es blank below c i least =
    ap (option_and_then (numbers_of i)) (put_apart F k c (Some (stored_as identifier.Numbers (numbers_body id es))) (λ is. absurd (omega (arith, below, least, is)))) ∙ blank c i least

pub blank_stored : BlankStored
blank_stored F next k es blank c i least = elim (same_or_apart k c) [
  | inl is ↦ subst (λ (j : ℕ). saved_at (with_entries F k es) j i ≡ None) is (entries_have_none F k i es)
  | inr ne ↦ ap (option_and_then (numbers_of i)) (put_apart F k c (Some (stored_as identifier.Directory (directory_body es))) ne) ∙ blank c i least
]
