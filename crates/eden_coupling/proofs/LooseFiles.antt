-- Files that nothing loaded or live has as its own.
use Rattle.std.proofs.Common.{◌≡◌, ◌≤◌, ℕ, None, sym, ◌∙◌, subst, arith}
use Rattle.eden_model.specs.Repository.{Repository}
use Rattle.eden_overlay.specs.Files.{Stored, with_file}
use Rattle.eden_overlay.specs.Held.{without}
use Rattle.eden_overlay.specs.Laws.{IsStray, IsUnnamed}
use Rattle.eden_overlay.proofs.CallerLemmas.{put_apart, numbers_from_two}
use Rattle.eden_tree.specs.Directory.{Row}
use Rattle.eden_coupling.specs.Kept.{IsTable, IsKept}
use Rattle.eden_coupling.specs.Listings.{full_entry, top, inside}
use Rattle.eden_coupling.specs.Loose.{IsLoose, the_state, never_given, other_entry, LooseSound, LooseKept, LooseAlike}
use Rattle.eden_coupling.specs.Shown.{shown_in}
use Rattle.eden_coupling.specs.Ties.{IsAway, Ties}
use Rattle.eden_coupling.proofs.Backed.{backs_stray, backed_alike}
use Rattle.eden_coupling.proofs.Chain.{place_at}
use Rattle.eden_coupling.proofs.Moved.{new_file_tied}
use Rattle.eden_coupling.proofs.Numbers.{is_stray, stray_away}
use Rattle.eden_coupling.proofs.Places.{named_full, place_counts}
use Rattle.eden_coupling.proofs.ShownFull.{Backs, backs_tied}
use Rattle.eden_coupling.proofs.Sound.{ties_sound}

module _ (R : Repository) (F : Stored) (x : Row) (next : ℕ) (table : IsTable x next) (k : IsKept R F x next) where
  stray : (j : ℕ) → IsLoose x next j → IsStray k.full j
  stray j (the_state zero) = record {
    not_root = λ is. omega (arith, zero, is);
    not_own = λ c e r n own is. (let least = numbers_from_two k.full c e n in omega (arith, least, zero, is));
  }
  stray j (never_given after) = record {
    not_root = λ is. (let least = table.least in omega (arith, least, after, is));
    not_own = λ c e r n own is. (let less = k.ties.fits.below c e r n in omega (arith, less, after, is));
  }
  stray j (other_entry p y d n w at h there shut other is) =
      subst (IsStray k.full) is (is_stray F k.full x next k.ties y d (place_at p x y at) h n w there shut other)

  pub away : (j : ℕ) → IsLoose x next j → IsAway x j
  away j (the_state zero) v e top h is = let root = table.root in omega (arith, zero, root, is)
  away j (the_state zero) v e (inside u c m q r i f) h is =
      let least = numbers_from_two k.full u.number (full_entry (m, q)) (named_full k.full x next k.ties.fits u c m q r i f) in
      omega (arith, least, zero, is)
  away j (never_given after) v e top h is = let least = table.least in let root = table.root in omega (arith, least, after, root, is)
  away j (never_given after) v e (inside u c m q r i f) h is =
      let less = k.ties.fits.below u.number (full_entry (m, q)) (place_counts k.full x next k.ties.fits u c r i) (named_full k.full x next k.ties.fits u c m q r i f) in
      omega (arith, less, after, is)
  away j (other_entry p y d n w at h there shut other number) v e place holds is =
      stray_away F k.full x next k.ties y d (place_at p x y at) h n w there shut other v e place holds (is ∙ sym number)

pub loose_kept : LooseKept
loose_kept R F x next j w table k loose = record {
  full = with_file k.full j w;
  ties = new_file_tied F k.full x next k.ties j w (stray R F x next table k j loose) (away R F x next table k j loose);
  agrees = k.agrees;
}

pub loose_sound : LooseSound
loose_sound R F x next j w table k loose = let now = loose_kept R F x next j w table k loose in ties_sound (with_file F j w) now.full x next now.ties

pub loose_alike : LooseAlike
loose_alike R F x next j w table k loose =
    let before : Backs F k.full x next = backs_tied F k.full x next k.ties in
    backed_alike R F (with_file F j w) k.full x next before (backs_stray F (with_file F j w) k.full x next before j (stray R F x next table k j loose) (λ i ne. put_apart F j i w ne)) x top

-- ---- the file of a number that nothing names may be taken out

module _ (F full : Stored) (x : Row) (next : ℕ) (t : Ties F full x next) (j : ℕ) (least : 2 ≤ j) (unnamed : IsUnnamed full j) where
  pub unnamed_stray : IsStray full j
  unnamed_stray = record { not_root = λ is. omega (arith, least, is); not_own = λ c e r m o. unnamed c e r m }

  unnamed_away : IsAway x j
  unnamed_away v e top h is = let root = t.fits.root in omega (arith, least, root, is)
  unnamed_away v e (inside u c m q r i f) h is =
      unnamed u.number (full_entry (m, q)) (place_counts full x next t.fits u c r i) (named_full full x next t.fits u c m q r i f) is

  pub taken_tied : Ties (without F j) (with_file full j None) x next
  taken_tied = new_file_tied F full x next t j None unnamed_stray unnamed_away

  pub taken_alike : (R : Repository) → shown_in R (without F j) x ≡ shown_in R F x
  taken_alike R =
      let before : Backs F full x next = backs_tied F full x next t in
      backed_alike R F (without F j) full x next before (backs_stray F (without F j) full x next before j unnamed_stray (λ i ne. put_apart F j i None ne)) x top
