-- Files that are stored while a table stands over them, and not seen.
use Rattle.std.proofs.Common.{◌≡◌, ◌≢◌, ◌⊎◌, ℕ, List, Option, Some, None, sym, ◌∙◌, subst}
use Rattle.std.specs.Option.{option_and_then}
use Rattle.eden_model.specs.declared.kind.Origin.TheVariants as origin
use Rattle.eden_model.specs.Repository.{Repository}
use Rattle.eden_overlay_format.specs.declared.stored_entry.StoredEntry.{StoredEntry}
use Rattle.eden_overlay_format.specs.Values.{entries_in}
use Rattle.eden_overlay.specs.Files.{Stored}
use Rattle.eden_overlay.specs.Held.{HoldsEntries}
use Rattle.eden_overlay.specs.Soundness.{Names, IsLive}
use Rattle.eden_overlay.specs.Laws.{IsStray}
use Rattle.eden_tree.specs.Directory.{Row, Directory, child_of}
use Rattle.eden_coupling.specs.Listings.{Place}
use Rattle.eden_coupling.specs.Shown.{shown_in}
use Rattle.eden_coupling.specs.Ties.{IsAway, SameFile}
use Rattle.eden_coupling.proofs.Chain.{root_loaded}
use Rattle.eden_coupling.proofs.ShownFull.{Backs, shows_as_full}

-- another file k, which no entry that isn't loaded has as its own, and which isn't the root's where that isn't loaded
module _ (F G full : Stored) (x : Row) (next : ℕ) (b : Backs F full x next) (k : ℕ) (elsewhere : (j : ℕ) → k ≢ j → G j ≡ F j) where
  still : (j : ℕ) → k ≢ j → SameFile F full j → SameFile G full j
  still j ne same =
      let P : Option (List ℕ) → Type 0 = λ f. (f ≡ full j) ⊎ ((es : List StoredEntry) × ((option_and_then entries_in f ≡ Some es) × HoldsEntries full j es)) in
      subst P (sym (elsewhere j ne)) same

  backs_still : ((c : ℕ) (e : StoredEntry) → IsLive full c → Names full c e → e.origin ≡ origin.Own → IsAway x e.number → k ≢ e.number)
      → (child_of x ≡ None → k ≢ 1) → Backs G full x next
  backs_still unnamed rootless = record {
    fits = b.fits;
    same = λ c e live names own away. still e.number (unnamed c e live names own away) (b.same c e live names own away);
    same_root = λ none. still 1 (rootless none) (b.same_root none);
  }

-- a loaded directory's file
pub backs_loaded : (F G full : Stored) (x : Row) (next : ℕ) → Backs F full x next → (y : Row) (d : Directory) → Place x y → child_of y ≡ Some d
    → ((j : ℕ) → y.number ≢ j → G j ≡ F j) → Backs G full x next
backs_loaded F G full x next b y d place holds elsewhere =
    backs_still F G full x next b y.number elsewhere (λ c e live names own away is. away y d place holds is) (λ none. absurd (root_loaded x y d place holds none))

-- a stray
pub backs_stray : (F G full : Stored) (x : Row) (next : ℕ) → Backs F full x next → (k : ℕ) → IsStray full k → ((j : ℕ) → k ≢ j → G j ≡ F j) → Backs G full x next
backs_stray F G full x next b k stray elsewhere =
    backs_still F G full x next b k elsewhere (λ c e live names own away is. stray.not_own c e live names own (sym is)) (λ none. stray.not_root)

-- files that back the same show the same of every entry in memory
pub backed_alike : (R : Repository) (F G full : Stored) (x : Row) (next : ℕ) → Backs F full x next → Backs G full x next → (z : Row) → Place x z → shown_in R G z ≡ shown_in R F z
backed_alike R F G full x next b c z place = shows_as_full R G full x next c z place ∙ sym (shows_as_full R F full x next b z place)
