-- The laws of chains that become the mount's own.
use Rattle.std.proofs.Common.{◌≡◌, ◌≢◌, ◌⊎◌, ℕ, [], Some, None, inl, sym, ap, ◌∙◌, subst}
use Rattle.eden_model.specs.declared.kind.Origin.TheVariants as origin
use Rattle.eden_model.specs.Repository.{Repository, ground_with}
use Rattle.eden_model.specs.Shown.{shown}
use Rattle.eden_model.specs.Trees.{Name, Path}
use Rattle.eden_overlay_format.specs.Directory.{AreStorable}
use Rattle.eden_overlay.specs.Files.{Stored}
use Rattle.eden_overlay.specs.Held.{own_files}
use Rattle.eden_tree.specs.Directory.{Row, Directory, child_of, with_child}
use Rattle.eden_tree.specs.Rows.{find_row}
use Rattle.eden_tree.specs.Paths.{row_at}
use Rattle.eden_tree.proofs.CallerLemmas.{with_child-same, edits_same}
use Rattle.eden_coupling.specs.Chains.{IsLoadedAt, StaysLoaded, Above, MayStore, left, listed, at_first, later}
use Rattle.eden_coupling.specs.ChainLaws.{OwnedTable, OwnedStays, OwnedMarks, OwnedKept, OwnedAlike, RefusedKept, RefusedAlike}
use Rattle.eden_coupling.specs.Changing.{with_listing}
use Rattle.eden_coupling.specs.Kept.{IsTable, IsKept}
use Rattle.eden_coupling.specs.Laws.{owned}
use Rattle.eden_coupling.specs.Listings.{listing_of}
use Rattle.eden_coupling.specs.Materialising.{Chain, IsChain, owned_along}
use Rattle.eden_coupling.specs.Shown.{shown_in}
use Rattle.eden_coupling.specs.ShownLaws.{full_item}
use Rattle.eden_coupling.specs.Ties.{Ties}
use Rattle.eden_coupling.proofs.Chain.{place_at}
use Rattle.eden_coupling.proofs.ChainKept.{table_now, can_chain, kept_now, shown_full}
use Rattle.eden_coupling.proofs.Chained.{chain_from}
use Rattle.eden_coupling.proofs.ShownFull.{shows_full}
use Rattle.eden_coupling.proofs.StaysLoaded.{Loaded, loaded_found, stays_loaded}
use Rattle.eden_coupling.proofs.Strays.{first_stray, strays_kept, strays_alike}
use Rattle.eden_coupling.proofs.Unsaved.{owned_marks}

-- the table with the directory at a path as it is
pub same_listing : (p : Path) (x y : Row) (d : Directory) → row_at p x ≡ Some y → child_of y ≡ Some d → with_listing p d x ≡ x
same_listing p x y d at h = edits_same p (with_child (Some d)) x y at (with_child-same y d h)

module _ (x : Row) (next : ℕ) (table : IsTable x next) (p : Path) (l : Loaded p x) where
  abbrev now : Row
  now = owned (owned_along p x)

  same : with_listing p l.directory x ≡ x
  same = same_listing p x l.row l.directory l.at l.holds

  can : AreStorable (listing_of l.directory)
  can = table.listed l.row l.directory (place_at p x l.row l.at) l.holds

  was_there : (m : Name) (v : Row) → find_row m l.directory.rows ≡ Some v → (find_row m l.directory.rows ≡ Some v) ⊎ (child_of v ≡ None)
  was_there m v f = inl f

  table_then : IsTable now next
  table_then = subst (λ (a : Row). IsTable (owned (owned_along p a)) next) same (table_now x next table p l.row l.directory l.directory l.at l.holds can was_there)

  module _ (R : Repository) (F : Stored) (k : IsKept R F x next) (G : Stored) (c : Chain F x p G) where
    ties : Ties F k.full (with_listing p l.directory x) next
    ties = subst (λ (a : Row). Ties F k.full a next) (sym same) k.ties

    chain : Chain F (with_listing p l.directory x) p G
    chain = subst (λ (a : Row). Chain F a p G) (sym same) c

    kept_then : IsKept R G now next
    kept_then =
        subst (λ (a : Row). IsKept R G (owned (owned_along p a)) next) same
        (kept_now x next table p l.row l.directory l.directory l.at l.holds can was_there R F k F k.full ties G chain)

    alike : shown_in R G now ≡ shown_in R F x
    alike =
        ap (λ (a : Row). shown_in R G (owned (owned_along p a))) (sym same)
        ∙ shown_full x next table p l.row l.directory l.directory l.at l.holds can was_there R F k F k.full ties G chain
        ∙ ap (λ (a : Row). shown (ground_with R (own_files k.full)) (full_item a)) same
        ∙ sym (shows_full R F x next k)

pub owned_table : OwnedTable
owned_table x next p table loaded = table_then x next table p (loaded_found p x loaded)

pub owned_marked : OwnedMarks
owned_marked x p q unsaved = owned_marks p q x unsaved

pub owned_stays : OwnedStays
owned_stays x p loaded =
    let l = loaded_found p x loaded in
    subst (λ (a : Row). StaysLoaded x (owned (owned_along p a))) (same_listing p x l.row l.directory l.at l.holds)
    (stays_loaded l.row l.directory l.directory l.holds (λ m w a f h. f) p x l.at)

pub owned_kept : OwnedKept
owned_kept R F x next p G table k loaded c = kept_then x next table p (loaded_found p x loaded) R F k G c

pub owned_alike : OwnedAlike
owned_alike R F x next p G table k loaded c = alike x next table p (loaded_found p x loaded) R F k G c

-- ---- where a store is refused

-- what the first one stores is a stray, where the directory isn't its own
stray_first : (R : Repository) (F : Stored) (x : Row) (next : ℕ) (table : IsTable x next) (k : IsKept R F x next) (p : Path) (y : Row) (d : Directory) (M : Stored)
    → row_at p x ≡ Some y → child_of y ≡ Some d → MayStore F y.number M → y.origin ≢ origin.Own → y.number ≢ 1 → Ties M k.full x next
stray_first R F x next table k p y d M at h (left same) other ne = subst (λ (G : Stored). Ties G k.full x next) (sym same) k.ties
stray_first R F x next table k p y d M at h (listed entries are is) other ne =
    subst (λ (G : Stored). Ties G k.full x next) (sym is) (first_stray R F x next table k p y d entries at h are other ne)

pub refused_kept : RefusedKept
refused_kept R F x next p G table k (at_first same) = subst (λ (M : Stored). IsKept R M x next) (sym same) k
refused_kept R F x next p G table k (later y d M at h first u) =
    strays_kept R F x next table k M p y G at (stray_first R F x next table k p y d M at h first) u

pub refused_alike : RefusedAlike
refused_alike R F x next p G table k (at_first same) = ap (λ (M : Stored). shown_in R M x) same
refused_alike R F x next p G table k (later y d M at h first u) =
    strays_alike R F x next table k M p y G at (stray_first R F x next table k p y d M at h first) u

-- ---- what a caller that stores a chain needs

-- the chain of a table can be stored
pub owned_chain : (x : Row) (next : ℕ) (p : Path) → IsTable x next → IsLoadedAt p x → IsChain x p
owned_chain x next p table loaded =
    let l = loaded_found p x loaded in
    subst (λ (a : Row). IsChain a p) (same x next table p l)
    (can_chain x next table p l.row l.directory l.directory l.at l.holds (can x next table p l) (was_there x next table p l))

-- its lowest directory, and those above it
pub chain_joined : (F M : Stored) (p : Path) (x y : Row) (d : Directory) (G : Stored) → row_at p x ≡ Some y → child_of y ≡ Some d → Chain F y [] M → Above M x p G → Chain F x p G
chain_joined F M p x y d G at h low up =
    subst (λ (a : Row). Chain F a p G) (same_listing p x y d at h) (chain_from d F M p x y G at (subst (λ (a : Row). Chain F a [] M) (sym (with_child-same y d h)) low) up)
