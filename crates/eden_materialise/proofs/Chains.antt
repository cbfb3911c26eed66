-- A chain of directories that becomes its own: what its stores need, what it keeps, and what is shown then.
use Rattle.std.proofs.Common.{◌≡◌, ◌⊎◌, ℕ, Bool, true, false, if◌then◌else◌, [], Some, None, IfSome, Result, Ok, Err, OnErr, inl, inr, refl, sym, ap, ◌∙◌, subst}
use Rattle.std.proofs.lemmas.Bool.{false≢true}
use Rattle.eden_model.specs.declared.fault.Fault.{Fault}
use Rattle.eden_model.specs.Failures.{Counted}
use Rattle.eden_model.specs.Repository.{Repository}
use Rattle.eden_model.specs.Trees.{Path}
use Rattle.eden_overlay_format.specs.Directory.{AreStorable, is_own}
use Rattle.eden_overlay.specs.Files.{Stored}
use Rattle.eden_overlay.specs.declared.files.FilesFault.{FilesFault}
use Rattle.eden_overlay.specs.declared.files.FilesFault.TheVariants as files
use Rattle.eden_tree.specs.Directory.{Row, Directory, child_of}
use Rattle.eden_tree.specs.Paths.{row_at}
use Rattle.eden_coupling.specs.Chains.{IsLoadedAt, NoneMarked, StaysLoaded, Above, Unfinished, MayStore, left, listed, Refused, at_first, later}
use Rattle.eden_coupling.specs.Kept.{IsTable, IsKept}
use Rattle.eden_coupling.specs.Laws.{owned}
use Rattle.eden_coupling.specs.Listings.{listing_of}
use Rattle.eden_coupling.specs.Materialising.{Chain, lowest_own, lowest, owned_along}
use Rattle.eden_coupling.specs.Shown.{shown_in}
use Rattle.eden_coupling.proofs.CallerLemmas.{place_at, chain_joined, ties_sound, owned_table, owned_stays, owned_marked, owned_kept, owned_alike, refused_kept, refused_alike}
use Rattle.eden_materialise.specs.Chains.{lowest_of, with_lowest, StaySound, IsHeld, Owns}
use Rattle.eden_materialise.specs.Faults.{told_files_fault, IsStoreFault}
use Rattle.eden_materialise.specs.Puts.{AtDirectory}

-- what holds anyhow holds after an error
pub after_error : {X Y : Type 0} (r : Result X Y) (P : Type 0) → P → OnErr r P
after_error (Ok u) P h = tt
after_error (Err e) P h = h

abbrev failed_by : FilesFault → Result (Unit {0}) FilesFault
failed_by fault = Err fault

-- a fault of the files, as it is told
pub told_fault : (old new : ℕ) (fault : FilesFault) (u : Fault) → u ≡ told_files_fault fault → Counted (failed_by fault ≡ failed_by files.Device) old new → IsStoreFault old new u
told_fault old new files.Device u is c = subst (IsStoreFault old new) (sym is) (c.rose refl)
told_fault old new files.Memory u is c = subst (IsStoreFault old new) (sym is) (c.same (λ same. absurd (cc)))

-- ---- the lowest directory, where it isn't told how

-- it is stored whole, where it isn't its own
pub only_other : {X : Type 0} (b : Bool) (l : X) (P : X → Type 0) → b ≡ false → IfSome (if b then None else Some l) P → P l
only_other true l P is h = absurd (false≢true (sym is))
only_other false l P is h = h

pub whole_is : (y : Row) (d : Directory) → is_own y.origin ≡ false → lowest_of None y d ≡ Some (listing_of d)
whole_is y d other = ap (λ b. if b then None else Some (listing_of d)) other

whole_can : (y : Row) (d : Directory) → AreStorable (listing_of d) → IfSome (lowest_of None y d) AreStorable
whole_can y d are = elim (is_own y.origin) as (λ b. IfSome (if b then None else Some (listing_of d)) AreStorable) [ true ↦ tt | false ↦ are ]

whole_chain : (F : Stored) (y : Row) (d : Directory) → child_of y ≡ Some d → Chain F y [] (with_lowest F y.number (lowest_of None y d))
whole_chain F y d h = elim (is_own y.origin) as (λ b. is_own y.origin ≡ b → Chain F y [] (with_lowest F y.number (if b then None else Some (listing_of d)))) [
  | true ↦ λ own. lowest_own y own
  | false ↦ λ other. lowest y d h other
] refl

whole_may : (F : Stored) (y : Row) (d : Directory) → AreStorable (listing_of d) → MayStore F y.number (with_lowest F y.number (lowest_of None y d))
whole_may F y d are = elim (is_own y.origin) as (λ b. MayStore F y.number (with_lowest F y.number (if b then None else Some (listing_of d)))) [
  | true ↦ left refl
  | false ↦ listed (listing_of d) are refl
]

-- ---- the stores of a held table's chain

module _ (honest : Type 0) (R : Repository) (F : Stored) (x : Row) (p : Path) (held : IsHeld honest R F x) where
  table : IsTable x held.0
  table = held.1.0

  can_at : (y : Row) (d : Directory) → row_at p x ≡ Some y → child_of y ≡ Some d → AreStorable (listing_of d)
  can_at y d at h = table.listed y d (place_at p x y at) h

  pub held_can : AtDirectory p x (λ y d. IfSome (lowest_of None y d) AreStorable)
  held_can y d at h = whole_can y d (can_at y d at h)

  -- all of them made
  pub held_chain : (y : Row) (d : Directory) (G : Stored) → row_at p x ≡ Some y → child_of y ≡ Some d → Above (with_lowest F y.number (lowest_of None y d)) x p G → Chain F x p G
  held_chain y d G at h up = chain_joined F (with_lowest F y.number (lowest_of None y d)) p x y d G at h (whole_chain F y d h) up

  -- one refused
  pub held_refused : (y : Row) (d : Directory) (G : Stored) → row_at p x ≡ Some y → child_of y ≡ Some d → (G ≡ F) ⊎ Unfinished (with_lowest F y.number (lowest_of None y d)) x p G
      → Refused F x p G
  held_refused y d G at h (inl same) = at_first same
  held_refused y d G at h (inr u) = later y d (with_lowest F y.number (lowest_of None y d)) at h (whole_may F y d (can_at y d at h)) u

  pub held_sound : honest → IsLoadedAt p x → AtDirectory p x (λ y d. StaySound (with_lowest F y.number (lowest_of None y d)) x p)
  held_sound hon loaded y d at h G (inl up) =
      let k = owned_kept R F x held.0 p G table (held.1.1 hon) loaded (held_chain y d G at h up) in
      ties_sound G k.full (owned (owned_along p x)) held.0 k.ties
  held_sound hon loaded y d at h G (inr u) =
      let k = refused_kept R F x held.0 p G table (held.1.1 hon) (held_refused y d G at h (inr u)) in
      ties_sound G k.full x held.0 k.ties

-- ---- the table then

module _ (honest : Type 0) (p : Path) (F : Stored) (x : Row) (old : ℕ) (G : Stored) (z : Row) (new : ℕ) where
  pub owns_table : (answer : Result (Unit {0}) Fault) (next : ℕ) → IsTable x next → IsLoadedAt p x → Owns honest p F x old G z new answer → IsTable z next
  owns_table (Ok u) next table loaded o = subst (λ (r : Row). IsTable r next) (sym o.ok) (owned_table x next p table loaded)
  owns_table (Err e) next table loaded o = subst (λ (r : Row). IsTable r next) (sym o.err) table

  pub owns_marks : (answer : Result (Unit {0}) Fault) → Owns honest p F x old G z new answer → NoneMarked x z
  owns_marks (Ok u) o = subst (NoneMarked x) (sym o.ok) (owned_marked x p)
  owns_marks (Err e) o = subst (NoneMarked x) (sym o.err) (λ q unsaved. unsaved)

  pub owns_stays : (answer : Result (Unit {0}) Fault) → IsLoadedAt p x → Owns honest p F x old G z new answer → StaysLoaded x z
  owns_stays (Ok u) loaded o = subst (StaysLoaded x) (sym o.ok) (owned_stays x p loaded)
  owns_stays (Err e) loaded o = subst (StaysLoaded x) (sym o.err) (λ q there. there)

  module _ (h : honest) (R : Repository) (next : ℕ) (table : IsTable x next) (k : IsKept R F x next) (loaded : IsLoadedAt p x) where
    pub owns_kept : (answer : Result (Unit {0}) Fault) → Owns honest p F x old G z new answer → IsKept R G z next
    owns_kept (Ok u) o = subst (λ (r : Row). IsKept R G r next) (sym o.ok) (owned_kept R F x next p G table k loaded (o.stored h))
    owns_kept (Err e) o = subst (λ (r : Row). IsKept R G r next) (sym o.err) (refused_kept R F x next p G table k (o.strays h))

    pub owns_alike : (answer : Result (Unit {0}) Fault) → Owns honest p F x old G z new answer → shown_in R G z ≡ shown_in R F x
    owns_alike (Ok u) o = ap (λ (r : Row). shown_in R G r) o.ok ∙ owned_alike R F x next p G table k loaded (o.stored h)
    owns_alike (Err e) o = ap (λ (r : Row). shown_in R G r) o.err ∙ refused_alike R F x next p G table k (o.strays h)
