-- An entry that comes to have its own file, which is stored first: what that keeps, and what is shown then.
use Rattle.std.proofs.Common.{◌≡◌, ℕ, [], ◌∷◌, ◌++◌, Some, Result, Ok, Err, OnOk, OnErr, IfErr, inl, inr, sym, ap, ◌∙◌, subst}
use Rattle.eden_model.specs.declared.fault.Fault.{Fault}
use Rattle.eden_model.specs.Repository.{Repository}
use Rattle.eden_model.specs.Trees.{Name, Path, Tree, graft}
use Rattle.eden_overlay.specs.Files.{Stored}
use Rattle.eden_overlay.specs.Held.{with_entries}
use Rattle.eden_tree.specs.Directory.{Row, Directory, child_of}
use Rattle.eden_tree.specs.Paths.{row_at}
use Rattle.eden_coupling.specs.Chains.{NoneMarked, StaysLoaded, chained, Above, Refused}
use Rattle.eden_coupling.specs.Changing.{changed}
use Rattle.eden_coupling.specs.Kept.{IsTable, IsKept}
use Rattle.eden_coupling.specs.Listings.{listing_of}
use Rattle.eden_coupling.specs.Shown.{shown_in}
use Rattle.eden_coupling.specs.ShownLaws.{shown_from}
use Rattle.eden_coupling.specs.Standing.{MayStand}
use Rattle.eden_materialise.specs.Faults.{IsStoreFault}
use Rattle.eden_materialise.specs.Filing.{FilesEntry, not_filed, filed, RefusedBy}
use Rattle.eden_materialise.specs.Listings.{ChangesEntry}
use Rattle.eden_materialise.specs.Puts.{AtDirectory}
use Rattle.eden_materialise.proofs.Listings.{changes_table, changes_marks, changes_stay, changes_kept_then, changes_shown, changes_unseen}

-- what was put in is an entry that changed
module _ (honest : Type 0) (p : Path) (n : Name) (v w : Row) (is : v ≡ w) (B : Stored) (x : Row) (old count : ℕ) (same : count ≡ old) (G : Stored) (z : Row) (now : ℕ) where
  pub put_changes : AtDirectory p x (λ y d. z ≡ chained p (changed d n (Some v)) x)
      → (honest → AtDirectory p x (λ y d. Above (with_entries B y.number (listing_of (changed d n (Some v)))) x p G)) → now ≡ count
      → ChangesEntry honest p n (Some w) B x old G z now (Ok tt)
  put_changes ok stored counted = record {
    ok = λ y d at h. ok y d at h ∙ ap (λ (r : Row). chained p (changed d n (Some r)) x) is;
    stored = λ hon y d at h. subst (λ (r : Row). Above (with_entries B y.number (listing_of (changed d n (Some r)))) x p G) is (stored hon y d at h);
    err = tt;
    strays = λ hon. tt;
    fault = tt;
    counted = counted ∙ same;
  }

  pub put_changes_not : (e : Fault) → z ≡ x → (honest → Refused B x p G) → IsStoreFault count now e → ChangesEntry honest p n (Some w) B x old G z now (Err e)
  put_changes_not e err strays fault = record {
    ok = λ y d at h. tt;
    stored = λ hon y d at h. tt;
    err = err;
    strays = strays;
    fault = subst (λ (i : ℕ). IsStoreFault i now e) same fault;
    counted = tt;
  }

module _ (honest : Type 0) (p : Path) (n : Name) (w : Row) (F M : Stored) (x : Row) (old : ℕ) (G : Stored) (z : Row) (now : ℕ) where
  pub files_ok : (answer : Result (Unit {0}) Fault) → FilesEntry honest p n w F M x old G z now answer
      → AtDirectory p x (λ y d. OnOk answer (z ≡ chained p (changed d n (Some w)) x))
  files_ok answer (not_filed e same files why) y d at h = tt
  files_ok answer (filed B a is c) y d at h = c.ok y d at h

  pub files_stored : (answer : Result (Unit {0}) Fault) → FilesEntry honest p n w F M x old G z now answer → honest
      → AtDirectory p x (λ y d. OnOk answer (Above (with_entries M y.number (listing_of (changed d n (Some w)))) x p G))
  files_stored answer (not_filed e same files why) hon y d at h = tt
  files_stored answer (filed B a is c) hon y d at h =
      subst (λ (H : Stored). OnOk a (Above (with_entries H y.number (listing_of (changed d n (Some w)))) x p G)) (is hon) (c.stored hon y d at h)

  pub files_err : (answer : Result (Unit {0}) Fault) → FilesEntry honest p n w F M x old G z now answer → OnErr answer (z ≡ x)
  files_err answer (not_filed e same files why) = same
  files_err answer (filed B a is c) = c.err

  pub files_strays : (answer : Result (Unit {0}) Fault) → FilesEntry honest p n w F M x old G z now answer → honest → OnErr answer (RefusedBy F M x p G)
  files_strays answer (not_filed e same files why) hon = inl (files hon)
  files_strays answer (filed B (Ok u) is c) hon = tt
  files_strays answer (filed B (Err e) is c) hon = inr (subst (λ (H : Stored). Refused H x p G) (is hon) (c.strays hon))

  pub files_fault : (answer : Result (Unit {0}) Fault) → FilesEntry honest p n w F M x old G z now answer → IfErr answer (IsStoreFault old now)
  files_fault answer (not_filed e same files why) = why
  files_fault answer (filed B a is c) = c.fault

  pub files_counted : (answer : Result (Unit {0}) Fault) → FilesEntry honest p n w F M x old G z now answer → OnOk answer (now ≡ old)
  files_counted answer (not_filed e same files why) = tt
  files_counted answer (filed B a is c) = c.counted

  -- ---- the table then

  module _ (R : Repository) (next : ℕ) (table : IsTable x next) (may : (B : Stored) → (honest → B ≡ M) → MayStand honest R B x next p n (Some w)) where
    pub files_table : (answer : Result (Unit {0}) Fault) → FilesEntry honest p n w F M x old G z now answer → IsTable z next
    files_table answer (not_filed e same files why) = subst (λ (r : Row). IsTable r next) (sym same) table
    files_table answer (filed B a is c) = changes_table honest R p n (Some w) B x old G z now next table (may B is) a c

    pub files_marks : (answer : Result (Unit {0}) Fault) → FilesEntry honest p n w F M x old G z now answer → NoneMarked x z
    files_marks answer (not_filed e same files why) = subst (NoneMarked x) (sym same) (λ q unsaved. unsaved)
    files_marks answer (filed B a is c) = changes_marks honest R p n (Some w) B x old G z now next table (may B is) a c

    pub files_stay : (answer : Result (Unit {0}) Fault) → FilesEntry honest p n w F M x old G z now answer → StaysLoaded x z
    files_stay answer (not_filed e same files why) = subst (StaysLoaded x) (sym same) (λ q there. there)
    files_stay answer (filed B a is c) = changes_stay honest R p n (Some w) B x old G z now next table (may B is) a c

    module _ (h : honest) (k : IsKept R F x next) (m : IsKept R M x next) where
      kept_between : (B : Stored) → (honest → B ≡ M) → IsKept R B x next
      kept_between B is = subst (λ (H : Stored). IsKept R H x next) (sym (is h)) m

      pub files_kept : (answer : Result (Unit {0}) Fault) → FilesEntry honest p n w F M x old G z now answer → IsKept R G z next
      files_kept answer (not_filed e same files why) =
          subst (λ (r : Row). IsKept R G r next) (sym same) (subst (λ (H : Stored). IsKept R H x next) (sym (files h)) k)
      files_kept answer (filed B a is c) = changes_kept_then honest R p n (Some w) B x old G z now next table (may B is) h (kept_between B is) a c

      module _ (alike : shown_in R M x ≡ shown_in R F x) where
        pub files_unseen : (answer : Result (Unit {0}) Fault) → FilesEntry honest p n w F M x old G z now answer → OnErr answer (shown_in R G z ≡ shown_in R F x)
        files_unseen answer (not_filed e same files why) = ap (λ (r : Row). shown_in R G r) same ∙ ap (λ (H : Stored). shown_in R H x) (files h)
        files_unseen answer (filed B (Ok u) is c) = tt
        files_unseen answer (filed B (Err e) is c) =
            changes_unseen honest R p n (Some w) B x old G z now next table (may B is) h (kept_between B is) (Err e) c
            ∙ ap (λ (H : Stored). shown_in R H x) (is h) ∙ alike

        pub files_shown : (T : Tree)
            → ((y : Row) (d : Directory) → row_at p x ≡ Some y → child_of y ≡ Some d → Above (with_entries M y.number (listing_of (changed d n (Some w)))) x p G
            → shown_from R G (Some w) ≡ T)
            → (answer : Result (Unit {0}) Fault) → FilesEntry honest p n w F M x old G z now answer
            → OnOk answer (shown_in R G z ≡ graft (p ++ n ∷ []) T (shown_in R F x))
        files_shown T shows answer (not_filed e same files why) = tt
        files_shown T shows answer (filed B (Err e) is c) = tt
        files_shown T shows answer (filed B (Ok u) is c) =
            let a = may B is in
            let up = files_stored (Ok u) (filed B (Ok u) is c) h a.row a.directory a.at a.holds in
            changes_shown honest R p n (Some w) B x old G z now next table a h (kept_between B is) (Ok u) c
            ∙ ap (λ (S : Tree). graft (p ++ n ∷ []) S (shown_in R B x)) (shows a.row a.directory a.at a.holds up)
            ∙ ap (λ (H : Stored). graft (p ++ n ∷ []) T (shown_in R H x)) (is h)
            ∙ ap (graft (p ++ n ∷ []) T) alike
