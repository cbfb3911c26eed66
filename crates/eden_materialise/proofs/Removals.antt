-- An entry that is removed: its file may be, what that keeps, and what is shown then.
use Rattle.std.proofs.Common.{◌≡◌, ◌≤◌, ℕ, [], ◌∷◌, ◌++◌, Option, Some, None, IfSome, Result, Ok, Err, OnOk, OnErr, IfErr, refl, sym, ap, ◌∙◌, subst}
use Rattle.eden_model.specs.declared.fault.Fault.{Fault}
use Rattle.eden_model.specs.Repository.{Repository}
use Rattle.eden_model.specs.Trees.{Name, Path, Tree, graft}
use Rattle.eden_overlay.specs.Files.{Stored}
use Rattle.eden_overlay.specs.Held.{with_entries, without}
use Rattle.eden_overlay.specs.Soundness.{AreSound}
use Rattle.eden_tree.specs.Directory.{Row, child_of}
use Rattle.eden_tree.specs.Rows.{find_row}
use Rattle.eden_coupling.specs.Chains.{Above, Refused}
use Rattle.eden_coupling.specs.Changing.{changed}
use Rattle.eden_coupling.specs.Kept.{IsTable, IsKept}
use Rattle.eden_coupling.specs.Listings.{listing_of}
use Rattle.eden_coupling.specs.Shown.{shown_in}
use Rattle.eden_coupling.specs.Standing.{MayStand}
use Rattle.eden_coupling.proofs.CallerLemmas.{place_at, drop_storable, removed_sound, removed_kept, removed_alike}
use Rattle.eden_materialise.specs.EntryMoves.{own_number}
use Rattle.eden_materialise.specs.Faults.{IsStoreFault}
use Rattle.eden_materialise.specs.Listings.{IsHeldFor}
use Rattle.eden_materialise.specs.Puts.{AtDirectory}
use Rattle.eden_materialise.specs.Removals.{HasEntry, RemovesFrom, RemovesEntry}
use Rattle.eden_materialise.proofs.EntryMoves.{own_is, clears_from, cleared, never_less}
use Rattle.eden_materialise.proofs.Listings.{changes_kept_then, changes_shown, changes_unseen}

pub may_remove : (honest : Type 0) (R : Repository) (F : Stored) (x : Row) (next : ℕ) (p : Path) (n : Name) → IsTable x next → HasEntry x p n → MayStand honest R F x next p n None
may_remove honest R F x next p n table a =
    let P : Option Row → Type 0 = λ o. IfSome o (λ w. child_of w ≡ None) in
    record {
      row = a.row;
      directory = a.directory;
      at = a.at;
      holds = a.holds;
      may_go = subst P (sym a.there) a.unloaded;
      storable = drop_storable a.directory n (table.listed a.row a.directory (place_at p x a.row a.at) a.holds);
      unloaded = tt;
      numbered = tt;
    }

-- the file of what went may be removed
pub clear_removed : (honest : Type 0) (R : Repository) (F : Stored) (x : Row) (p : Path) (n : Name) (held : IsHeldFor honest R F x p n None) (G : Stored) → honest
    → Above (with_entries F held.may.row.number (listing_of (changed held.may.directory n None))) x p G
    → (own : Option ℕ) → own ≡ own_number (find_row n held.may.directory.rows) → IfSome own (λ k. AreSound (without G k))
clear_removed honest R F x p n held G h up None is = tt
clear_removed honest R F x p n held G h up (Some k) is =
    let w = own_is (find_row n held.may.directory.rows) k (sym is) in
    let P : ℕ → Type 0 = λ j. AreSound (without G j) in
    subst P w.1.1 (removed_sound honest R F x held.next p n h held.table (held.kept h) held.may w.0 w.1.0 G up)

module _ (honest : Type 0) (R : Repository) (p : Path) (n : Name) (F : Stored) (x : Row) (old : ℕ) (G : Stored) (z : Row) (new : ℕ) (next : ℕ) (table : IsTable x next)
    (may : MayStand honest R F x next p n None) where
  pub removes : (answer : Result (Unit {0}) Fault) → RemovesEntry honest p n F x old G z new answer → OnOk answer (AtDirectory p x (λ y d. RemovesFrom honest p n F x y d old G new))
  removes (Ok u) c = λ y d at h. record {
    between = c.between;
    stored = λ hon. c.changes.stored hon y d at h;
    clears = clears_from honest c.between c.between old c.count G new (own_number (find_row n d.rows)) (λ hon. refl) c.changes.counted (c.clears y d at h);
  }
  removes (Err e) c = tt

  pub removes_strays : (answer : Result (Unit {0}) Fault) → RemovesEntry honest p n F x old G z new answer → honest → OnErr answer (Refused F x p G)
  removes_strays (Ok u) c h = tt
  removes_strays (Err e) c h = subst (λ (H : Stored). Refused F x p H) (sym (c.refused.0 h)) (c.changes.strays h)

  pub removes_fault : (answer : Result (Unit {0}) Fault) → RemovesEntry honest p n F x old G z new answer → IfErr answer (IsStoreFault old new)
  removes_fault (Ok u) c = tt
  removes_fault (Err e) c = subst (λ (i : ℕ). IsStoreFault old i e) (sym c.refused.1) c.changes.fault

  pub removes_counted : (answer : Result (Unit {0}) Fault) → RemovesEntry honest p n F x old G z new answer → OnOk answer (old ≤ new)
  removes_counted (Ok u) c =
      let done = removes (Ok u) c may.row may.directory may.at may.holds in
      never_less honest done.between old G new (own_number (find_row n may.directory.rows)) done.clears
  removes_counted (Err e) c = tt

  module _ (h : honest) (k : IsKept R F x next) where
    -- what holds of the files with it and without it
    pub removes_kept : (answer : Result (Unit {0}) Fault) → RemovesEntry honest p n F x old G z new answer → IsKept R G z next
    removes_kept (Ok u) c =
        let now = changes_kept_then honest R p n None F x old c.between z c.count next table may h k (Ok u) c.changes in
        let is = c.changes.ok may.row may.directory may.at may.holds in
        let own = find_row n may.directory.rows in
        cleared honest c.between c.count G new (own_number own) (λ H. IsKept R H z next) (c.clears may.row may.directory may.at may.holds) h now
        (λ j some.
        (let w = own_is own j some in
        let P : ℕ → Type 0 = λ i. IsKept R (without c.between i) z next in
        subst P w.1.1 (subst (λ (r : Row). IsKept R (without c.between w.0.number) r next) (sym is)
        (removed_kept honest R F x next p n h table k may w.0 w.1.0 c.between (c.changes.stored h may.row may.directory may.at may.holds)))))
    removes_kept (Err e) c =
        subst (λ (H : Stored). IsKept R H z next) (sym (c.refused.0 h)) (changes_kept_then honest R p n None F x old c.between z c.count next table may h k (Err e) c.changes)

    pub removes_shown : (answer : Result (Unit {0}) Fault) → RemovesEntry honest p n F x old G z new answer
        → OnOk answer (shown_in R G z ≡ graft (p ++ n ∷ []) (λ below. None) (shown_in R F x))
    removes_shown (Ok u) c =
        let was = changes_shown honest R p n None F x old c.between z c.count next table may h k (Ok u) c.changes in
        let is = c.changes.ok may.row may.directory may.at may.holds in
        let own = find_row n may.directory.rows in
        let T : Tree = graft (p ++ n ∷ []) (λ below. None) (shown_in R F x) in
        cleared honest c.between c.count G new (own_number own) (λ H. shown_in R H z ≡ T) (c.clears may.row may.directory may.at may.holds) h was
        (λ j some.
        (let w = own_is own j some in
        let P : ℕ → Type 0 = λ i. shown_in R (without c.between i) z ≡ T in
        subst P w.1.1 (subst (λ (r : Row). shown_in R (without c.between w.0.number) r ≡ shown_in R c.between r) (sym is)
        (removed_alike honest R F x next p n h table k may w.0 w.1.0 c.between (c.changes.stored h may.row may.directory may.at may.holds)) ∙ was)))
    removes_shown (Err e) c = tt

    pub removes_unseen : (answer : Result (Unit {0}) Fault) → RemovesEntry honest p n F x old G z new answer → OnErr answer (shown_in R G z ≡ shown_in R F x)
    removes_unseen (Ok u) c = tt
    removes_unseen (Err e) c =
        ap (λ (H : Stored). shown_in R H z) (c.refused.0 h) ∙ changes_unseen honest R p n None F x old c.between z c.count next table may h k (Err e) c.changes
