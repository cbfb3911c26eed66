-- An entry that moves in the table of a mount: what it keeps, and what is shown then.
use Rattle.std.proofs.Common.{arith, ◌≢◌, ◌≡◌, ◌≤◌, ℕ, true, false, cond, [], ◌∷◌, ◌++◌, Option, Some, None, IfSome, Result, Ok, Err, OnOk, OnErr, inl, inr, refl, sym, ap, ◌∙◌, subst}
use Rattle.std.proofs.lemmas.Option.{same_Some, none-some}
use Rattle.eden_model.specs.declared.fault.Fault.{Fault}
use Rattle.eden_model.specs.Failures.{Rose}
use Rattle.eden_model.specs.Operations.{move}
use Rattle.eden_model.specs.Repository.{Repository}
use Rattle.eden_model.specs.Trees.{Name, Path}
use Rattle.eden_overlay.specs.Files.{Stored}
use Rattle.eden_overlay.specs.Held.{without}
use Rattle.eden_overlay.specs.Soundness.{AreSound}
use Rattle.eden_overlay.proofs.CallerLemmas.{put_apart}
use Rattle.eden_tree.specs.Directory.{Row, Directory, child_of}
use Rattle.eden_tree.specs.Rows.{find_row}
use Rattle.eden_coupling.specs.Changing.{MayMove, moved_in, marked_source, files_left, files_moved}
use Rattle.eden_coupling.specs.Kept.{IsTable, IsKept}
use Rattle.eden_coupling.specs.Chains.{StaysLoaded, NoneMarked}
use Rattle.eden_coupling.specs.Moving.{CanMove}
use Rattle.eden_coupling.specs.Shown.{shown_in}
use Rattle.eden_coupling.specs.Ties.{IsAway, Tied}
use Rattle.eden_coupling.proofs.CallerLemmas.{ties_sound, replaces_there, moved_table, moved_kept, moved_shown, marked_table, marked_kept, marked_shown, replaced_tied, replaced_kept, replaced_shown}
use Rattle.eden_coupling.proofs.CallerLemmas.{moved_stays, marked_stays, moved_marks, left_elsewhere, moved_elsewhere}
use Rattle.eden_materialise.specs.EntryMoves.{may_have_file, own_number, Clears, nothing, removed, failed, MovesIn, IsMoved, MovesEntry}
use Rattle.eden_materialise.specs.Puts.{AtDirectory}

-- ---- the file of what was replaced

pub own_is : (o : Option Row) (k : ℕ) → own_number o ≡ Some k → (w : Row) × ((o ≡ Some w) × (w.number ≡ k))
own_is None k is = absurd (none-some k is)
own_is (Some w) k is = elim (may_have_file w.kind w.origin) as (λ b. cond b (Some w.number) None ≡ Some k → (v : Row) × ((Some w ≡ Some v) × (v.number ≡ k))) [
  | true ↦ λ h. (w, (refl, same_Some w.number k h))
  | false ↦ λ h. absurd (none-some k h)
] is

-- from other files, which are these where the outside is honest
pub clears_from : (honest : Type 0) (F H : Stored) (old between : ℕ) (G : Stored) (new : ℕ) (o : Option ℕ) → (honest → H ≡ F) → between ≡ old
    → Clears honest H between G new o → Clears honest F old G new o
clears_from honest F H old between G new None files count (nothing is same) = nothing (λ h. is h ∙ files h) (same ∙ count)
clears_from honest F H old between G new (Some j) files count (removed k is same) = removed k (λ h. is h ∙ ap (λ (I : Stored). without I k) (files h)) (same ∙ count)
clears_from honest F H old between G new (Some j) files count (failed k is rose) = failed k (λ h. is h ∙ files h) (subst (λ (i : ℕ). Rose i new) count rose)

-- what holds of the files with it and without it holds then
pub cleared : (honest : Type 0) (F : Stored) (old : ℕ) (G : Stored) (new : ℕ) (o : Option ℕ) (P : Stored → Type 0) → Clears honest F old G new o → honest
    → P F → ((k : ℕ) → o ≡ Some k → P (without F k)) → P G
cleared honest F old G new None P (nothing is same) h whole gone = subst P (sym (is h)) whole
cleared honest F old G new (Some j) P (removed k is same) h whole gone = subst P (sym (is h)) (gone k refl)
cleared honest F old G new (Some j) P (failed k is rose) h whole gone = subst P (sym (is h)) whole

pub never_less : (honest : Type 0) (F : Stored) (old : ℕ) (G : Stored) (new : ℕ) (o : Option ℕ) → Clears honest F old G new o → old ≤ new
never_less honest F old G new None (nothing is same) = omega (arith, same)
never_less honest F old G new (Some j) (removed k is same) = omega (arith, same)
never_less honest F old G new (Some j) (failed k is rose) = rose.kept

module _ (honest : Type 0) (F : Stored) (x : Row) (p : Path) (n : Name) (q : Path) (m : Name) (can : MovesIn honest F x p n q m) (may : MayMove x p n q m)
    (own : Option ℕ) (is : own ≡ own_number (find_row m can.can.target.rows)) where
  replaced_is : own ≡ own_number (find_row m may.target.rows)
  replaced_is = is ∙ ap own_number (sym (replaces_there x can.next p n q m can.table can.can may))

  -- it may be removed
  pub clear_sound : (G : Stored) → honest → G ≡ files_moved x p n q m may F → IfSome own (λ k. AreSound (without G k))
  clear_sound G h files = by_own own refl
    where
      by_own : (o : Option ℕ) → own ≡ o → IfSome o (λ k. AreSound (without G k))
      by_own None none = tt
      by_own (Some k) some =
          let w = own_is (find_row m may.target.rows) k (sym replaced_is ∙ some) in
          let tied = replaced_tied F x can.next p n q m (can.tied h) may w.0 w.1.0 in
          let P : Stored → Type 0 = λ H. AreSound (without H k) in
          let Q : ℕ → Type 0 = λ j. AreSound (without (files_moved x p n q m may F) j) in
          subst P (sym files) (subst Q w.1.1 (ties_sound (without (files_moved x p n q m may F) w.0.number) tied.0 (moved_in x p n q m may) can.next tied.1))

  -- once it is, the move is done
  pub move_done : (H G : Stored) (z : Row) (old between new : ℕ) → z ≡ moved_in x p n q m may → (honest → H ≡ files_moved x p n q m may F) → between ≡ old
      → Clears honest H between G new own → IsMoved honest p n q m F x old G z new
  move_done H G z old between new root files count clears = record {
    may = may;
    root = root;
    files =
        let P : Option ℕ → Type 0 = λ o. Clears honest (files_moved x p n q m may F) old G new o in
        subst P replaced_is (clears_from honest (files_moved x p n q m may F) H old between G new own files count clears);
  }

-- ---- the invariant of a table, and what is shown

pub moves_in : (honest : Type 0) (R : Repository) (F : Stored) (x : Row) (next : ℕ) (p : Path) (n : Name) (q : Path) (m : Name) → IsTable x next → (honest → IsKept R F x next)
    → CanMove x p n q m → MovesIn honest F x p n q m
moves_in honest R F x next p n q m table kept can = record { next = next; table = table; tied = λ h. ((kept h).full, (kept h).ties); can = can }

module _ (honest : Type 0) (F : Stored) (x : Row) (next : ℕ) (p : Path) (n : Name) (q : Path) (m : Name) (old : ℕ) (G : Stored) (z : Row) (new : ℕ) (table : IsTable x next) where
  -- whatever came of it, a table stays one
  pub move_table : (answer : Result (Unit {0}) Fault) → MovesEntry honest p n q m F x old G z new answer → IsTable z next
  move_table (Ok u) c = subst (λ (r : Row). IsTable r next) (sym c.ok.root) (moved_table x next p n q m table c.ok.may)
  move_table (Err e) c = elim c.err [
    | inl as_before ↦ subst (λ (r : Row). IsTable r next) (sym as_before.0) table
    | inr left ↦ subst (λ (r : Row). IsTable r next) (sym left.1.1.0) (marked_table x next p n q m table left.1.0)
  ]

  -- .. what is loaded stays so, nothing is marked by a move that is done, and the count of failures doesn't fall
  pub move_stays : (answer : Result (Unit {0}) Fault) → MovesEntry honest p n q m F x old G z new answer → StaysLoaded x z
  move_stays (Ok u) c = subst (StaysLoaded x) (sym c.ok.root) (moved_stays x next p n q m table c.ok.may)
  move_stays (Err e) c = elim c.err [
    | inl as_before ↦ subst (StaysLoaded x) (sym as_before.0) (λ r loaded. loaded)
    | inr left ↦ subst (StaysLoaded x) (sym left.1.1.0) (marked_stays x p n q m left.1.0)
  ]

  pub move_marks : (answer : Result (Unit {0}) Fault) → MovesEntry honest p n q m F x old G z new answer → OnOk answer (NoneMarked x z)
  move_marks (Ok u) c = subst (NoneMarked x) (sym c.ok.root) (moved_marks x next p n q m table c.ok.may)
  move_marks (Err e) c = tt

  pub move_counted : (answer : Result (Unit {0}) Fault) → MovesEntry honest p n q m F x old G z new answer → OnOk answer (old ≤ new)
  move_counted (Ok u) c = never_less honest (files_moved x p n q m c.ok.may F) old G new (own_number (find_row m c.ok.may.target.rows)) c.ok.files
  move_counted (Err e) c = tt

  -- the files of what isn't loaded stay, but for that of what was replaced
  pub move_elsewhere : honest → Tied F x next → CanMove x p n q m → (answer : Result (Unit {0}) Fault) → MovesEntry honest p n q m F x old G z new answer
      → AtDirectory q x (λ u d. (k : ℕ) → IsAway x k → own_number (find_row m d.rows) ≢ Some k → G k ≡ F k)
  move_elsewhere h t can (Ok u) c y d at holds k away other =
      let may = c.ok.may in
      let to : can.to ≡ y = same_Some can.to y (sym can.at_to ∙ at) in
      let target : can.target ≡ d = same_Some can.target d (sym can.holds_target ∙ ap child_of to ∙ holds) in
      let found : find_row m may.target.rows ≡ find_row m d.rows = replaces_there x next p n q m table can may ∙ ap (λ (a : Directory). find_row m a.rows) target in
      let same = moved_elsewhere F x next p n q m t may k away in
      cleared honest (files_moved x p n q m may F) old G new (own_number (find_row m may.target.rows)) (λ H. H k ≡ F k) c.ok.files h same
      (λ j is. put_apart (files_moved x p n q m may F) j k None (λ one. other (sym (ap own_number found) ∙ is ∙ ap Some one)) ∙ same)
  move_elsewhere h t can (Err e) c y d at holds k away other = elim c.err [
    | inl as_before ↦ ap (λ (H : Stored). H k) (as_before.1 h)
    | inr left ↦ ap (λ (H : Stored). H k) (left.1.1.1 h) ∙ left_elsewhere F x p n q m left.1.0 k away
  ]

  module _ (h : honest) (R : Repository) where
    -- .. and a kept one is kept
    pub move_kept : (answer : Result (Unit {0}) Fault) → IsKept R F x next → MovesEntry honest p n q m F x old G z new answer → IsKept R G z next
    move_kept (Ok u) k c =
        let may = c.ok.may in
        let P : Stored → Type 0 = λ H. IsKept R H (moved_in x p n q m may) next in
        subst (λ (r : Row). IsKept R G r next) (sym c.ok.root)
        (cleared honest (files_moved x p n q m may F) old G new (own_number (find_row m may.target.rows)) P c.ok.files h (moved_kept R F x next p n q m table k may)
        (λ j is.
        (let w = own_is (find_row m may.target.rows) j is in
        subst (λ i. P (without (files_moved x p n q m may F) i)) w.1.1 (replaced_kept R F x next p n q m table k may w.0 w.1.0))))
    move_kept (Err e) k c = elim c.err [
      | inl as_before ↦ subst (λ (H : Stored). IsKept R H z next) (sym (as_before.1 h)) (subst (λ (r : Row). IsKept R F r next) (sym as_before.0) k)
      | inr left ↦
          (let may = left.1.0 in
          subst (λ (H : Stored). IsKept R H z next) (sym (left.1.1.1 h))
          (subst (λ (r : Row). IsKept R (files_left x p n q m may F) r next) (sym left.1.1.0) (marked_kept R F x next p n q m k may)))
    ]

    module _ (t : Tied F x next) where
      pub move_shown : (answer : Result (Unit {0}) Fault) → MovesEntry honest p n q m F x old G z new answer
          → OnOk answer (shown_in R G z ≡ move (shown_in R F x) (p ++ n ∷ []) (q ++ m ∷ []))
      move_shown (Ok u) c =
          let may = c.ok.may in
          let then = moved_in x p n q m may in
          let P : Stored → Type 0 = λ H. shown_in R H then ≡ move (shown_in R F x) (p ++ n ∷ []) (q ++ m ∷ []) in
          ap (λ (r : Row). shown_in R G r) c.ok.root
          ∙ cleared honest (files_moved x p n q m may F) old G new (own_number (find_row m may.target.rows)) P c.ok.files h (moved_shown R F x next p n q m table t may)
          (λ j is.
          (let w = own_is (find_row m may.target.rows) j is in
          subst (λ i. P (without (files_moved x p n q m may F) i)) w.1.1 (replaced_shown R F x next p n q m t may w.0 w.1.0 ∙ moved_shown R F x next p n q m table t may)))
      move_shown (Err e) c = tt

      pub move_unseen : (answer : Result (Unit {0}) Fault) → MovesEntry honest p n q m F x old G z new answer → OnErr answer (shown_in R G z ≡ shown_in R F x)
      move_unseen (Ok u) c = tt
      move_unseen (Err e) c = elim c.err [
        | inl as_before ↦ ap (λ (r : Row). shown_in R G r) as_before.0 ∙ ap (λ (H : Stored). shown_in R H x) (as_before.1 h)
        | inr left ↦ ap (λ (r : Row). shown_in R G r) left.1.1.0 ∙ ap (λ (H : Stored). shown_in R H (marked_source x p n q m left.1.0)) (left.1.1.1 h) ∙ marked_shown R F x next p n q m t left.1.0
      ]
