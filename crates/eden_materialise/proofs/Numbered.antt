-- What a change of the table of a mount keeps of its inode numbers.
use Rattle.std.proofs.Common.{◌≡◌, ◌≤◌, ℕ, List, length, Option, Some, None, Result, Ok, Err, inl, inr, sym, subst}
use Rattle.eden_model.specs.declared.fault.Fault.{Fault}
use Rattle.eden_model.specs.Repository.{Repository}
use Rattle.eden_model.specs.Trees.{Name, Path}
use Rattle.eden_overlay_format.specs.Content.{content_most}
use Rattle.eden_overlay.specs.Files.{Stored}
use Rattle.eden_overlay.specs.Held.{with_content, without}
use Rattle.eden_tree.specs.Directory.{Row}
use Rattle.eden_tree.specs.Rows.{find_row}
use Rattle.eden_coupling.specs.Chains.{IsLoadedAt}
use Rattle.eden_coupling.specs.Changing.{files_left, files_moved, moved_in}
use Rattle.eden_coupling.specs.Filing.{HasFile}
use Rattle.eden_coupling.specs.Kept.{IsTable, IsKept}
use Rattle.eden_coupling.specs.Laws.{owned}
use Rattle.eden_coupling.specs.NumberKept.{KeepsNumbers}
use Rattle.eden_coupling.specs.Standing.{MayStand}
use Rattle.eden_coupling.proofs.CallerLemmas.{refused_keeps, saves_numbers, owned_numbers, chain_numbers, removed_numbers, content_numbers, moved_numbers, replaced_numbers, marked_numbers}
use Rattle.eden_materialise.specs.Chains.{Owns}
use Rattle.eden_materialise.specs.EntryMoves.{own_number, MovesEntry}
use Rattle.eden_materialise.specs.Filing.{FilesEntry, not_filed, filed}
use Rattle.eden_materialise.specs.Fills.{FillsFile}
use Rattle.eden_materialise.specs.Listings.{ChangesEntry}
use Rattle.eden_materialise.specs.Removals.{RemovesEntry}
use Rattle.eden_materialise.specs.Saving.{SavesAt}
use Rattle.eden_materialise.proofs.EntryMoves.{own_is, cleared}
use Rattle.eden_materialise.proofs.Fills.{filled_kept, may_fill}

-- the same table over the same files
still_numbered : (R : Repository) (F G : Stored) (x z : Row) (next : ℕ) → KeepsNumbers R F x next → G ≡ F → z ≡ x → KeepsNumbers R G z next
still_numbered R F G x z next k files root = subst (λ (r : Row). KeepsNumbers R G r next) (sym root) (subst (λ (H : Stored). KeepsNumbers R H x next) (sym files) k)

-- a directory that is stored again
pub at_numbered : (honest : Type 0) (p : Path) (F : Stored) (x : Row) (old : ℕ) (G : Stored) (z : Row) (new next : ℕ) (R : Repository) → honest → KeepsNumbers R F x next
    → (a : Result (Unit {0}) Fault) → SavesAt honest p F x old G z new a → KeepsNumbers R G z next
at_numbered honest p F x old G z new next R h k (Ok u) s = elim s.ok [
  | inl i ↦ still_numbered R F G x z next k (i.files h) i.root
  | inr t ↦ (saves_numbers honest R F x next p G z h k t).keeps
]
at_numbered honest p F x old G z new next R h k (Err e) s = still_numbered R F G x z next k (s.unchanged h) s.err

-- a chain that becomes the mount's own
pub owns_numbered : (honest : Type 0) (p : Path) (F : Stored) (x : Row) (old : ℕ) (G : Stored) (z : Row) (new next : ℕ) (R : Repository) → honest → KeepsNumbers R F x next
    → IsLoadedAt p x → (a : Result (Unit {0}) Fault) → Owns honest p F x old G z new a → KeepsNumbers R G z next
owns_numbered honest p F x old G z new next R h k loaded (Ok u) o =
    subst (λ (r : Row). KeepsNumbers R G r next) (sym o.ok) (owned_numbers R F x next p G k loaded (o.stored h)).keeps
owns_numbered honest p F x old G z new next R h k loaded (Err e) o =
    subst (λ (r : Row). KeepsNumbers R G r next) (sym o.err) (refused_keeps R F x next p G k (o.strays h)).keeps

-- ---- one entry of a listing

module _ (honest : Type 0) (R : Repository) (p : Path) (n : Name) (o : Option Row) (F : Stored) (x : Row) (old : ℕ) (G : Stored) (z : Row) (new next : ℕ) (table : IsTable x next)
    (may : MayStand honest R F x next p n o) (h : honest) (kept : IsKept R F x next) (k : KeepsNumbers R F x next) where
  pub changes_numbered : (a : Result (Unit {0}) Fault) → ChangesEntry honest p n o F x old G z new a → KeepsNumbers R G z next
  changes_numbered (Ok u) c =
      subst (λ (r : Row). KeepsNumbers R G r next) (sym (c.ok may.row may.directory may.at may.holds))
      (chain_numbers honest R F x next p n h table kept k o may G (c.stored h may.row may.directory may.at may.holds)).keeps
  changes_numbered (Err e) c = subst (λ (r : Row). KeepsNumbers R G r next) (sym c.err) (refused_keeps R F x next p G k (c.strays h)).keeps

-- one that is removed, and its file
module _ (honest : Type 0) (R : Repository) (p : Path) (n : Name) (F : Stored) (x : Row) (old : ℕ) (G : Stored) (z : Row) (new next : ℕ) (table : IsTable x next)
    (may : MayStand honest R F x next p n None) (h : honest) (kept : IsKept R F x next) (k : KeepsNumbers R F x next) where
  pub removes_numbered : (a : Result (Unit {0}) Fault) → RemovesEntry honest p n F x old G z new a → KeepsNumbers R G z next
  removes_numbered (Ok u) c =
      let is = c.changes.ok may.row may.directory may.at may.holds in
      let own = find_row n may.directory.rows in
      cleared honest c.between c.count G new (own_number own) (λ H. KeepsNumbers R H z next) (c.clears may.row may.directory may.at may.holds) h
      (changes_numbered honest R p n None F x old c.between z c.count next table may h kept k (Ok u) c.changes)
      (λ j some.
      (let w = own_is own j some in
      let P : ℕ → Type 0 = λ i. KeepsNumbers R (without c.between i) z next in
      subst P w.1.1 (subst (λ (r : Row). KeepsNumbers R (without c.between w.0.number) r next) (sym is)
      (removed_numbers honest R F x next p n h table kept k may w.0 w.1.0 c.between (c.changes.stored h may.row may.directory may.at may.holds)))))
  removes_numbered (Err e) c =
      subst (λ (H : Stored). KeepsNumbers R H z next) (sym (c.refused.0 h))
      (changes_numbered honest R p n None F x old c.between z c.count next table may h kept k (Err e) c.changes)

-- one whose own file is stored first
module _ (honest : Type 0) (p : Path) (n : Name) (w : Row) (F M : Stored) (x : Row) (old : ℕ) (G : Stored) (z : Row) (now next : ℕ) (R : Repository) (table : IsTable x next)
    (may : (B : Stored) → (honest → B ≡ M) → MayStand honest R B x next p n (Some w)) (h : honest) (k : KeepsNumbers R F x next) (kept_filed : IsKept R M x next)
    (filed_numbers : KeepsNumbers R M x next) where
  pub files_numbered : (a : Result (Unit {0}) Fault) → FilesEntry honest p n w F M x old G z now a → KeepsNumbers R G z next
  files_numbered answer (not_filed e same files why) = still_numbered R F G x z next k (files h) same
  files_numbered answer (filed B a is c) =
      changes_numbered honest R p n (Some w) B x old G z now next table (may B is) h (subst (λ (H : Stored). IsKept R H x next) (sym (is h)) kept_filed)
      (subst (λ (H : Stored). KeepsNumbers R H x next) (sym (is h)) filed_numbers) a c

-- a content that is stored
module _ (honest : Type 0) (R : Repository) (p : Path) (n : Name) (w : Row) (content : List ℕ) (F : Stored) (x : Row) (next : ℕ) (table : IsTable x next) (a : HasFile x p n w)
    (short : length content ≤ content_most) (old : ℕ) (G : Stored) (z : Row) (now : ℕ) (h : honest) (kept : IsKept R F x next) (k : KeepsNumbers R F x next) where
  abbrev M : Stored
  M = with_content F w.number content

  with_it : KeepsNumbers R M x next
  with_it = (content_numbers R F x next p n w a k content).keeps

  pub fills_numbered : (answer : Result (Unit {0}) Fault) → FillsFile honest p n w F M x old G z now answer → KeepsNumbers R G z next
  fills_numbered (Ok u) (inl (own, c)) = still_numbered R M G x z next with_it (c.ok h) c.root
  fills_numbered (Err e) (inl (own, c)) = still_numbered R F G x z next k (c.err h) c.root
  fills_numbered answer (inr (other, c)) =
      files_numbered honest p n (owned w) F M x old G z now next R table (may_fill honest R p n w content F x next table a short) h k
      (filled_kept honest R p n w content F x next table a short kept) with_it answer c

-- ---- an entry that moves

module _ (honest : Type 0) (F : Stored) (x : Row) (next : ℕ) (p : Path) (n : Name) (q : Path) (m : Name) (old : ℕ) (G : Stored) (z : Row) (new : ℕ) (table : IsTable x next)
    (h : honest) (R : Repository) (kept : IsKept R F x next) (k : KeepsNumbers R F x next) where
  pub move_numbered : (a : Result (Unit {0}) Fault) → MovesEntry honest p n q m F x old G z new a → KeepsNumbers R G z next
  move_numbered (Ok u) c =
      let may = c.ok.may in
      let P : Stored → Type 0 = λ H. KeepsNumbers R H (moved_in x p n q m may) next in
      subst (λ (r : Row). KeepsNumbers R G r next) (sym c.ok.root)
      (cleared honest (files_moved x p n q m may F) old G new (own_number (find_row m may.target.rows)) P c.ok.files h (moved_numbers R F x next p n q m table kept k may)
      (λ j is.
      (let w = own_is (find_row m may.target.rows) j is in
      subst (λ i. P (without (files_moved x p n q m may F) i)) w.1.1 (replaced_numbers R F x next p n q m table kept k may w.0 w.1.0))))
  move_numbered (Err e) c = elim c.err [
    | inl as_before ↦ still_numbered R F G x z next k (as_before.1 h) as_before.0
    | inr left ↦
        (let may = left.1.0 in
        subst (λ (H : Stored). KeepsNumbers R H z next) (sym (left.1.1.1 h))
        (subst (λ (r : Row). KeepsNumbers R (files_left x p n q m may F) r next) (sym left.1.1.0) (marked_numbers R F x next p n q m table kept k may)))
  ]
