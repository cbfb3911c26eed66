-- The inode numbers that are shown once a change of the table of a mount is done, or was refused.
use Rattle.std.proofs.Common.{◌≡◌, ◌≢◌, ◌≤◌, ◌⊎◌, ℕ, cond, List, [], ◌∷◌, ◌++◌, length, Option, Some, None, Result, Ok, Err, OnOk, OnErr, inl, inr, refl, sym, ap, subst, ◌∙◌}
use Rattle.std.proofs.lemmas.Option.{same_Some}
use Rattle.eden_model.specs.declared.fault.Fault.{Fault}
use Rattle.eden_model.specs.declared.kind.Kind.TheVariants as kind
use Rattle.eden_model.specs.declared.kind.Origin.TheVariants as origin
use Rattle.eden_model.specs.Operations.{put, move}
use Rattle.eden_model.specs.Numbers.{Numbering}
use Rattle.eden_model.specs.Paths.{path_eq}
use Rattle.eden_model.specs.Repository.{Repository}
use Rattle.eden_model.specs.Trees.{Name, Path, graft}
use Rattle.eden_overlay_format.specs.Content.{content_most}
use Rattle.eden_overlay.specs.Files.{Stored}
use Rattle.eden_overlay.specs.Held.{HoldsEntries, with_content, without}
use Rattle.eden_tree.specs.Directory.{Row, Directory, child_of}
use Rattle.eden_tree.specs.Paths.{row_at}
use Rattle.eden_tree.specs.Rows.{find_row}
use Rattle.eden_coupling.specs.Chains.{IsLoadedAt, chained}
use Rattle.eden_coupling.specs.Changing.{changed, files_left, files_moved, moved_in}
use Rattle.eden_coupling.specs.Filing.{HasFile}
use Rattle.eden_coupling.specs.Kept.{IsTable, IsKept}
use Rattle.eden_coupling.specs.Laws.{owned}
use Rattle.eden_coupling.specs.NumberKept.{KeepsNumbers}
use Rattle.eden_coupling.specs.Numberings.{in_files, numbers}
use Rattle.eden_coupling.specs.Standing.{MayStand}
use Rattle.eden_coupling.proofs.CallerLemmas.{refused_keeps, saves_numbers, owned_numbers, chain_numbers, content_numbers}
use Rattle.eden_coupling.proofs.CallerLemmas.{chain_grafts, new_puts, kept_same, removed_grafts, moved_moves, replaced_moves, marked_same}
use Rattle.eden_materialise.specs.Chains.{Owns}
use Rattle.eden_materialise.specs.EntryMoves.{own_number, MovesEntry}
use Rattle.eden_materialise.specs.Filing.{FilesEntry, not_filed, filed}
use Rattle.eden_materialise.specs.Fills.{FillsFile}
use Rattle.eden_materialise.specs.Listings.{ChangesEntry}
use Rattle.eden_materialise.specs.Removals.{RemovesEntry}
use Rattle.eden_materialise.specs.Saving.{SavesAt}
use Rattle.eden_materialise.proofs.EntryMoves.{own_is, cleared}
use Rattle.eden_materialise.proofs.Fills.{filled_kept, may_fill}

-- the table z over the files G shows the numbers that x does over F
abbrev AreSame : Stored → Row → Stored → Row → Type 0
AreSame F x G z = (q : Path) → numbers (in_files G) z q ≡ numbers (in_files F) x q

still_same : (F G : Stored) (x z : Row) → G ≡ F → z ≡ x → AreSame F x G z
still_same F G x z files root q = ap (λ (H : Stored). numbers (in_files H) z q) files ∙ ap (λ (r : Row). numbers (in_files F) r q) root

root_same : (F G : Stored) (x y z : Row) → z ≡ y → AreSame F x G y → AreSame F x G z
root_same F G x y z is same q = ap (λ (r : Row). numbers (in_files G) r q) is ∙ same q

ok_on : {P Q : Type 0} (a : Result (Unit {0}) Fault) → (P → Q) → OnOk a P → OnOk a Q
ok_on (Ok u) f h = f h
ok_on (Err e) f h = tt

err_on : {P Q : Type 0} (a : Result (Unit {0}) Fault) → (P → Q) → OnErr a P → OnErr a Q
err_on (Ok u) f h = tt
err_on (Err e) f h = f h

-- the directory at a path is one
pub one_directory : (x : Row) (p : Path) (n : Name) (y z : Row) (d e : Directory) (o : Option Row) → row_at p x ≡ Some y → child_of y ≡ Some d → row_at p x ≡ Some z → child_of z ≡ Some e
    → find_row n e.rows ≡ o → find_row n d.rows ≡ o
one_directory x p n y z d e o at holds at_z holds_z is =
    let same = same_Some y z (sym at ∙ at_z) in
    let one = same_Some d e (sym holds ∙ ap child_of same ∙ holds_z) in
    ap (λ (a : Directory). find_row n a.rows) one ∙ is

-- a directory that is stored again
pub at_same : (honest : Type 0) (p : Path) (F : Stored) (x : Row) (old : ℕ) (G : Stored) (z : Row) (new next : ℕ) (R : Repository) → honest → KeepsNumbers R F x next
    → (a : Result (Unit {0}) Fault) → SavesAt honest p F x old G z new a → AreSame F x G z
at_same honest p F x old G z new next R h k (Ok u) s = elim s.ok [
  | inl i ↦ still_same F G x z (i.files h) i.root
  | inr t ↦ (saves_numbers honest R F x next p G z h k t).same
]
at_same honest p F x old G z new next R h k (Err e) s = still_same F G x z (s.unchanged h) s.err

-- a chain that becomes the mount's own
pub owns_same : (honest : Type 0) (p : Path) (F : Stored) (x : Row) (old : ℕ) (G : Stored) (z : Row) (new next : ℕ) (R : Repository) → honest → KeepsNumbers R F x next
    → IsLoadedAt p x → (a : Result (Unit {0}) Fault) → Owns honest p F x old G z new a → AreSame F x G z
owns_same honest p F x old G z new next R h k loaded (Ok u) o = root_same F G x _ z o.ok (owned_numbers R F x next p G k loaded (o.stored h)).same
owns_same honest p F x old G z new next R h k loaded (Err e) o = root_same F G x x z o.err (refused_keeps R F x next p G k (o.strays h)).same

-- ---- one entry of a listing

module _ (honest : Type 0) (R : Repository) (p : Path) (n : Name) (F : Stored) (x : Row) (old : ℕ) (G : Stored) (z : Row) (new next : ℕ) (table : IsTable x next)
    (h : honest) (kept : IsKept R F x next) (k : KeepsNumbers R F x next) where
  -- that was refused
  pub refused_same : (o : Option Row) (a : Result (Unit {0}) Fault) → ChangesEntry honest p n o F x old G z new a → OnErr a (AreSame F x G z)
  refused_same o (Ok u) c = tt
  refused_same o (Err e) c = root_same F G x x z c.err (refused_keeps R F x next p G k (c.strays h)).same

  -- one in the place of a file or link
  module _ (v w : Row) (may : MayStand honest R F x next p n (Some v)) (away : child_of v ≡ None) (there : find_row n may.directory.rows ≡ Some w) (number : v.number ≡ w.number)
      (file_w : w.kind ≢ kind.Dir) (file : v.kind ≢ kind.Dir) (from : (v.origin ≡ origin.Own) ⊎ (v.origin ≡ w.origin)) where
    pub swaps_same : (a : Result (Unit {0}) Fault) → ChangesEntry honest p n (Some v) F x old G z new a → AreSame F x G z
    swaps_same (Ok u) c =
        let up = c.stored h may.row may.directory may.at may.holds in
        root_same F G x _ z (c.ok may.row may.directory may.at may.holds)
        (λ q. (chain_numbers honest R F x next p n h table kept k (Some v) may G up).same q
        ∙ kept_same honest R F x next p n h table kept k (Some v) may G up v w away there number file_w file from q)
    swaps_same (Err e) c = refused_same (Some v) (Err e) c

  -- a new one
  module _ (v : Row) (may : MayStand honest R F x next p n (Some v)) (away : child_of v ≡ None) (none : find_row n may.directory.rows ≡ None) (before : KeepsNumbers R F x v.number)
      (empty : v.kind ≡ kind.Dir → HoldsEntries F v.number []) where
    pub comes_puts : (a : Result (Unit {0}) Fault) → ChangesEntry honest p n (Some v) F x old G z new a
        → OnOk a ((q : Path) → numbers (in_files G) z q ≡ put (numbers (in_files F) x) (p ++ n ∷ []) (Some v.number) q)
    comes_puts (Ok u) c =
        let up = c.stored h may.row may.directory may.at may.holds in
        λ q. ap (λ (r : Row). numbers (in_files G) r q) (c.ok may.row may.directory may.at may.holds)
        ∙ (chain_numbers honest R F x next p n h table kept k (Some v) may G up).same q
        ∙ new_puts honest R F x next p n h table kept k (Some v) may G up v away none before empty q
    comes_puts (Err e) c = tt

  -- one that is removed, and its file
  module _ (may : MayStand honest R F x next p n None) where
    abbrev Takes : Stored → Row → Type 0
    Takes H r = (q : Path) → numbers (in_files H) r q ≡ graft (p ++ n ∷ []) (λ below. None) (numbers (in_files F) x) q

    pub removes_takes : (a : Result (Unit {0}) Fault) → RemovesEntry honest p n F x old G z new a → OnOk a (Takes G z)
    removes_takes (Ok u) c =
        let up = c.changes.stored h may.row may.directory may.at may.holds in
        let own = find_row n may.directory.rows in
        let then = chained p (changed may.directory n None) x in
        subst (λ (r : Row). Takes G r) (sym (c.changes.ok may.row may.directory may.at may.holds))
        (cleared honest c.between c.count G new (own_number own) (λ (H : Stored). Takes H then) (c.clears may.row may.directory may.at may.holds) h
        (chain_grafts honest R F x next p n h table kept k None may c.between up)
        (λ j some.
        (let w = own_is own j some in
        subst (λ (i : ℕ). Takes (without c.between i) then) w.1.1 (removed_grafts honest R F x next p n h table kept k may w.0 w.1.0 c.between up))))
    removes_takes (Err e) c = tt

    pub removes_same : (a : Result (Unit {0}) Fault) → RemovesEntry honest p n F x old G z new a → OnErr a (AreSame F x G z)
    removes_same (Ok u) c = tt
    removes_same (Err e) c = root_same F G x x z c.changes.err
        (subst (λ (H : Stored). AreSame F x H x) (sym (c.refused.0 h)) (refused_keeps R F x next p c.between k (c.changes.strays h)).same)

-- ---- a file first

module _ (honest : Type 0) (p : Path) (n : Name) (v w : Row) (F M : Stored) (x : Row) (old : ℕ) (G : Stored) (z : Row) (now next : ℕ) (R : Repository) (table : IsTable x next)
    (may : (B : Stored) → (honest → B ≡ M) → MayStand honest R B x next p n (Some v)) (h : honest) (kept_filed : IsKept R M x next) (filed_numbers : KeepsNumbers R M x next)
    (filed_same : AreSame F x M x) where
  kept_over : (B : Stored) → (honest → B ≡ M) → IsKept R B x next
  kept_over B is = subst (λ (H : Stored). IsKept R H x next) (sym (is h)) kept_filed

  numbers_over : (B : Stored) → (honest → B ≡ M) → KeepsNumbers R B x next
  numbers_over B is = subst (λ (H : Stored). KeepsNumbers R H x next) (sym (is h)) filed_numbers

  over : (B : Stored) → (honest → B ≡ M) → AreSame F x B x
  over B is = subst (λ (H : Stored). AreSame F x H x) (sym (is h)) filed_same

  pub files_swap : (away : child_of v ≡ None) (file_w : w.kind ≢ kind.Dir) (file : v.kind ≢ kind.Dir) (number : v.number ≡ w.number)
      (from : (v.origin ≡ origin.Own) ⊎ (v.origin ≡ w.origin))
      → ((B : Stored) (is : honest → B ≡ M) → find_row n (may B is).directory.rows ≡ Some w) → (a : Result (Unit {0}) Fault) → FilesEntry honest p n v F M x old G z now a → AreSame F x G z
  files_swap away file_w file number from there answer (not_filed e same files why) = still_same F G x z (files h) same
  files_swap away file_w file number from there answer (filed B a is c) =
      λ q. swaps_same honest R p n B x old G z now next table h (kept_over B is) (numbers_over B is) v w (may B is) away (there B is) number file_w file from a c q ∙ over B is q

  put_same : (S T : Numbering) (a q : Path) (c : Option ℕ) → S q ≡ T q → put S a c q ≡ put T a c q
  put_same S T a q c same = ap (λ (v : Option ℕ). cond (path_eq a q) c v) same

  pub files_puts : (away : child_of v ≡ None) → ((B : Stored) (is : honest → B ≡ M) → find_row n (may B is).directory.rows ≡ None) → KeepsNumbers R M x v.number
      → (v.kind ≡ kind.Dir → HoldsEntries M v.number []) → (a : Result (Unit {0}) Fault) → FilesEntry honest p n v F M x old G z now a
      → OnOk a ((q : Path) → numbers (in_files G) z q ≡ put (numbers (in_files F) x) (p ++ n ∷ []) (Some v.number) q)
  files_puts away none before empty answer (not_filed e same files why) = tt
  files_puts away none before empty answer (filed B a is c) =
      ok_on a (λ puts q. puts q ∙ put_same (numbers (in_files B) x) (numbers (in_files F) x) (p ++ n ∷ []) q (Some v.number) (over B is q))
      (comes_puts honest R p n B x old G z now next table h (kept_over B is) (numbers_over B is) v (may B is) away (none B is)
      (subst (λ (H : Stored). KeepsNumbers R H x v.number) (sym (is h)) before)
      (λ dir. subst (λ (H : Stored). HoldsEntries H v.number []) (sym (is h)) (empty dir)) a c)

  pub files_same : (a : Result (Unit {0}) Fault) → FilesEntry honest p n v F M x old G z now a → OnErr a (AreSame F x G z)
  files_same answer (not_filed e same files why) = still_same F G x z (files h) same
  files_same answer (filed B a is c) =
      err_on a (λ same q. same q ∙ over B is q) (refused_same honest R p n B x old G z now next table h (kept_over B is) (numbers_over B is) (Some v) a c)

-- a content that is stored
module _ (honest : Type 0) (R : Repository) (p : Path) (n : Name) (w : Row) (content : List ℕ) (F : Stored) (x : Row) (next : ℕ) (table : IsTable x next) (a : HasFile x p n w)
    (short : length content ≤ content_most) (old : ℕ) (G : Stored) (z : Row) (now : ℕ) (h : honest) (kept : IsKept R F x next) (k : KeepsNumbers R F x next) where
  abbrev M : Stored
  M = with_content F w.number content

  pub fills_same : (answer : Result (Unit {0}) Fault) → FillsFile honest p n w F M x old G z now answer → AreSame F x G z
  fills_same (Ok u) (inl (own, c)) = λ q. still_same M G x z (c.ok h) c.root q ∙ (content_numbers R F x next p n w a k content).same q
  fills_same (Err e) (inl (own, c)) = still_same F G x z (c.err h) c.root
  fills_same answer (inr (other, c)) =
      files_swap honest p n (owned w) w F M x old G z now next R table (may_fill honest R p n w content F x next table a short) h
      (filled_kept honest R p n w content F x next table a short kept) (content_numbers R F x next p n w a k content).keeps (content_numbers R F x next p n w a k content).same
      a.unloaded a.file a.file refl (inl refl) (λ B is. (let m = may_fill honest R p n w content F x next table a short B is in one_directory x p n m.row a.row m.directory a.directory (Some w) m.at
      m.holds a.at a.holds a.there)) answer c

-- ---- an entry that moves

module _ (honest : Type 0) (F : Stored) (x : Row) (next : ℕ) (p : Path) (n : Name) (q : Path) (m : Name) (old : ℕ) (G : Stored) (z : Row) (new : ℕ) (table : IsTable x next)
    (h : honest) (R : Repository) (kept : IsKept R F x next) (k : KeepsNumbers R F x next) where
  abbrev Moves : Stored → Row → Type 0
  Moves H r = (s : Path) → numbers (in_files H) r s ≡ move (numbers (in_files F) x) (p ++ n ∷ []) (q ++ m ∷ []) s

  pub move_moves : (a : Result (Unit {0}) Fault) → MovesEntry honest p n q m F x old G z new a → OnOk a (Moves G z)
  move_moves (Ok u) c =
      let may = c.ok.may in
      let P : Stored → Type 0 = λ H. Moves H (moved_in x p n q m may) in
      subst (λ (r : Row). Moves G r) (sym c.ok.root)
      (cleared honest (files_moved x p n q m may F) old G new (own_number (find_row m may.target.rows)) P c.ok.files h (moved_moves R F x next p n q m table kept k may)
      (λ j is.
      (let w = own_is (find_row m may.target.rows) j is in
      subst (λ i. P (without (files_moved x p n q m may F) i)) w.1.1 (replaced_moves R F x next p n q m table kept k may w.0 w.1.0))))
  move_moves (Err e) c = tt

  pub move_same : (a : Result (Unit {0}) Fault) → MovesEntry honest p n q m F x old G z new a → OnErr a (AreSame F x G z)
  move_same (Ok u) c = tt
  move_same (Err e) c = elim c.err [
    | inl as_before ↦ still_same F G x z (as_before.1 h) as_before.0
    | inr left ↦
        (let may = left.1.0 in
        subst (λ (H : Stored). AreSame F x H z) (sym (left.1.1.1 h))
        (root_same F (files_left x p n q m may F) x _ z left.1.1.0 (marked_same R F x next p n q m table kept k may).same))
  ]
