-- What single steps in memory keep of numbers.
use Rattle.std.proofs.Common.{◌≡◌, ◌≢◌, ◌≤◌, ◌<◌, ◌⊎◌, ℕ, [], ◌∷◌, ◌++◌, Option, Some, None, inl, inr, refl, sym, ap, subst, ◌∙◌, append-nil, arith}
use Rattle.std.proofs.lemmas.Option.{same_Some, none-some}
use Rattle.eden_model.specs.declared.id.Id.{Id}
use Rattle.eden_model.specs.Backing.{AreShown}
use Rattle.eden_model.specs.Limits.{number_least}
use Rattle.eden_model.specs.Named.{AreRising}
use Rattle.eden_model.specs.Numbers.{Numbering, AreOnce}
use Rattle.eden_model.specs.Paths.{behind_of}
use Rattle.eden_model.specs.Repository.{Repository}
use Rattle.eden_model.specs.Trees.{Name, Path, grafted}
use Rattle.eden_model.proofs.CallerLemmas.{behind_sound, behind_back}
use Rattle.eden_overlay.specs.Files.{Stored}
use Rattle.eden_overlay.specs.Held.{saved_at}
use Rattle.eden_tree.specs.Directory.{Row, Directory, child_of, with_child}
use Rattle.eden_tree.specs.Paths.{row_at}
use Rattle.eden_tree.specs.Rows.{find_row}
use Rattle.eden_tree.proofs.CallerLemmas.{child_of-with_child}
use Rattle.eden_coupling.specs.Changing.{changed, with_listing, MayMove, moved_in}
use Rattle.eden_coupling.specs.Laws.{owned}
use Rattle.eden_coupling.specs.Materialising.{owned_along}
use Rattle.eden_coupling.specs.NumberChanges.{IsBare}
use Rattle.eden_coupling.specs.NumberKept.{KeepsNumbers}
use Rattle.eden_coupling.specs.NumberNodes.{ListTrees}
use Rattle.eden_coupling.specs.NumberSteps.{LeaveKeeps, LeftNotShown, ReplacedNotShown, ComeKeeps, OwnedKeeps, HoldKeeps}
use Rattle.eden_coupling.specs.Numberings.{NumberFiles, in_files, numbers, numbers_from}
use Rattle.eden_coupling.proofs.NumbersChanged.{change_grafts, named_there, bare_below}
use Rattle.eden_coupling.proofs.NumbersKept.{same_kept}
use Rattle.eden_coupling.proofs.NumbersListed.{trees_from, trees_changed, trees_chained, trees_edited, trees_loaded, trees_below, trees_at}
use Rattle.eden_coupling.proofs.NumbersRead.{below_away, below_loaded, same_below, edited_alike}
use Rattle.eden_coupling.proofs.NumbersSaved.{along_alike}
use Rattle.eden_coupling.proofs.NumbersShown.{not_root}
use Rattle.eden_coupling.proofs.NumbersStored.{stored_entry_by}

-- ---- fewer numbers

-- a part of what is shown, the root's among it
fewer_shown : (S T : Numbering) (next : ℕ) → AreShown S next → T [] ≡ S [] → ((q : Path) (n : ℕ) → T q ≡ Some n → S q ≡ Some n) → AreShown T next
fewer_shown S T next are root each = record {
  root = root ∙ are.root;
  once = λ p q n a b. are.once p q n (each p n a) (each q n b);
  from_two = λ p n h other. are.from_two p n (each p n h) other;
  below = λ p n h. are.below p n (each p n h);
  start = are.start;
  most = are.most;
}

no_longer : (a r : Path) → [] ≡ a ++ r → a ≡ []
no_longer [] r e = refl
no_longer (m ∷ a) r e = cc

module _ (S : Numbering) (a : Path) (low : a ≢ []) where
  left_root : (o : Option Path) → behind_of a [] ≡ o → grafted o (λ r. None) (S []) ≡ S []
  left_root None e = refl
  left_root (Some r) e = absurd (low (no_longer a r (behind_sound a [] r e)))

  left_part : (q : Path) (n : ℕ) (o : Option Path) → grafted o (λ r. None) (S q) ≡ Some n → S q ≡ Some n
  left_part q n None h = h
  left_part q n (Some r) h = cc

never : {X Y : Type 0} (v : X) → None ≡ Some v → Y
never v e = cc

pub leave_keeps : LeaveKeeps
leave_keeps R F x y next p n d k at holds rising =
    let M = in_files F in
    let S = numbers M x in
    let a = p ++ n ∷ [] in
    let z = with_listing p (changed d n None) x in
    let grafts : (q : Path) → numbers M z q ≡ grafted (behind_of a q) (λ r. None) (S q) = λ q. change_grafts M p n None x y d q at holds rising in
    record {
      shown = fewer_shown S (numbers M z) next k.shown (grafts [] ∙ left_root S a (not_root p n) (behind_of a []) refl)
          (λ q m h. left_part S a (not_root p n) q m (behind_of a q) (sym (grafts q) ∙ h));
      blank = k.blank;
      trees = trees_changed R M p n None x y d at holds rising k.trees (λ v is. never v is);
    }

-- what stood under the name was shown there alone
gone_from : (S : Numbering) (a q : Path) (c : ℕ) → AreOnce S → S (a ++ []) ≡ Some c → (o : Option Path) → behind_of a q ≡ o → grafted o (λ r. None) (S q) ≡ Some c → ⊥
gone_from S a q c once stood None e shown = none-some [] (sym e ∙ ap (behind_of a) (once q (a ++ []) c shown stood) ∙ behind_back a [])
gone_from S a q c once stood (Some r) e shown = cc

pub left_not_shown : LeftNotShown
left_not_shown R F x y w next p n d k at holds rising found q h =
    let M = in_files F in
    let a = p ++ n ∷ [] in
    gone_from (numbers M x) a q w.number k.shown.once (named_there M p n (Some w) x y d [] at holds found) (behind_of a q) refl
    (sym (change_grafts M p n None x y d q at holds rising) ∙ h)

module _ (R : Repository) (F : Stored) (x w : Row) (next : ℕ) (p : Path) (n : Name) (q : Path) (m : Name) (may : MayMove x p n q m) (k : KeepsNumbers R F x next)
    (rising_source : AreRising (λ e. e.0) may.source.rows) (rising_target : AreRising (λ e. e.0) may.target.rows) (found : find_row m may.target.rows ≡ Some w) where
  abbrev M : NumberFiles
  M = in_files F

  abbrev a : Path
  a = p ++ n ∷ []

  abbrev b : Path
  b = q ++ m ∷ []

  abbrev left : Row
  left = with_listing p (changed may.source n None) x

  left_kept : KeepsNumbers R F left next
  left_kept = leave_keeps R F x may.from next p n may.source k may.at_from may.holds_source rising_source

  -- there it stood
  stood : numbers M left (b ++ []) ≡ Some w.number
  stood = named_there M q m (Some w) left may.to may.target [] may.at_to may.holds_target found

  left_grafts : (r : Path) → numbers M left r ≡ grafted (behind_of a r) (λ s. None) (numbers M x r)
  left_grafts r = change_grafts M p n None x may.from may.source r may.at_from may.holds_source rising_source

  -- what was shown there was not the entry's own
  beside : (o : Option Path) → behind_of a (b ++ []) ≡ o → (behind_of a (b ++ []) ≡ None) × (numbers M x (b ++ []) ≡ Some w.number)
  beside None e = (e, ap (λ u. grafted u (λ s. None) (numbers M x (b ++ []))) (sym e) ∙ sym (left_grafts (b ++ [])) ∙ stood)
  beside (Some s) e = let no : None ≡ Some w.number = ap (λ u. grafted u (λ s. None) (numbers M x (b ++ []))) (sym e) ∙ sym (left_grafts (b ++ [])) ∙ stood in cc

  not_there : (r : Path) (o : Option Path) → behind_of b r ≡ o → grafted o (numbers M may.entry) (numbers M left r) ≡ Some w.number → ⊥
  not_there r None e shown =
      let one : r ≡ b ++ [] = left_kept.shown.once r (b ++ []) w.number shown stood in
      none-some [] (sym e ∙ ap (behind_of b) one ∙ behind_back b [])
  not_there r (Some s) e shown =
      let was = beside (behind_of a (b ++ [])) refl in
      let one : a ++ s ≡ b ++ [] = k.shown.once (a ++ s) (b ++ []) w.number
      (named_there M p n (Some may.entry) x may.from may.source s may.at_from may.holds_source may.there ∙ shown) was.1 in
      none-some s (sym was.0 ∙ ap (behind_of a) (sym one) ∙ behind_back a s)

  pub replaced_gone : (r : Path) → numbers M (moved_in x p n q m may) r ≢ Some w.number
  replaced_gone r h = not_there r (behind_of b r) refl (sym (change_grafts M q m (Some may.entry) left may.to may.target r may.at_to may.holds_target rising_target) ∙ h)

pub replaced_not_shown : ReplacedNotShown
replaced_not_shown R F x w next p n q m may k rising_source rising_target found r = replaced_gone R F x w next p n q m may k rising_source rising_target found r

-- ---- what comes

module _ (R : Repository) (F : Stored) (x y z : Row) (next : ℕ) (p : Path) (n : Name) (d : Directory) (k : KeepsNumbers R F x next) (at : row_at p x ≡ Some y)
    (holds : child_of y ≡ Some d) (rising : AreRising (λ r. r.0) d.rows) (bare : IsBare (in_files F) z) (unsaved : (id : Id) → saved_at F z.number id ≡ None)
    (least : number_least ≤ z.number) (below : z.number < next) (unseen : (q : Path) → numbers (in_files F) x q ≢ Some z.number) where
  abbrev N : NumberFiles
  N = in_files F

  abbrev there : Path
  there = p ++ n ∷ []

  abbrev then : Row
  then = with_listing p (changed d n (Some z)) x

  grafts : (q : Path) → numbers N then q ≡ grafted (behind_of there q) (numbers N z) (numbers N x q)
  grafts q = change_grafts N p n (Some z) x y d q at holds rising

  of_its_own : (r : Path) (m : ℕ) → numbers N z r ≡ Some m → (r ≡ []) × (m ≡ z.number)
  of_its_own [] m h = (refl, sym (same_Some z.number m h))
  of_its_own (a ∷ r) m h = absurd (none-some m (sym (bare_below N z a r bare) ∙ h))

  by_place : (q : Path) (m : ℕ) (o : Option Path) → behind_of there q ≡ o → grafted o (numbers N z) (numbers N x q) ≡ Some m
      → ((q ≡ there) × (m ≡ z.number)) ⊎ (numbers N x q ≡ Some m)
  by_place q m None e h = inr h
  by_place q m (Some r) e h =
      let own = of_its_own r m h in
      inl (behind_sound there q r e ∙ ap (λ (s : Path). there ++ s) own.0 ∙ append-nil there, own.1)

  case_of : (q : Path) (m : ℕ) → numbers N then q ≡ Some m → ((q ≡ there) × (m ≡ z.number)) ⊎ (numbers N x q ≡ Some m)
  case_of q m h = by_place q m (behind_of there q) refl (sym (grafts q) ∙ h)

  root_stays : (o : Option Path) → behind_of there [] ≡ o → grafted o (numbers N z) (numbers N x []) ≡ numbers N x []
  root_stays None e = refl
  root_stays (Some r) e = absurd (not_root p n (no_longer there r (behind_sound there [] r e)))

  come_shown : AreShown (numbers N then) next
  come_shown = record {
    root = grafts [] ∙ root_stays (behind_of there []) refl ∙ k.shown.root;
    once = λ q r m a b. elim (case_of q m a) [
      | inl here ↦ elim (case_of r m b) [ inl also ↦ here.0 ∙ sym also.0 | inr old ↦ absurd (unseen r (old ∙ ap (λ (c : ℕ). Some c) here.1)) ]
      | inr old ↦ elim (case_of r m b) [ inl here ↦ absurd (unseen q (old ∙ ap (λ (c : ℕ). Some c) here.1)) | inr also ↦ k.shown.once q r m old also ]
    ];
    from_two = λ q m h other. elim (case_of q m h) [ inl here ↦ (let is = here.1 in omega (arith, least, is)) | inr old ↦ k.shown.from_two q m old other ];
    below = λ q m h. elim (case_of q m h) [ inl here ↦ (let is = here.1 in omega (arith, below, is)) | inr old ↦ k.shown.below q m old ];
    start = k.shown.start;
    most = k.shown.most;
  }

  its_trees : ListTrees R N z
  its_trees = trees_from R N z (λ _ id es is had. never es (sym (unsaved id) ∙ had)) (λ m v found. never v (sym (bare m) ∙ found))

  pub come : KeepsNumbers R F then next
  come = record {
    shown = come_shown;
    blank = k.blank;
    trees = trees_changed R N p n (Some z) x y d at holds rising k.trees (λ v is. subst (ListTrees R N) (same_Some z v is) its_trees);
  }

pub come_keeps : ComeKeeps
come_keeps R F x y z next p n d k at holds rising bare unsaved least below unseen = come R F x y z next p n d k at holds rising bare unsaved least below unseen

-- ---- a chain that becomes the mount's own

pub owned_keeps : OwnedKeeps
owned_keeps R F x y next p d k at holds =
    let M = in_files F in
    same_kept R F F x (owned (owned_along p x)) next k (λ q. along_alike M p x y d at holds q) k.blank (trees_chained R M p x y d at holds k.trees)

-- ---- a directory that is held again

pub hold_keeps : HoldKeeps
hold_keeps R F x y next p d k at away inside_none had =
    let M = in_files F in
    let v = with_child (Some d) y in
    let holds = child_of-with_child (Some d) y in
    same_kept R F F x (with_listing p d x) next k
    (λ q. edited_alike M p (with_child (Some d)) x y at
    (λ r. same_below M M y v refl (λ n s. ap (λ (o : Option Row). numbers_from M o s)
    (below_loaded M v d n holds ∙ sym (stored_entry_by M y d n inside_none had) ∙ sym (below_away M y n away))) r) q)
    k.blank
    (trees_edited R M p (with_child (Some d)) x y at k.trees
    (trees_loaded R M v d holds (λ n w found.
    trees_below R M y w n (trees_at R M p x y at k.trees) (below_away M y n away ∙ stored_entry_by M y d n inside_none had ∙ found))))
