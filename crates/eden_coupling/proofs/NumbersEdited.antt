-- What changes of a table do to the numbers that it keeps.
use Rattle.std.proofs.Common.{◌≡◌, ◌≢◌, ◌≤◌, ◌<◌, ◌⊎◌, ℕ, List, [], ◌∷◌, ◌++◌, Option, Some, None, inl, inr, refl, sym, ap, subst, ◌∙◌}
use Rattle.std.proofs.lemmas.Option.{same_Some}
use Rattle.eden_model.specs.declared.kind.Origin.TheVariants as origin
use Rattle.eden_model.specs.Backing.{AreShown}
use Rattle.eden_model.specs.Limits.{number_least}
use Rattle.eden_model.specs.Named.{AreRising}
use Rattle.eden_model.specs.Numbers.{Numbering}
use Rattle.eden_model.specs.Operations.{put, move}
use Rattle.eden_model.specs.Paths.{behind_of}
use Rattle.eden_model.specs.Repository.{Repository}
use Rattle.eden_model.specs.Trees.{Name, Path, grafted}
use Rattle.eden_model.proofs.CallerLemmas.{behind_sound}
use Rattle.eden_overlay.specs.Files.{Stored}
use Rattle.eden_tree.specs.Directory.{Row, Directory, child_of, with_child}
use Rattle.eden_tree.specs.Rows.{find_row}
use Rattle.eden_tree.specs.Paths.{row_at}
use Rattle.eden_tree.proofs.CallerLemmas.{child_of-with_child}
use Rattle.eden_coupling.specs.Changing.{changed, with_listing, moved_in}
use Rattle.eden_coupling.specs.NumberChanges.{IsBare}
use Rattle.eden_coupling.specs.NumberKept.{KeepsNumbers, SameNumbers, ChangedNumbers, MarkKeeps, DropKeeps, AddKeeps, ReplaceKeeps, MoveKeeps}
use Rattle.eden_coupling.specs.NumberNodes.{ListTrees}
use Rattle.eden_coupling.specs.Numberings.{NumberFiles, in_files, numbers, numbers_from}
use Rattle.eden_coupling.proofs.NumbersChanged.{change_grafts, drop_is_edit, put_is_edit, move_is_edit, bare_below, named_there}
use Rattle.eden_coupling.proofs.NumbersKept.{same_kept}
use Rattle.eden_coupling.proofs.NumbersListed.{ListsOwnTree, trees_here, trees_from, trees_at, trees_row, trees_loaded, trees_edited, trees_changed}
use Rattle.eden_coupling.proofs.NumbersRead.{directories_alike, edited_alike}
use Rattle.eden_coupling.proofs.NumbersShown.{not_root, same_shown, put_shown, move_shown}

-- what is shown, changed, over the same files
changed_kept : (R : Repository) (F : Stored) (x z : Row) (next : ℕ) (f : Numbering → Numbering) → KeepsNumbers R F x next → ((q : Path) → numbers (in_files F) z q ≡ f (numbers (in_files F) x) q)
    → AreShown (f (numbers (in_files F) x)) next → ListTrees R (in_files F) z → ChangedNumbers R F x f z next
changed_kept R F x z next f k same shown trees = record {
  keeps = record { shown = same_shown (f (numbers (in_files F) x)) (numbers (in_files F) z) next shown same; blank = k.blank; trees = trees };
  changes = same;
}

pub mark_keeps : MarkKeeps
mark_keeps R F x y next p d e k at holds rows =
    let M = in_files F in
    same_kept R F F x (with_listing p e x) next k
    (λ q. edited_alike M p (with_child (Some e)) x y at
    (λ r. directories_alike M y d e holds (λ n s. ap (λ (es : List (Name × Row)). numbers_from M (find_row n es) s) rows) r) q)
    k.blank
    (trees_edited R M p (with_child (Some e)) x y at k.trees
    (trees_loaded R M (with_child (Some e) y) e (child_of-with_child (Some e) y) (λ n z found.
    trees_row R M y z d n holds (trees_at R M p x y at k.trees) (ap (find_row n) (sym rows) ∙ found))))

never : {X Y : Type 0} (v : X) → None ≡ Some v → Y
never v e = cc

pub drop_keeps : DropKeeps
drop_keeps R F x y w next p n d k at holds rising found bare =
    let M = in_files F in
    changed_kept R F x (with_listing p (changed d n None) x) next (λ S. put S (p ++ n ∷ []) None) k
    (λ q. drop_is_edit M p n x y w d q at holds rising found bare)
    (put_shown (numbers M x) next (p ++ n ∷ []) None k.shown (not_root p n) (λ m is. never m is))
    (trees_changed R M p n None x y d at holds rising k.trees (λ v is. never v is))

-- an entry with none below it
bare_trees : (R : Repository) (M : NumberFiles) (z : Row) → IsBare M z → (child_of z ≡ None → ListsOwnTree R M z) → ListTrees R M z
bare_trees R M z bare here = trees_from R M z here (λ m v there. never v (sym (bare m) ∙ there))

own_lists : (R : Repository) (M : NumberFiles) (z : Row) → z.origin ≡ origin.Own → ListsOwnTree R M z
own_lists R M z own id es is had = let both : origin.Own ≡ origin.Object id = sym own ∙ is in absurd (cc)

pub add_keeps : AddKeeps
add_keeps R F x y z next p n d k at holds rising absent own bare least below unseen =
    let M = in_files F in
    changed_kept R F x (with_listing p (changed d n (Some z)) x) next (λ S. put S (p ++ n ∷ []) (Some z.number)) k
    (λ q. put_is_edit M p n x y z d q at holds rising absent bare)
    (put_shown (numbers M x) next (p ++ n ∷ []) (Some z.number) k.shown (not_root p n) (λ m is.
    subst (λ (c : ℕ). (number_least ≤ c) × ((c < next) × ((q : Path) → numbers M x q ≢ Some c))) (same_Some z.number m is) (least, (below, unseen))))
    (trees_changed R M p n (Some z) x y d at holds rising k.trees (λ v is.
    subst (ListTrees R M) (same_Some z v is) (bare_trees R M z bare (λ _. own_lists R M z own))))

-- ---- a file in the place of another

module _ (R : Repository) (F : Stored) (x y z w : Row) (next : ℕ) (p : Path) (n : Name) (d : Directory) (k : KeepsNumbers R F x next) (at : row_at p x ≡ Some y)
    (holds : child_of y ≡ Some d) (rising : AreRising (λ r. r.0) d.rows) (found : find_row n d.rows ≡ Some w) (number : z.number ≡ w.number) where
  abbrev M : NumberFiles
  M = in_files F

  same_form : (q : Path) (o : Option Path) → behind_of (p ++ n ∷ []) q ≡ o → IsBare M w → IsBare M z → grafted o (numbers M z) (numbers M x q) ≡ numbers M x q
  same_form q None e old new = refl
  same_form q (Some r) e old new =
      at_by r ∙ sym (named_there M p n (Some w) x y d r at holds found) ∙ ap (numbers M x) (sym (behind_sound (p ++ n ∷ []) q r e))
    where
      at_by : (r : Path) → numbers M z r ≡ numbers M w r
      at_by [] = ap (λ (c : ℕ). Some c) number
      at_by (m ∷ s) = bare_below M z m s new ∙ sym (bare_below M w m s old)

  its_trees : (z.origin ≡ origin.Own) ⊎ (z.origin ≡ w.origin) → child_of w ≡ None → ListsOwnTree R M z
  its_trees (inl own) away id es is had = own_lists R M z own id es is had
  its_trees (inr same) away id es is had =
      trees_here R M w away (trees_row R M y w d n holds (trees_at R M p x y at k.trees) found) id es (sym same ∙ is) (ap (λ (c : ℕ). M.saved c id) (sym number) ∙ had)

  pub replaced : IsBare M w → IsBare M z → (z.origin ≡ origin.Own) ⊎ (z.origin ≡ w.origin) → child_of w ≡ None → SameNumbers R F x F (with_listing p (changed d n (Some z)) x) next
  replaced old new from away =
      same_kept R F F x (with_listing p (changed d n (Some z)) x) next k
      (λ q. change_grafts M p n (Some z) x y d q at holds rising ∙ same_form q (behind_of (p ++ n ∷ []) q) refl old new)
      k.blank
      (trees_changed R M p n (Some z) x y d at holds rising k.trees (λ v is. subst (ListTrees R M) (same_Some z v is) (bare_trees R M z new (λ _. its_trees from away))))

pub replace_keeps : ReplaceKeeps
replace_keeps R F x y z w next p n d k at holds rising found number old new from away = replaced R F x y z w next p n d k at holds rising found number old new from away

-- ---- what moves

pub move_keeps : MoveKeeps
move_keeps R F x next p n q m may k rising_source rising_target =
    let M = in_files F in
    let left = with_listing p (changed may.source n None) x in
    let taken = trees_changed R M p n None x may.from may.source may.at_from may.holds_source rising_source k.trees (λ v is. never v is) in
    let entry = trees_row R M may.from may.entry may.source n may.holds_source (trees_at R M p x may.from may.at_from k.trees) may.there in
    changed_kept R F x (moved_in x p n q m may) next (λ S. move S (p ++ n ∷ []) (q ++ m ∷ [])) k
    (λ r. move_is_edit M x p n q m r may rising_source rising_target)
    (move_shown (numbers M x) next (p ++ n ∷ []) (q ++ m ∷ []) k.shown (not_root p n) (not_root q m))
    (trees_changed R M q m (Some may.entry) left may.to may.target may.at_to may.holds_target rising_target taken
    (λ v is. subst (ListTrees R M) (same_Some may.entry v is) entry))
