-- What a change of the table does to the numbers that are shown.
use Rattle.std.proofs.Common.{◌≡◌, ℕ, Bool, true, false, cond, [], ◌∷◌, ◌++◌, Option, Some, None, refl, sym, ap, ◌∙◌, append_assoc, append-nil}
use Rattle.std.specs.Option.{option_map}
use Rattle.eden_model.specs.Paths.{path_eq, behind_of}
use Rattle.eden_model.specs.Trees.{Name, Path, grafted}
use Rattle.eden_model.specs.Operations.{put}
use Rattle.eden_model.specs.Numbers.{Numbering}
use Rattle.eden_model.proofs.CallerLemmas.{path_eq-Decides, behind_sound, behind_back}
use Rattle.eden_tree.specs.Directory.{Row, Directory, child_of}
use Rattle.eden_tree.specs.Rows.{find_row}
use Rattle.eden_tree.specs.Paths.{row_at}
use Rattle.eden_tree.proofs.CallerLemmas.{same-refl, same-≢}
use Rattle.eden_coupling.specs.Changing.{changed, with_listing}
use Rattle.eden_coupling.specs.Numberings.{NumberFiles, numbers, numbers_from}
use Rattle.eden_coupling.specs.NumberChanges.{IsBare, ChangeGrafts, DropIsEdit, PutIsEdit, MoveIsEdit, BareSame, UnseenSame}
use Rattle.eden_coupling.proofs.Moved.{find_with}
use Rattle.eden_coupling.proofs.NumbersRead.{below_loaded, same_below, numbers_from_entry, numbers_of_entries, name_grafts, edited_alike}
use Rattle.eden_coupling.proofs.NumbersStored.{file_unseen}

pub change_grafts : ChangeGrafts
change_grafts M p n o x y d q at holds rising =
    name_grafts M p n x y d (changed d n o) q at holds (λ m other. find_with m n o d.rows rising ∙ ap (λ (b : Bool). cond b o (find_row m d.rows)) (same-≢ m n other))
    ∙ ap (λ (v : Option Row). grafted (behind_of (p ++ n ∷ []) q) (numbers_from M v) (numbers M x q)) (find_with n n o d.rows rising ∙ ap (λ (b : Bool). cond b o (find_row n d.rows)) (same-refl n))

-- what stands under a name of a loaded directory
pub named_there : (M : NumberFiles) (p : Path) (n : Name) (o : Option Row) (x y : Row) (d : Directory) (r : Path) → row_at p x ≡ Some y → child_of y ≡ Some d → find_row n d.rows ≡ o
    → numbers M x ((p ++ n ∷ []) ++ r) ≡ numbers_from M o r
named_there M p n o x y d r at holds found =
    ap (numbers M x) (append_assoc p (n ∷ []) r)
    ∙ numbers_from_entry M x y p (n ∷ r) at
    ∙ ap (λ (v : Option Row). numbers_from M v r) (below_loaded M y d n holds ∙ found)

pub bare_below : (M : NumberFiles) (w : Row) (k : Name) (r : Path) → IsBare M w → numbers M w (k ∷ r) ≡ None
bare_below M w k r bare = ap (λ (v : Option Row). numbers_from M v r) (bare k)

-- a part that is one path at most is put there
apart_of : (a q : Path) (b : Bool) → path_eq a q ≡ b → behind_of a q ≡ None → b ≡ false
apart_of a q true e none =
    let is : q ≡ a ++ [] = sym ((path_eq-Decides a q).0 e) ∙ sym (append-nil a) in
    let both : Some [] ≡ None = sym (behind_back a []) ∙ sym (ap (behind_of a) is) ∙ none in cc
apart_of a q false e none = refl

longer_of : (a q r : Path) (k : Name) (b : Bool) → path_eq a q ≡ b → behind_of a q ≡ Some (k ∷ r) → b ≡ false
longer_of a q r k true e behind =
    let is : q ≡ a ++ [] = sym ((path_eq-Decides a q).0 e) ∙ sym (append-nil a) in
    let both : Some [] ≡ Some (k ∷ r) = sym (behind_back a []) ∙ sym (ap (behind_of a) is) ∙ behind in cc
longer_of a q r k false e behind = refl

pub put_form : (S X : Numbering) (a : Path) (v : Option ℕ) (q : Path) (o : Option Path) → behind_of a q ≡ o → X [] ≡ v → ((k : Name) (r : Path) → X (k ∷ r) ≡ None)
    → ((k : Name) (r : Path) → S (a ++ k ∷ r) ≡ None) → grafted o X (S q) ≡ put S a v q
put_form S X a v q None e first new old = sym (ap (λ (b : Bool). cond b v (S q)) (apart_of a q (path_eq a q) refl e))
put_form S X a v q (Some []) e first new old =
    first ∙ sym (ap (λ (b : Bool). cond b v (S q)) ((path_eq-Decides a q).1 (sym (behind_sound a q [] e ∙ append-nil a))))
put_form S X a v q (Some (k ∷ r)) e first new old =
    new k r ∙ sym (old k r) ∙ ap S (sym (behind_sound a q (k ∷ r) e)) ∙ sym (ap (λ (b : Bool). cond b v (S q)) (longer_of a q r k (path_eq a q) refl e))

pub drop_is_edit : DropIsEdit
drop_is_edit M p n x y w d q at holds rising found bare =
    change_grafts M p n None x y d q at holds rising
    ∙ put_form (numbers M x) (numbers_from M None) (p ++ n ∷ []) None q (behind_of (p ++ n ∷ []) q) refl refl (λ k r. refl)
    (λ k r. named_there M p n (Some w) x y d (k ∷ r) at holds found ∙ bare_below M w k r bare)

pub put_is_edit : PutIsEdit
put_is_edit M p n x y z d q at holds rising found bare =
    change_grafts M p n (Some z) x y d q at holds rising
    ∙ put_form (numbers M x) (numbers M z) (p ++ n ∷ []) (Some z.number) q (behind_of (p ++ n ∷ []) q) refl refl (λ k r. bare_below M z k r bare)
    (λ k r. named_there M p n None x y d (k ∷ r) at holds found)

grafted_alike : (o : Option Path) (X Y : Numbering) (e : Option ℕ) → ((r : Path) → X r ≡ Y r) → grafted o X e ≡ grafted o Y e
grafted_alike None X Y e same = refl
grafted_alike (Some r) X Y e same = same r

pub move_is_edit : MoveIsEdit
move_is_edit M x p n q m r may rising_source rising_target =
    change_grafts M q m (Some may.entry) (with_listing p (changed may.source n None) x) may.to may.target r may.at_to may.holds_target rising_target
    ∙ grafted_alike (behind_of (q ++ m ∷ []) r) (numbers M may.entry) (λ rest. numbers M x ((p ++ n ∷ []) ++ rest)) (numbers M (with_listing p (changed may.source n None) x) r)
    (λ rest. sym (named_there M p n (Some may.entry) x may.from may.source rest may.at_from may.holds_source may.there))
    ∙ ap (grafted (behind_of (q ++ m ∷ []) r) (λ rest. numbers M x ((p ++ n ∷ []) ++ rest)))
    (change_grafts M p n None x may.from may.source r may.at_from may.holds_source rising_source)

pub bare_same : BareSame
bare_same M p f x y q at old new same =
    edited_alike M p f x y at (λ r. same_below M M y (f y) same (λ n s. ap (λ (v : Option Row). numbers_from M v s) (new n ∙ sym (old n))) r) q

pub unseen_same : UnseenSame
unseen_same M K x k q unseen same =
    file_unseen M K x k q same (λ a z there away is. unseen a (numbers_of_entries M x a ∙ ap (option_map (λ (w : Row). w.number)) there ∙ ap (λ (c : ℕ). Some c) is))
