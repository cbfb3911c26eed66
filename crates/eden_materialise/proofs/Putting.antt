-- An entry put into a directory, and taken back.
use Rattle.std.proofs.Common.{◌≡◌, Bool, false, Option, IfSome, IfNone, Some, None, refl, sym, ap, ◌∙◌, subst}
use Rattle.std.proofs.lemmas.Option.{same_Some, none-some}
use Rattle.std.specs.Option.{option_map}
use Rattle.eden_model.specs.Trees.{Name, Path}
use Rattle.eden_tree.specs.Directory.{Row, Directory, child_of, with_child}
use Rattle.eden_tree.specs.Rows.{find_row, drop_row, set_row}
use Rattle.eden_tree.specs.Paths.{row_at, edit_row}
use Rattle.eden_tree.proofs.CallerLemmas.{child_of-with_child, with_child-same, edits_there, edits_same, edits_twice, edits_nothing, edits_alike}
use Rattle.eden_tree.specs.Changes.{IsChanged}
use Rattle.eden_coupling.specs.Changing.{changed}
use Rattle.eden_coupling.proofs.CallerLemmas.{back_to}
use Rattle.eden_materialise.specs.Moves.{IsPut, IsPutAt}

-- a directory as it was, with its rows and its mark taken back
pub restored : (n : Name) (w : Row) (d e f : Directory) (was : Option Row) (mark : Bool) → e ≡ changed d n (Some w) → was ≡ find_row n d.rows → mark ≡ d.unsaved
    → IfSome was (λ there. f ≡ record e { rows = set_row n there e.rows }) → IfNone was (f ≡ record e { rows = drop_row n e.rows }) → record f { unsaved = mark } ≡ d
restored n w d e f was mark put is same some none =
    ap (λ b. record f { unsaved = b }) same
    ∙ back_to n w d (record e { unsaved = d.unsaved }) (ap (λ (a : Directory). record a { unsaved = false }) put) (record f { unsaved = d.unsaved }) was is refl (set_back was some)
    (taken_out was none)
  where
    set_back : (o : Option Row) → IfSome o (λ there. f ≡ record e { rows = set_row n there e.rows })
        → IfSome o (λ there. record f { unsaved = d.unsaved } ≡ record e { rows = set_row n there e.rows; unsaved = d.unsaved })
    set_back None h = tt
    set_back (Some there) h = ap (λ (a : Directory). record a { unsaved = d.unsaved }) h

    taken_out : (o : Option Row) → IfNone o (f ≡ record e { rows = drop_row n e.rows }) → IfNone o (record f { unsaved = d.unsaved } ≡ record e { rows = drop_row n e.rows; unsaved = d.unsaved })
    taken_out None h = ap (λ (a : Directory). record a { unsaved = d.unsaved }) h
    taken_out (Some there) h = tt

-- the directory of an entry that was put into
pub put_child : (n : Name) (w : Row) (entry : Option Row) (mark : Bool) (x z : Row) (p : IsPut n w entry mark x z) (e : Directory) → Some e ≡ child_of z → e ≡ changed p.directory n (Some w)
put_child n w entry mark x z p e h = same_Some e (changed p.directory n (Some w)) (h ∙ ap child_of p.is ∙ child_of-with_child (Some (changed p.directory n (Some w))) x)

-- the entry is as it was, once its directory is
pub put_undone : (n : Name) (w : Row) (entry : Option Row) (mark : Bool) (x z : Row) (p : IsPut n w entry mark x z) (f : Directory) → f ≡ p.directory → with_child (Some f) z ≡ x
put_undone n w entry mark x z p f is = ap (λ (a : Directory). with_child (Some a) z) is ∙ ap (with_child (Some p.directory)) p.is ∙ with_child-same x p.directory p.holds

-- what stands at the path then
pub put_there : (q : Path) (n : Name) (w : Row) (entry : Option Row) (mark : Bool) (x z : Row) (p : IsPutAt q n w entry mark x z) → row_at q z ≡ Some p.after
put_there q n w entry mark x z p = ap (row_at q) p.is ∙ edits_there q (λ _. p.after) x ∙ ap (option_map (λ _. p.after)) p.at

-- .. and all is as it was, once the entry at the path is
pub put_back_at : (q : Path) (n : Name) (w : Row) (entry : Option Row) (mark : Bool) (x z t : Row) (p : IsPutAt q n w entry mark x z) (after : Row) → after ≡ p.before
    → t ≡ edit_row q (λ _. after) z → t ≡ x
put_back_at q n w entry mark x z t p after same is =
    is ∙ ap (edit_row q (λ _. after)) p.is ∙ edits_twice q (λ _. after) (λ _. p.after) x ∙ edits_same q (λ _. after) x p.before p.at same

-- ---- at a path, where an entry may be or none

-- f of the entry there
pub edited : {S O : Type 0} (f : Row → Row) (p : Path) (x z : Row) (s : S) (answer : Option O) → IfNone answer (row_at p x ≡ None) → IfNone answer (z ≡ x)
    → IfSome answer (IsChanged (λ y t v o. v ≡ f y) p x z s) → z ≡ edit_row p f x
edited f p x z s None none kept c = kept ∙ sym (edits_nothing p f x none)
edited f p x z s (Some a) none kept c = c.is ∙ edits_alike p (λ _. c.after) f x c.before c.was c.done

-- an entry taken back
pub taken_back : {S O : Type 0} (q : Path) (n : Name) (w : Row) (entry : Option Row) (mark : Bool) (x z t : Row) (s : S) (answer : Option O) → IsPutAt q n w entry mark x z
    → IfNone answer (row_at q z ≡ None) → IfSome answer (IsChanged (λ y u v o. (a : Row) → (b : Row) → IsPut n b entry mark a y → v ≡ a) q z t s) → t ≡ x
taken_back q n w entry mark x z t s None p none c = absurd (none-some p.after (sym none ∙ put_there q n w entry mark x z p))
taken_back q n w entry mark x z t s (Some a) p none c =
    let here : p.after ≡ c.before = same_Some p.after c.before (sym (put_there q n w entry mark x z p) ∙ c.was) in
    put_back_at q n w entry mark x z t p c.after (c.done p.before w (subst (IsPut n w entry mark p.before) here p.put)) c.is
