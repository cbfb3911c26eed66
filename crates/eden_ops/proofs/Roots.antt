-- Where the root comes from, once something was done.
use Rattle.std.proofs.Common.{◌≡◌, ℕ, Bool, true, false, if◌then◌else◌, MatchBool, [], ◌∷◌, Option, Some, Result, Ok, Err, OnOk, OnErr, refl, sym, ap, ◌∙◌, inl, inr}
use Rattle.std.proofs.lemmas.Option.{same_Some}
use Rattle.eden_model.specs.declared.fault.Fault.{Fault}
use Rattle.eden_model.specs.declared.kind.Origin.{Origin}
use Rattle.eden_model.specs.Trees.{Name, Path}
use Rattle.eden_overlay_format.specs.Directory.{is_own}
use Rattle.eden_overlay.specs.Files.{Stored}
use Rattle.eden_tree.specs.Directory.{Row, Directory, child_of}
use Rattle.eden_tree.specs.Paths.{Standing, standing, row_at}
use Rattle.eden_coupling.specs.Chains.{IsLoadedAt, chained}
use Rattle.eden_coupling.specs.Changing.{with_listing, changed}
use Rattle.eden_coupling.specs.Filing.{HasFile}
use Rattle.eden_coupling.specs.Laws.{owned}
use Rattle.eden_coupling.proofs.CallerLemmas.{loaded_found}
use Rattle.eden_materialise.specs.EntryMoves.{IsMoved, IsUnmoved}
use Rattle.eden_materialise.specs.Fills.{OwnsFile}
use Rattle.eden_materialise.specs.Listings.{PutsEntry}
use Rattle.eden_materialise.specs.Puts.{AtDirectory}
use Rattle.eden_ops.specs.Changes.{StaysOrBecomesOwn}
use Rattle.eden_ops.specs.Laws.{Grows}
use Rattle.eden_ops.specs.Letting.{LetsGo}

-- one step after another
pub comes_on : (a b c : Origin) → StaysOrBecomesOwn a b → StaysOrBecomesOwn b c → StaysOrBecomesOwn a c
comes_on a b c one (inr own) = inr own
comes_on a b c (inl same) (inl later) = inl (later ∙ same)
comes_on a b c (inr own) (inl later) = inr (later ∙ own)

-- the root didn't change
pub root_same : (x z : Row) → z ≡ x → StaysOrBecomesOwn x.origin z.origin
root_same x z is = inl (ap (λ (r : Row). r.origin) is)

pub root_grows : (x z : Row) → Grows x z → StaysOrBecomesOwn x.origin z.origin
root_grows x z g =
    let v = g.there [] (standing x) refl in
    inl (ap (λ (s : Standing). s.origin) (same_Some (standing z) v.0 v.1.0) ∙ v.1.1.origin)

pub root_left : (p : Path) (x z : Row) → LetsGo p x z → StaysOrBecomesOwn x.origin z.origin
root_left p x z g =
    let y = g.left [] (standing z) refl in
    inl (y.1.1.origin ∙ ap (λ (s : Standing). s.origin) (sym (same_Some (standing x) y.0 y.1.0)))

-- the directories along a path became the mount's own, the one at its end another
pub root_chained : (p : Path) (x z : Row) (e : Directory → Directory) → IsLoadedAt p x → AtDirectory p x (λ y d. z ≡ chained p (e d) x) → StaysOrBecomesOwn x.origin z.origin
root_chained p x z e is all =
    let l = loaded_found p x is in
    inr (ap (λ (r : Row). r.origin) (all l.row l.directory l.at l.holds))

-- .. unless the file was its own before, or that failed
pub root_filled : (a : Result (Unit {0}) Fault) (own : Bool) (p : Path) (x z : Row) (e : Directory) → OnOk a (z ≡ (if own then x else chained p e x)) → OnErr a (z ≡ x)
    → StaysOrBecomesOwn x.origin z.origin
root_filled (Ok u) true p x z e ok err = root_same x z ok
root_filled (Ok u) false p x z e ok err = inr (ap (λ (r : Row). r.origin) ok)
root_filled (Err f) own p x z e ok err = root_same x z err

as_chained : (own : Bool) (p : Path) (n : Name) (o : Option Row) (x z y : Row) (d : Directory) → row_at p x ≡ Some y → child_of y ≡ Some d
    → MatchBool own (z ≡ x) (PutsEntry p n o x z) → z ≡ (if own then x else chained p (changed d n o) x)
as_chained true p n o x z y d at h same = same
as_chained false p n o x z y d at h put = put y d at h

pub owned_root : (a : Result (Unit {0}) Fault) (p : Path) (n : Name) (x z w : Row) (has : HasFile x p n w) → OnOk a (OwnsFile p n x z)
    → OnOk a (z ≡ (if is_own w.origin then x else chained p (changed has.directory n (Some (owned w))) x))
owned_root (Ok u) p n x z w has owns = as_chained (is_own w.origin) p n (Some (owned w)) x z has.row has.directory has.at has.holds (owns w has)
owned_root (Err e) p n x z w has owns = tt

-- they became so, or that failed
pub root_owned : (a : Result (Unit {0}) Fault) (x y z : Row) → OnOk a (z ≡ owned y) → OnErr a (z ≡ x) → StaysOrBecomesOwn x.origin z.origin
root_owned (Ok u) x y z ok err = inr (ap (λ (r : Row). r.origin) ok)
root_owned (Err e) x y z ok err = root_same x z err

-- ---- an entry moved, or didn't

root_listed : (p : Path) (d : Directory) (x : Row) → (with_listing p d x).origin ≡ x.origin
root_listed [] d x = refl
root_listed (n ∷ p) d x = refl

pub root_moved : (honest : Type 0) (p : Path) (n : Name) (q : Path) (m : Name) (F : Stored) (x : Row) (old : ℕ) (G : Stored) (z : Row) (new : ℕ) → IsMoved honest p n q m F x old G z new
    → StaysOrBecomesOwn x.origin z.origin
root_moved honest p n q m F x old G z new h = inl (ap (λ (r : Row). r.origin) h.root ∙ root_listed q _ _ ∙ root_listed p _ x)

pub root_unmoved : (honest : Type 0) (p : Path) (n : Name) (q : Path) (m : Name) (F : Stored) (x : Row) (G : Stored) (z : Row) → IsUnmoved honest p n q m F x G z → StaysOrBecomesOwn x.origin z.origin
root_unmoved honest p n q m F x G z (inl same) = root_same x z same.0
root_unmoved honest p n q m F x G z (inr left) = inl (ap (λ (r : Row). r.origin) left.1.1.0 ∙ root_listed p _ x)
