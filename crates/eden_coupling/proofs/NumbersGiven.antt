-- Numbers given to the rows of a directory that is loaded from a tree object.
use Rattle.std.proofs.Common.{◌≡◌, ◌≢◌, ℕ, suc, ◌+◌, ◌<◌, ◌≤◌, Bool, true, false, cond, List, [], ◌∷◌, length, Option, Some, None, refl, sym, ap, ◌∙◌, arith}
use Rattle.std.proofs.lemmas.Option.{same_Some}
use Rattle.std.specs.Str.{bytes_eq}
use Rattle.std.specs.Option.{option_map, option_and_then}
use Rattle.eden_model.specs.declared.id.Id.{Id}
use Rattle.eden_model.specs.declared.kind.Kind.{Kind}
use Rattle.eden_model.specs.declared.kind.Kind.TheVariants as kind
use Rattle.eden_model.specs.declared.kind.Mode.{Mode}
use Rattle.eden_model.specs.declared.kind.Mode.TheVariants as mode
use Rattle.eden_model.specs.declared.kind.Origin.{Origin}
use Rattle.eden_model.specs.declared.kind.Origin.TheVariants as origin
use Rattle.eden_model.specs.declared.tree_entry.TreeEntry.{TreeEntry}
use Rattle.eden_model.specs.Repository.{Source, Own, source_of, item_by, entry_named}
use Rattle.eden_model.specs.Shown.{Item, if_dir}
use Rattle.eden_model.specs.Trees.{Name}
use Rattle.eden_tree.specs.Directory.{Row, Directory, child_of}
use Rattle.eden_tree.specs.Rows.{find_row}
use Rattle.eden_tree.proofs.CallerLemmas.{same-≡}
use Rattle.eden_coupling.specs.Loading.{AreNumbered, HasObject}
use Rattle.eden_coupling.specs.Shown.{item_away}
use Rattle.eden_coupling.specs.Numberings.{NumberFiles, entries_by, row_named, entry_below}
use Rattle.eden_coupling.specs.NumberLoads.{AreBlank}
use Rattle.eden_coupling.proofs.Rows.{map_some}
use Rattle.eden_coupling.proofs.NumbersRead.{below_away}

-- ---- each in its place

within_by : (k : ℕ) (a : Name) (v : Row) (e : Name × Row) (es : List (Name × Row)) (b : Bool) → e.1.number ≡ k
    → (find_row a es ≡ Some v → (suc k ≤ v.number) × (v.number < suc k + length es)) → cond b (Some e.1) (find_row a es) ≡ Some v
    → (k ≤ v.number) × (v.number < k + length (e ∷ es))
within_by k a v e es true first rest found =
    let same : e.1.number ≡ v.number = ap (λ (w : Row). w.number) (same_Some e.1 v found) in
    (omega (arith, first, same), omega (arith, first, same))
within_by k a v e es false first rest found = let both = rest found in let least = both.0 in let most = both.1 in (omega (arith, least), omega (arith, most))

pub within : (k : ℕ) (rows : List (Name × Row)) (a : Name) (v : Row) → AreNumbered k rows → find_row a rows ≡ Some v → (k ≤ v.number) × (v.number < k + length rows)
within k [] a v all found = absurd (cc)
within k (e ∷ es) a v all found = within_by k a v e es (bytes_eq a e.0) all.0 (λ f. within (suc k) es a v all.1 f) found

-- ---- each once

once_by : (k : ℕ) (a b : Name) (v w : Row) (e : Name × Row) (es : List (Name × Row)) (c d : Bool) → bytes_eq a e.0 ≡ c → bytes_eq b e.0 ≡ d → e.1.number ≡ k → AreNumbered (suc k) es
    → (find_row a es ≡ Some v → find_row b es ≡ Some w → a ≡ b)
    → cond c (Some e.1) (find_row a es) ≡ Some v → cond d (Some e.1) (find_row b es) ≡ Some w → v.number ≡ w.number → a ≡ b
once_by k a b v w e es true true ea eb first all rest f g same = same-≡ a e.0 ea ∙ sym (same-≡ b e.0 eb)
once_by k a b v w e es true false ea eb first all rest f g same =
    let one : e.1.number ≡ v.number = ap (λ (r : Row). r.number) (same_Some e.1 v f) in
    let later = (within (suc k) es b w all g).0 in
    absurd (omega (arith, first, one, later, same))
once_by k a b v w e es false true ea eb first all rest f g same =
    let one : e.1.number ≡ w.number = ap (λ (r : Row). r.number) (same_Some e.1 w g) in
    let later = (within (suc k) es a v all f).0 in
    absurd (omega (arith, first, one, later, same))
once_by k a b v w e es false false ea eb first all rest f g same = rest f g

pub once : (k : ℕ) (rows : List (Name × Row)) (a b : Name) (v w : Row) → AreNumbered k rows → find_row a rows ≡ Some v → find_row b rows ≡ Some w → v.number ≡ w.number → a ≡ b
once k [] a b v w all f g same = absurd (cc)
once k (e ∷ es) a b v w all f g same =
    once_by k a b v w e es (bytes_eq a e.0) (bytes_eq b e.0) refl refl all.0 all.1 (λ f' g'. once (suc k) es a b v w all.1 f' g' same) f g same

-- ---- nothing is known below them

-- an object's entry isn't its own
pub source_not_own : (m : Mode) (id : Id) (k : ℕ) → (item_by m id).source ≢ Own k
source_not_own mode.File id k is = cc
source_not_own mode.Exec id k is = cc
source_not_own mode.Link id k is = cc
source_not_own mode.Dir id k is = cc
source_not_own mode.Gitlink id k is = cc

pub not_own : (next : ℕ) (es : List TreeEntry) (d : Directory) (n : Name) (z : Row) → HasObject next es d → find_row n d.rows ≡ Some z → z.origin ≢ origin.Own
not_own next es d n z has found own =
    let from = map_some (λ (e : TreeEntry). item_by e.mode e.id) (entry_named n es) (item_away z) (ap (option_map item_away) (sym found) ∙ has.items n) in
    source_not_own from.0.mode from.0.id z.number (ap (λ (i : Item Source). i.source) from.1.1 ∙ ap (source_of z.number) own)

pub none_if_dir : {X : Type 0} (k : Kind) (o : Option X) → o ≡ None → if_dir k o ≡ None
none_if_dir kind.File o e = refl
none_if_dir kind.Exec o e = refl
none_if_dir kind.Link o e = refl
none_if_dir kind.Dir o e = e

blank_by : (M : NumberFiles) (next k : ℕ) (o : Origin) → AreBlank M next → next ≤ k → o ≢ origin.Own → entries_by M k o ≡ None
blank_by M next k (origin.Object id) blank least other = blank k id least
blank_by M next k origin.Own blank least other = absurd (other refl)
blank_by M next k origin.Empty blank least other = refl

pub nothing_below : (M : NumberFiles) (next : ℕ) (z : Row) (n : Name) → AreBlank M next → next ≤ z.number → z.origin ≢ origin.Own → child_of z ≡ None → entry_below M z n ≡ None
nothing_below M next z n blank least other away =
    below_away M z n away
    ∙ ap (option_and_then (row_named n)) (none_if_dir z.kind (entries_by M z.number z.origin) (blank_by M next z.number z.origin blank least other))
