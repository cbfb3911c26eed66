-- Rows by their names, and what is stored of a directory alone, which has no contents.
use Rattle.std.proofs.Common.{◌≡◌, Bool, true, false, cond, List, [], ◌∷◌, Option, Some, None, map}
use Rattle.std.proofs.Common.{refl, sym, ap, ◌∙◌, subst, nat_cmp, Less}
use Rattle.std.specs.List.{AllByRecursion}
use Rattle.std.specs.Map.{lookup}
use Rattle.std.specs.Option.{unwrap_or}
use Rattle.std.specs.Ordering.{is_eq}
use Rattle.std.specs.Str.{bytes_eq}
use Rattle.std.specs.Cmp.Lexicographic.{slice_cmp}
use Rattle.std.proofs.lemmas.Slice.Eq.{bytes_eq-Decides}
use Rattle.std.proofs.lemmas.Map.Keys.{sorted_head, sorted_tail}
use Rattle.eden_model.specs.declared.kind.Kind.TheVariants as kind
use Rattle.eden_model.specs.declared.kind.Origin.TheVariants as origin
use Rattle.eden_model.specs.declared.tree_entry.TreeEntry.{TreeEntry}
use Rattle.eden_model.specs.Named.{AreRising}
use Rattle.eden_model.specs.Trees.{Name}
use Rattle.eden_overlay_format.specs.declared.stored_entry.StoredEntry.{StoredEntry}
use Rattle.eden_overlay_format.specs.Directory.{HasOrigin}
use Rattle.eden_snapshot.specs.declared.rows.Row.{Row}
use Rattle.eden_snapshot.specs.Changes.{none, alone}
use Rattle.eden_snapshot.specs.Rows.{Rows, AreRows, nothing, is_name, row_in, stored_named}
use Rattle.eden_snapshot.proofs.Found.{AreFine}
use Rattle.eden_snapshot.proofs.Gathered.{same_name}

pub told_name : (n k : Name) → is_name n k ≡ true → n ≡ k
told_name n k h = sym ((bytes_eq-Decides k n).0 (sym (same_name n k) ∙ h))

pub its_name : (k : Name) → is_name k k ≡ true
its_name k = same_name k k ∙ (bytes_eq-Decides k k).1 refl

pub absent_above : (k : Name) (rows : Rows) → AllByRecursion (λ (m : Name). slice_cmp nat_cmp k m ≡ Less) (map (λ r. r.0) rows) → lookup (is_name k) rows ≡ None
absent_above k [] above = refl
absent_above k (r ∷ rows) above =
    ap (λ o. cond (is_eq o) (Some r.1) (lookup (is_name k) rows)) above.0 ∙ absent_above k rows above.1

-- behind a row there is none of its name
pub absent : (r : Name × Row) (rows : Rows) → AreRising (λ r. r.0) (r ∷ rows) → row_in rows r.0 ≡ nothing
absent r rows rising = ap (λ o. unwrap_or o nothing) (absent_above r.0 rows (sorted_head (slice_cmp nat_cmp) r.0 (map (λ r. r.0) rows) rising))

pub behind : (r : Name × Row) (rows : Rows) → AreRising (λ r. r.0) (r ∷ rows) → AreRising (λ r. r.0) rows
behind r rows rising = sorted_tail (slice_cmp nat_cmp) r.0 (map (λ r. r.0) rows) rising

pub at_first : (r : Name × Row) (rows : Rows) → row_in (r ∷ rows) r.0 ≡ r.1
at_first r rows = ap (λ b. unwrap_or (cond b (Some r.1) (lookup (is_name r.0) rows)) nothing) (its_name r.0)

pub at_later : (n : Name) (r : Name × Row) (rows : Rows) → is_name n r.0 ≡ false → row_in (r ∷ rows) n ≡ row_in rows n
at_later n r rows other = ap (λ b. unwrap_or (cond b (Some r.1) (lookup (is_name n) rows)) nothing) other

-- a directory alone has no contents
abbrev pub IsFine : Option StoredEntry → Type 0
IsFine None = Unit {0}
IsFine (Some e) = HasOrigin e.kind e.origin

abbrev pub AreAllFine : Rows → Type 0
AreAllFine rows = AllByRecursion (λ r. IsFine r.1.new) rows

pub fine_or : (n : Name) (b : Bool) (x : StoredEntry) (es : List StoredEntry) → HasOrigin x.kind x.origin → IsFine (stored_named n es)
    → IsFine (cond b (Some x) (stored_named n es))
fine_or n true x es this others = this
fine_or n false x es this others = others

pub fine_named : (n : Name) (es : List StoredEntry) → AreFine es → IsFine (stored_named n es)
fine_named n [] are = tt
fine_named n (x ∷ es) are = fine_or n (bytes_eq n x.name) x es are.1 (fine_named n es are.2)

pub fine_behind : (n : Name) (r : Name × Row) (rows : Rows) (b : Bool) → is_name n r.0 ≡ b → AreRising (λ r. r.0) (r ∷ rows)
    → ((m : Name) → IsFine (row_in (r ∷ rows) m).new) → IsFine (row_in rows n).new
fine_behind n r rows true same rising each =
    let none : row_in rows n ≡ nothing = ap (λ (m : Name). row_in rows m) (told_name n r.0 same) ∙ absent r rows rising in
    subst (λ (row : Row). IsFine row.new) (sym none) tt
fine_behind n r rows false same rising each = subst (λ (row : Row). IsFine row.new) (at_later n r rows same) (each n)

pub fine_rows : (rows : Rows) → AreRising (λ r. r.0) rows → ((n : Name) → IsFine (row_in rows n).new) → AreAllFine rows
fine_rows [] rising each = tt
fine_rows (r ∷ rows) rising each = (
  subst (λ (row : Row). IsFine row.new) (at_first r rows) (each r.0),
  fine_rows rows (behind r rows rising) (λ n. fine_behind n r rows (is_name n r.0) refl rising each),
)

pub all_fine : (old : List TreeEntry) (new : List StoredEntry) (rows : Rows) → AreRows old new rows → AreFine new → AreAllFine rows
all_fine old new rows are fine_new =
    fine_rows rows are.rising (λ n. subst (λ (row : Row). IsFine row.new) (sym (are.at n)) (fine_named n new fine_new))
