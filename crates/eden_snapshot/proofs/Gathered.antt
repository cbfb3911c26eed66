-- Rows that are put one after the other, from the last on.
use Rattle.std.proofs.Common.{◌≡◌, Bool, true, false, cond, List, ◌∷◌, Option, Some, None, refl, sym, ap, ◌∙◌}
use Rattle.std.specs.Option.{option_map, unwrap_or}
use Rattle.std.specs.Map.{lookup}
use Rattle.std.specs.Str.{bytes_eq}
use Rattle.std.specs.Cmp.Lexicographic.{nat_list_eq_equiv}
use Rattle.std.proofs.lemmas.Map.Text.{is_eq-slice_cmp}
use Rattle.std.proofs.lemmas.Slice.Eq.{bytes_eq-Decides}
use Rattle.eden_model.specs.declared.tree_entry.TreeEntry.{TreeEntry}
use Rattle.eden_model.specs.Repository.{entry_named}
use Rattle.eden_model.specs.Trees.{Name}
use Rattle.eden_overlay_format.specs.declared.stored_entry.StoredEntry.{StoredEntry}
use Rattle.eden_snapshot.specs.Commits.{mode_and_id, place_named}
use Rattle.eden_snapshot.specs.Rows.{Rows, nothing, is_name, row_in, over_all, beside, stored_named}
use Rattle.eden_snapshot.specs.declared.rows.Row.{Row}

unwrapped : (b : Bool) (v : Row) (o : Option Row) → unwrap_or (cond b (Some v) o) nothing ≡ cond b v (unwrap_or o nothing)
unwrapped true v o = refl
unwrapped false v o = refl

-- one row is put
pub row_put : (old new : Rows) (n k : Name) (v : Row) → lookup (is_name n) new ≡ cond (is_name k n) (Some v) (lookup (is_name n) old)
    → row_in new n ≡ cond (is_name k n) v (row_in old n)
row_put old new n k v put = ap (λ o. unwrap_or o nothing) put ∙ unwrapped (is_name k n) v (lookup (is_name n) old)

-- the order and the test agree
pub same_name : (k n : Name) → is_name k n ≡ bytes_eq n k
same_name k n = is_eq-slice_cmp k n ∙ nat_list_eq_equiv.symm k n

first_old : (base : Row) (b : Bool) (e : TreeEntry) (o : Option TreeEntry)
    → cond b (record { old = Some (mode_and_id e); new = None }) (over_all base (option_map mode_and_id o)) ≡ over_all base (option_map mode_and_id (cond b (Some e) o))
first_old base true e o = refl
first_old base false e o = refl

-- one of the commit's entries is put over those behind it
pub old_put : (base mid new : Row) (n : Name) (e : TreeEntry) (es : List TreeEntry) → mid ≡ over_all base (place_named n es)
    → new ≡ cond (is_name e.name n) (record { old = Some (mode_and_id e); new = None }) mid → new ≡ over_all base (place_named n (e ∷ es))
old_put base mid new n e es before put =
    let v : Row = record { old = Some (mode_and_id e); new = None } in
    put ∙ ap (λ (r : Row). cond (is_name e.name n) v r) before ∙ ap (λ b. cond b v (over_all base (place_named n es))) (same_name e.name n)
    ∙ first_old base (bytes_eq n e.name) e (entry_named n es)

beside_old : (r : Row) (o : Option StoredEntry) → (beside r o).old ≡ r.old
beside_old r None = refl
beside_old r (Some e) = refl

first_new : (base here : Row) (b : Bool) (e : StoredEntry) (o : Option StoredEntry) → (b ≡ true → here.old ≡ base.old)
    → cond b (beside here (Some e)) (beside base o) ≡ beside base (cond b (Some e) o)
first_new base here true e o same = ap (λ old. record { old = old; new = Some e }) (same refl)
first_new base here false e o same = refl

-- one of the overlay's entries is put beside, before those behind it
pub new_put : (base : Rows) (mid new : Rows) (n : Name) (e : StoredEntry) (es : List StoredEntry)
    → ((m : Name) → row_in mid m ≡ beside (row_in base m) (stored_named m es))
    → row_in new n ≡ cond (is_name e.name n) (beside (row_in mid e.name) (Some e)) (row_in mid n) → row_in new n ≡ beside (row_in base n) (stored_named n (e ∷ es))
new_put base mid new n e es before put =
    let k = e.name in
    let was : (row_in mid k).old ≡ (row_in base k).old = ap (λ (r : Row). r.old) (before k) ∙ beside_old (row_in base k) (stored_named k es) in
    put ∙ ap (λ (r : Row). cond (is_name k n) (beside (row_in mid k) (Some e)) r) (before n)
    ∙ ap (λ b. cond b (beside (row_in mid k) (Some e)) (beside (row_in base n) (stored_named n es))) (same_name k n)
    ∙ first_new (row_in base n) (row_in mid k) (bytes_eq n k) e (stored_named n es) (λ h. was ∙ ap (λ (m : Name). (row_in base m).old) (sym ((bytes_eq-Decides n k).0 h)))
