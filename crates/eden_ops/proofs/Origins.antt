-- Entries of tables come from somewhere, but for directories.
use Rattle.std.proofs.Common.{◌≡◌, ◌≢◌, ℕ, Bool, true, false, cond, List, [], ◌∷◌, map, Option, Some, subst}
use Rattle.std.proofs.lemmas.Option.{same_Some}
use Rattle.std.specs.List.{AllByRecursion}
use Rattle.std.specs.Str.{bytes_eq}
use Rattle.eden_model.specs.declared.kind.Kind.TheVariants as kind
use Rattle.eden_model.specs.declared.kind.Origin.{Origin}
use Rattle.eden_model.specs.declared.kind.Origin.TheVariants as origin
use Rattle.eden_model.specs.Trees.{Name, Path}
use Rattle.eden_overlay_format.specs.Directory.{HasOrigin, IsStorable}
use Rattle.eden_tree.specs.Directory.{Row}
use Rattle.eden_tree.specs.Rows.{find_row}
use Rattle.eden_tree.specs.Paths.{row_at}
use Rattle.eden_coupling.specs.Kept.{IsTable}
use Rattle.eden_coupling.specs.Listings.{Place, top, inside, stored_entry}
use Rattle.eden_coupling.proofs.CallerLemmas.{place_at}

found_by : (n : Name) (e : Name × Row) (rest : Option Row) (y : Row) (b : Bool) → HasOrigin e.1.kind e.1.origin → (rest ≡ Some y → HasOrigin y.kind y.origin) → cond b (Some e.1) rest ≡ Some y
    → HasOrigin y.kind y.origin
found_by n e rest y true here on is = subst (λ (x : Row). HasOrigin x.kind x.origin) (same_Some e.1 y is) here
found_by n e rest y false here on is = on is

found : (n : Name) (rows : List (Name × Row)) (y : Row) → AllByRecursion IsStorable (map stored_entry rows) → find_row n rows ≡ Some y → HasOrigin y.kind y.origin
found n [] y all is = cc
found n (e ∷ es) y all is = found_by n e (find_row n es) y (bytes_eq n e.0) all.0.origin (found n es y all.1) is

placed : (x y : Row) (next : ℕ) → IsTable x next → Place x y → y.kind ≢ kind.Dir → HasOrigin y.kind y.origin
placed x _ next t top other = absurd (other t.kind)
placed x _ next t (inside u d n z p holds is) other = found n d.rows z (t.listed u d p holds).each is

-- a file or a link is an object's or its own
pub not_empty : (p : Path) (x y : Row) (next : ℕ) → IsTable x next → row_at p x ≡ Some y → y.kind ≢ kind.Dir → y.origin ≢ origin.Empty
not_empty p x y next t at other is = other (subst (λ (o : Origin). HasOrigin y.kind o) is (placed x y next t (place_at p x y at) other))
