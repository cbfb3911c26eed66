-- Rows, and the entries that they are as stored ones.
use Rattle.std.proofs.Common.{◌≡◌, zero, suc, cond, List, [], ◌∷◌, map, Option, Some, None, Contains, refl, sym, ap, ◌∙◌, subst, arith}
use Rattle.std.specs.Option.{option_map, option_and_then}
use Rattle.std.specs.List.Sorted.{IsStrictlySortedBy}
use Rattle.std.proofs.lemmas.Option.{same_Some}
use Rattle.eden_model.specs.declared.kind.Origin.{Origin}
use Rattle.eden_model.specs.declared.kind.Origin.TheVariants as origin
use Rattle.eden_model.specs.Trees.{Name}
use Rattle.eden_model.specs.Named.{AreRising}
use Rattle.eden_overlay_format.specs.declared.stored_entry.StoredEntry.{StoredEntry}
use Rattle.eden_overlay_format.specs.Directory.{AreStorable}
use Rattle.eden_tree.specs.Directory.{Child, unloaded, loaded, Row, Directory, directory_in, child_of}
use Rattle.eden_tree.specs.Rows.{find_row, drop_row}
use Rattle.eden_tree.proofs.CallerLemmas.{order, same-refl, find_row-drop_row}
use Rattle.eden_coupling.specs.Listings.{stored_entry, full_entry, listing_of, full_listing, own_if_loaded}

-- ---- lists

pub contains_mapped : {X Y : Type 0} (f : X → Y) (xs : List X) (x : X) → Contains xs x → Contains (map f xs) (f x)
contains_mapped f [] x h = let within = h.1 in absurd (omega (arith, within))
contains_mapped f (y ∷ ys) x (zero, w, is) = (zero, omega arith, ap f is)
contains_mapped f (y ∷ ys) x (suc k, w, is) =
    let rest = contains_mapped f ys x (k, omega (arith, w), is) in
    let within = rest.1 in
    (suc rest.0, omega (arith, within), rest.2)

-- an element of a mapped list comes from one of the list
pub mapped_from : {X Y : Type 0} (f : X → Y) (xs : List X) (y : Y) → Contains (map f xs) y → (x : X) × (Contains xs x × (f x ≡ y))
mapped_from f [] y h = let within = h.1 in absurd (omega (arith, within))
mapped_from f (x ∷ xs) y (zero, w, is) = (x, ((zero, omega arith, refl), is))
mapped_from f (x ∷ xs) y (suc k, w, is) =
    let rest = mapped_from f xs y (k, omega (arith, w), is) in
    let at = rest.1.0 in
    let within = at.1 in
    (rest.0, ((suc at.0, omega (arith, within), at.2), rest.1.1))

-- ---- names

-- entries under the names of their rows have those names
pub names_mapped : (f : Name × Row → StoredEntry) → ((e : Name × Row) → (f e).name ≡ e.0) → (es : List (Name × Row)) → map (λ (s : StoredEntry). s.name) (map f es) ≡ map (λ (e : Name × Row). e.0) es
names_mapped f same [] = refl
names_mapped f same (e ∷ es) = ap (λ n. n ∷ map (λ (s : StoredEntry). s.name) (map f es)) (same e) ∙ ap (λ l. e.0 ∷ l) (names_mapped f same es)

pub names_full : (es : List (Name × Row)) → map (λ (s : StoredEntry). s.name) (map full_entry es) ≡ map (λ (e : Name × Row). e.0) es
names_full es = names_mapped full_entry (λ e. refl) es

pub names_stored : (es : List (Name × Row)) → map (λ (s : StoredEntry). s.name) (map stored_entry es) ≡ map (λ (e : Name × Row). e.0) es
names_stored es = names_mapped stored_entry (λ e. refl) es

-- the names of a directory that can be stored rise
pub full_rising : (d : Directory) → AreStorable (full_listing d) → AreRising (λ r. r.0) d.rows
full_rising d are = subst (IsStrictlySortedBy order) (names_full d.rows) are.rising

pub stored_rising : (d : Directory) → AreStorable (listing_of d) → AreRising (λ r. r.0) d.rows
stored_rising d are = subst (IsStrictlySortedBy order) (names_stored d.rows) are.rising

-- no name stands twice
pub gone_after : (n : Name) (es : List (Name × Row)) → AreRising (λ r. r.0) es → find_row n (drop_row n es) ≡ None
gone_after n es rising = find_row-drop_row n n es rising ∙ ap (λ b. cond b None (find_row n es)) (same-refl n)

-- ---- what is loaded is its own

own_in : (c : Child) (o : Origin) (d : Directory) → directory_in c ≡ Some d → own_if_loaded c o ≡ origin.Own
own_in unloaded o d h = absurd (cc)
own_in (loaded s u r) o d h = refl

pub own_loaded : (z : Row) (d : Directory) → child_of z ≡ Some d → own_if_loaded z.child z.origin ≡ origin.Own
own_loaded z d h = own_in z.child z.origin d h

as_is_in : (c : Child) (o : Origin) → directory_in c ≡ None → own_if_loaded c o ≡ o
as_is_in unloaded o h = refl
as_is_in (loaded s u r) o h = absurd (cc)

pub as_is : (z : Row) → child_of z ≡ None → own_if_loaded z.child z.origin ≡ z.origin
as_is z h = as_is_in z.child z.origin h

-- what isn't loaded is stored as it is in full
pub entry_as_is : (n : Name) (z : Row) → child_of z ≡ None → full_entry (n, z) ≡ stored_entry (n, z)
entry_as_is n z h = ap (λ o. record { name = n; kind = z.kind; origin = o; number = z.number }) (as_is z h)

-- what is its own is so in full
own_both : (c : Child) (o : Origin) → o ≡ origin.Own → own_if_loaded c o ≡ origin.Own
own_both unloaded o h = h
own_both (loaded s u r) o h = refl

pub own_full : (z : Row) → z.origin ≡ origin.Own → own_if_loaded z.child z.origin ≡ origin.Own
own_full z h = own_both z.child z.origin h

-- by whether an entry holds a directory
pub by_child : (z : Row) (P : Type 0) → (child_of z ≡ None → P) → ((d : Directory) → child_of z ≡ Some d → P) → P
by_child z P none some = elim (child_of z) as (λ o. child_of z ≡ o → P) [ None ↦ none | Some d ↦ some d ] refl

-- by whether an origin is its own
pub by_origin : (o : Origin) (P : Type 0) → ((o ≡ origin.Own → ⊥) → P) → (o ≡ origin.Own → P) → P
by_origin (origin.Object id) P other own = other (λ h. absurd (cc))
by_origin origin.Own P other own = own refl
by_origin origin.Empty P other own = other (λ h. absurd (cc))

-- what was mapped or passed on
pub map_some : {X Y : Type 0} (f : X → Y) (o : Option X) (y : Y) → Some y ≡ option_map f o → (x : X) × ((o ≡ Some x) × (f x ≡ y))
map_some f None y h = absurd (cc)
map_some f (Some x) y h = (x, (refl, sym (same_Some y (f x) h)))

pub and_then_some : {X Y : Type 0} (f : X → Option Y) (o : Option X) (y : Y) → option_and_then f o ≡ Some y → (x : X) × ((o ≡ Some x) × (f x ≡ Some y))
and_then_some f None y h = absurd (cc)
and_then_some f (Some x) y h = (x, (refl, h))
