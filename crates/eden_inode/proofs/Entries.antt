-- A listing, entry by entry.
use Rattle.std.proofs.Common.{◌≡◌, ◌<◌, ◌≤◌, ℕ, zero, suc, true, false, cond, List, [], ◌∷◌, ◌++◌, length, map, take, Option, Some, None, refl, sym, ap, subst, ◌∙◌, append-nil, arith}
use Rattle.std.specs.Str.{bytes_eq}
use Rattle.std.specs.List.{slice_get, filter_map, cons_option, AllByRecursion}
use Rattle.std.specs.Option.{option_map}
use Rattle.std.proofs.lemmas.List.{take_all}
use Rattle.std.proofs.lemmas.List.Elements.{filter_map-append}
use Rattle.std.proofs.lemmas.Option.{same_Some, none-some}
use Rattle.eden_model.specs.declared.kind.Origin.{Origin}
use Rattle.eden_model.specs.Trees.{Name}
use Rattle.eden_model.specs.Named.{AreRising}
use Rattle.eden_overlay_format.specs.declared.stored_entry.StoredEntry.{StoredEntry}
use Rattle.eden_overlay_format.specs.Directory.{IsStorable, AreStorable}
use Rattle.eden_tree.specs.Directory.{Row, Directory}
use Rattle.eden_coupling.specs.Listings.{stored_entry}
use Rattle.eden_coupling.specs.Materialising.{marked_entry}
use Rattle.eden_coupling.proofs.CallerLemmas.{rows_without, without_drops}
use Rattle.eden_inode.specs.declared.listing.Listed.{Listed}
use Rattle.eden_inode.specs.declared.listing.Listed.TheVariants.{Whole, Without, Owned}
use Rattle.eden_inode.specs.Listed.{listed_as, origin_as}

-- an entry as it is stored, where it is
abbrev pub entry_as : Listed → Name × Row → Option StoredEntry
entry_as l e = option_map (λ o. record { name = e.0; kind = e.1.kind; origin = o; number = e.1.number }) (origin_as l e.0 e.1.origin)

-- what is stored of the first i entries
abbrev pub entries_as : Listed → List (Name × Row) → ℕ → List StoredEntry
entries_as l rows i = filter_map (entry_as l) (take i rows)

take_next : {X : Type 0} (xs : List X) (i : ℕ) (e : X) → slice_get xs i ≡ Some e → take (suc i) xs ≡ take i xs ++ (e ∷ [])
take_next [] i e h = absurd (none-some e h)
take_next (x ∷ xs) zero e h = ap (λ a. a ∷ []) (same_Some x e h)
take_next (x ∷ xs) (suc i) e h = ap (λ l. x ∷ l) (take_next xs i e h)

one_more : (l : Listed) (rows : List (Name × Row)) (i : ℕ) (e : Name × Row) → slice_get rows i ≡ Some e
    → entries_as l rows (suc i) ≡ entries_as l rows i ++ filter_map (entry_as l) (e ∷ [])
one_more l rows i e h = ap (filter_map (entry_as l)) (take_next rows i e h) ∙ filter_map-append (entry_as l) (take i rows) (e ∷ [])

-- one entry more that is stored, and one that is left out
pub one_stored : (l : Listed) (rows : List (Name × Row)) (i : ℕ) (n : Name) (x : Row) (o : Origin) → slice_get rows i ≡ Some (n, x) → Some o ≡ origin_as l n x.origin
    → entries_as l rows (suc i) ≡ entries_as l rows i ++ (record { name = n; kind = x.kind; origin = o; number = x.number } ∷ [])
one_stored l rows i n x o h is =
    one_more l rows i (n, x) h
    ∙ ap (λ a. entries_as l rows i ++ cons_option (option_map (λ b. record { name = n; kind = x.kind; origin = b; number = x.number }) a) []) (sym is)

pub one_left_out : (l : Listed) (rows : List (Name × Row)) (i : ℕ) (n : Name) (x : Row) → slice_get rows i ≡ Some (n, x) → None ≡ origin_as l n x.origin
    → entries_as l rows (suc i) ≡ entries_as l rows i
one_left_out l rows i n x h is =
    one_more l rows i (n, x) h
    ∙ ap (λ a. entries_as l rows i ++ cons_option (option_map (λ b. record { name = n; kind = x.kind; origin = b; number = x.number }) a) []) (sym is)
    ∙ append-nil (entries_as l rows i)

pub one_there : {X : Type 0} (xs : List X) (i : ℕ) → i < length xs → None ≡ slice_get xs i → ⊥
one_there [] i h none = omega (arith, h)
one_there (x ∷ xs) zero h none = none-some x none
one_there (x ∷ xs) (suc i) h none = one_there xs i (omega (arith, h)) none

each_stored : (rows : List (Name × Row)) → filter_map (entry_as Whole) rows ≡ map stored_entry rows
each_stored [] = refl
each_stored (e ∷ es) = ap (λ l. stored_entry e ∷ l) (each_stored es)

others_stored : (name : _) (rows : List (Name × Row)) → filter_map (entry_as (Without name)) rows ≡ map stored_entry (rows_without name.now rows)
others_stored name [] = refl
others_stored name (e ∷ es) =
    elim (bytes_eq name.now e.0) as
    (λ b. cons_option (option_map (λ o. record { name = e.0; kind = e.1.kind; origin = o; number = e.1.number }) (cond b None (Some e.1.origin))) (filter_map (entry_as (Without name)) es)
    ≡ map stored_entry (cond b (rows_without name.now es) (e ∷ rows_without name.now es))) [
      | true ↦ others_stored name es
      | false ↦ ap (λ l. stored_entry e ∷ l) (others_stored name es)
    ]

each_marked : (name : _) (rows : List (Name × Row)) → filter_map (entry_as (Owned name)) rows ≡ map (marked_entry name.now) rows
each_marked name [] = refl
each_marked name (e ∷ es) = ap (λ l. marked_entry name.now e ∷ l) (each_marked name es)

pub all_stored : (l : Listed) (d : Directory) → AreRising (λ r. r.0) d.rows → filter_map (entry_as l) d.rows ≡ listed_as l d
all_stored Whole d rising = each_stored d.rows
all_stored (Without name) d rising = others_stored name d.rows ∙ ap (map stored_entry) (without_drops name.now d.rows rising)
all_stored (Owned name) d rising = each_marked name d.rows

-- ---- where all can be stored

all_behind : (o : Option StoredEntry) (es : List StoredEntry) → AllByRecursion IsStorable (cons_option o es) → AllByRecursion IsStorable es
all_behind None es all = all
all_behind (Some e) es all = all.1

-- .. so can the one that is written next
next_storable : (l : Listed) (rows : List (Name × Row)) (i : ℕ) (n : Name) (x : Row) (o : Origin) → slice_get rows i ≡ Some (n, x) → Some o ≡ origin_as l n x.origin
    → AllByRecursion IsStorable (filter_map (entry_as l) rows) → IsStorable (record { name = n; kind = x.kind; origin = o; number = x.number })
next_storable l [] i n x o h is all = absurd (none-some (n, x) h)
next_storable l (r ∷ rows) zero n x o h is all =
    let here = subst (λ (q : Name × Row). AllByRecursion IsStorable (cons_option (entry_as l q) (filter_map (entry_as l) rows))) (same_Some r (n, x) h) all in
    (subst (λ (a : Option Origin). AllByRecursion IsStorable
    (cons_option (option_map (λ b. record { name = n; kind = x.kind; origin = b; number = x.number }) a) (filter_map (entry_as l) rows))) (sym is) here).0
next_storable l (r ∷ rows) (suc i) n x o h is all =
    next_storable l rows i n x o h is (all_behind (entry_as l r) (filter_map (entry_as l) rows) all)

both_longer : (o : Option StoredEntry) (es fs : List StoredEntry) → length es < length fs → length (cons_option o es) < length (cons_option o fs)
both_longer None es fs h = h
both_longer (Some e) es fs h = omega (arith, h)

one_longer : (l : Listed) (rows : List (Name × Row)) (i : ℕ) (n : Name) (x : Row) (o : Origin) → slice_get rows i ≡ Some (n, x) → Some o ≡ origin_as l n x.origin
    → length (entries_as l rows i) < length (filter_map (entry_as l) rows)
one_longer l [] i n x o h is = absurd (none-some (n, x) h)
one_longer l (r ∷ rows) zero n x o h is =
    let longer : 0 < length (cons_option (option_map (λ b. record { name = n; kind = x.kind; origin = b; number = x.number }) (Some o)) (filter_map (entry_as l) rows)) = omega arith in
    let here = subst (λ (a : Option Origin). 0 < length
    (cons_option (option_map (λ b. record { name = n; kind = x.kind; origin = b; number = x.number }) a) (filter_map (entry_as l) rows))) is longer in
    subst (λ (q : Name × Row). 0 < length (cons_option (entry_as l q) (filter_map (entry_as l) rows))) (sym (same_Some r (n, x) h)) here
one_longer l (r ∷ rows) (suc i) n x o h is =
    both_longer (entry_as l r) (entries_as l rows i) (filter_map (entry_as l) rows) (one_longer l rows i n x o h is)

module _ (l : Listed) (d : Directory) (rising : AreRising (λ r. r.0) d.rows) (are : AreStorable (listed_as l d)) where
  pub next_can_be : (i : ℕ) (n : Name) (x : Row) (o : Origin) → slice_get d.rows i ≡ Some (n, x) → Some o ≡ origin_as l n x.origin
      → IsStorable (record { name = n; kind = x.kind; origin = o; number = x.number })
  next_can_be i n x o h is = next_storable l d.rows i n x o h is (subst (AllByRecursion IsStorable) (sym (all_stored l d rising)) are.each)

  -- and there is room for its count
  pub next_has_room : (i : ℕ) (n : Name) (x : Row) (o : Origin) → slice_get d.rows i ≡ Some (n, x) → Some o ≡ origin_as l n x.origin
      → length (entries_as l d.rows i) < 4294967295
  next_has_room i n x o h is =
      let few : length (listed_as l d) < 4294967296 = are.count in
      omega (arith, one_longer l d.rows i n x o h is, ap (length {A = StoredEntry}) (all_stored l d rising), few)

-- all of them
pub all_as : (l : Listed) (d : Directory) (i : ℕ) → AreRising (λ r. r.0) d.rows → length d.rows ≤ i → entries_as l d.rows i ≡ listed_as l d
all_as l d i rising end = ap (filter_map (entry_as l)) (take_all i d.rows end) ∙ all_stored l d rising
