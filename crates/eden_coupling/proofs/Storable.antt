-- A directory that can be stored, with one entry changed.
use Rattle.std.proofs.Common.{◌≡◌, ◌<◌, ◌≤◌, ◌^◌, ℕ, suc, true, false, cond, List, [], ◌∷◌, length, map, Option, Some, None, IsSome, inl, inr, refl, sym, ap, subst, arith}
use Rattle.std.specs.List.{AllByRecursion}
use Rattle.std.specs.List.Sorted.{IsStrictlySortedBy}
use Rattle.std.specs.Str.{bytes_eq}
use Rattle.std.proofs.lemmas.Option.{same_Some, none-some}
use Rattle.eden_model.specs.Names.{name_refusal}
use Rattle.eden_model.specs.Named.{AreRising}
use Rattle.eden_model.specs.Operations.{name_lt}
use Rattle.eden_model.specs.Trees.{Name}
use Rattle.eden_overlay_format.specs.Directory.{AreStorable, IsStorable}
use Rattle.eden_tree.specs.Directory.{Row, Directory}
use Rattle.eden_tree.specs.Rows.{find_row, put_row, drop_row, set_row}
use Rattle.eden_tree.proofs.CallerLemmas.{order, AreRising-put_row, AreRising-drop_row, length-put_row, length-change_row, keys_of-change_row}
use Rattle.eden_coupling.specs.Changing.{HasRoom, placed}
use Rattle.eden_coupling.specs.Listings.{stored_entry, listing_of}
use Rattle.eden_coupling.specs.Standing.{DropStorable, EntryStorable}
use Rattle.eden_coupling.proofs.Rows.{names_stored, stored_rising}

abbrev Rows : Type 0
Rows = List (Name × Row)

-- each of the rows can be stored
abbrev AllStored : Rows → Type 0
AllStored rows = AllByRecursion IsStorable (map stored_entry rows)

-- an entry that is one of them, under another name
pub stored_found : (n m : Name) (z : Row) (rows : Rows) → AllStored rows → find_row n rows ≡ Some z → name_refusal m ≡ None → IsStorable (stored_entry (m, z))
stored_found n m z [] all there good = absurd (none-some z there)
stored_found n m z (e ∷ es) all there good = elim (bytes_eq n e.0) as (λ b. cond b (Some e.1) (find_row n es) ≡ Some z → IsStorable (stored_entry (m, z))) [
  | true ↦ λ h. (let P : Row → Type 0 = λ w. IsStorable (stored_entry (m, w)) in
      subst P (same_Some e.1 z h) (record { name = good; origin = all.0.origin; least = all.0.least; most = all.0.most }))
  | false ↦ λ h. stored_found n m z es all.1 h good
] there

-- ---- the rows, each by itself

length_stored : (rows : Rows) → length (map stored_entry rows) ≡ length rows
length_stored [] = refl
length_stored (e ∷ es) = ap suc (length_stored es)

all_dropped : (n : Name) (rows : Rows) → AllStored rows → AllStored (drop_row n rows)
all_dropped n [] all = tt
all_dropped n (e ∷ es) all = elim (bytes_eq n e.0) as (λ b. AllStored (cond b es (e ∷ drop_row n es))) [ true ↦ all.1 | false ↦ (all.0, all_dropped n es all.1) ]

pub length_dropped : (n : Name) (rows : Rows) → length (drop_row n rows) ≤ length rows
length_dropped n [] = omega arith
length_dropped n (e ∷ es) = elim (bytes_eq n e.0) as (λ b. length (cond b es (e ∷ drop_row n es)) ≤ suc (length es)) [
  | true ↦ omega arith
  | false ↦ (let less = length_dropped n es in omega (arith, less))
]

all_set : (n : Name) (z : Row) (rows : Rows) → IsStorable (stored_entry (n, z)) → AllStored rows → AllStored (set_row n z rows)
all_set n z [] can all = tt
all_set n z (e ∷ es) can all = elim (bytes_eq n e.0) as (λ b. AllStored (cond b ((e.0, z) ∷ es) (e ∷ set_row n z es))) [
  | true ↦ (record { name = all.0.name; origin = can.origin; least = can.least; most = can.most }, all.1)
  | false ↦ (all.0, all_set n z es can all.1)
]

all_put : (n : Name) (z : Row) (rows : Rows) → IsStorable (stored_entry (n, z)) → AllStored rows → AllStored (put_row n z rows)
all_put n z [] can all = (can, tt)
all_put n z (e ∷ es) can all = elim (name_lt n e.0) as (λ b. AllStored (cond b ((n, z) ∷ (e ∷ es)) (e ∷ put_row n z es))) [
  | true ↦ (can, all)
  | false ↦ (all.0, all_put n z es can all.1)
]

-- ---- together

stored_all : (rows : Rows) → length rows < 2 ^ 32 → AreRising (λ r. r.0) rows → AllStored rows → AreStorable (map stored_entry rows)
stored_all rows few rising all = record {
  count = subst (λ k. k < 2 ^ 32) (sym (length_stored rows)) few;
  rising = subst (IsStrictlySortedBy order) (sym (names_stored rows)) rising;
  each = all;
}

few_of : (d : Directory) → AreStorable (listing_of d) → length d.rows < 2 ^ 32
few_of d are = subst (λ k. k < 2 ^ 32) (length_stored d.rows) are.count

pub drop_storable : DropStorable
drop_storable d n are =
    let less = length_dropped n d.rows in
    let few = few_of d are in
    stored_all (drop_row n d.rows) (below less few) (AreRising-drop_row n d.rows (stored_rising d are)) (all_dropped n d.rows are.each)
  where
    below : {i j k : ℕ} → i ≤ j → j < k → i < k
    below less few = omega (arith, less, few)

pub entry_storable : EntryStorable
entry_storable d n z are can room =
    elim (find_row n d.rows) as (λ o. find_row n d.rows ≡ o → AreStorable (map stored_entry (placed o n z d.rows))) [
      | Some w ↦ λ there. stored_all (set_row n z d.rows) (subst (λ k. k < 2 ^ 32) (sym (length-change_row n (λ _. z) d.rows)) (few_of d are))
          (subst (IsStrictlySortedBy order) (sym (keys_of-change_row n (λ _. z) d.rows)) (stored_rising d are)) (all_set n z d.rows can are.each)
      | None ↦ λ none. stored_all (put_row n z d.rows) (more none (length-put_row n z d.rows) room)
          (AreRising-put_row n z d.rows none (stored_rising d are)) (all_put n z d.rows can are.each)
    ] refl
  where
    more : {k : ℕ} → find_row n d.rows ≡ None → k ≡ suc (length d.rows) → HasRoom d n → k < 2 ^ 32
    more none is (inl there) = absurd (let P : Option Row → Type 0 = λ r. IsSome r in let both = subst P none there in cc)
    more none is (inr few) = omega (arith, is, few)
