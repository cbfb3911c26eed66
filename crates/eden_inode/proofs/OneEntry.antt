-- The one entry of a name, as it is stored.
use Rattle.std.proofs.Common.{◌≡◌, true, false, cond, List, [], ◌∷◌, Option, IfSome, Some, None, refl, sym, ap, ◌∙◌, subst}
use Rattle.std.specs.Str.{bytes_eq}
use Rattle.std.specs.List.{filter_map, cons_option, AllByRecursion}
use Rattle.std.specs.Option.{option_map, option_and_then}
use Rattle.std.proofs.lemmas.Option.{none-some, same_Some}
use Rattle.eden_model.specs.declared.kind.Origin.{Origin}
use Rattle.eden_model.specs.declared.kind.Origin.TheVariants as origin
use Rattle.eden_model.specs.Trees.{Name}
use Rattle.eden_model.specs.Named.{AreRising, named}
use Rattle.eden_overlay_format.specs.Directory.{IsStorable}
use Rattle.eden_overlay_format.specs.declared.stored_entry.StoredEntry.{StoredEntry}
use Rattle.eden_tree.specs.Directory.{Row, Directory}
use Rattle.eden_tree.specs.Rows.{find_row}
use Rattle.eden_tree.proofs.CallerLemmas.{same-≡}
use Rattle.eden_inode.specs.declared.listing.Listed.{Listed}
use Rattle.eden_inode.specs.declared.listing.Listed.TheVariants.{Whole, Without, Owned}
use Rattle.eden_inode.specs.Listed.{listed_as, origin_as}
use Rattle.eden_inode.proofs.Entries.{entry_as, all_stored}

abbrev entry_named : Name → List StoredEntry → Option StoredEntry
entry_named n es = named (λ e. e.name) n es

-- in front of others it is found, if it is that one
found_first : (n : Name) (o : Option StoredEntry) (rest : List StoredEntry) → IfSome o (λ v. bytes_eq n v.name ≡ true) → (o ≡ None → entry_named n rest ≡ None)
    → entry_named n (cons_option o rest) ≡ o
found_first n None rest is none = none refl
found_first n (Some v) rest is none = ap (λ b. cond b (Some v) (entry_named n rest)) is

-- .. and else passed over
passed_over : (n : Name) (o : Option StoredEntry) (rest : List StoredEntry) → IfSome o (λ v. bytes_eq n v.name ≡ false) → entry_named n (cons_option o rest) ≡ entry_named n rest
passed_over n None rest is = refl
passed_over n (Some v) rest is = ap (λ b. cond b (Some v) (entry_named n rest)) is

-- a row with that origin, as it is stored
abbrev pub with_origin : Name → Row → Origin → StoredEntry
with_origin n z o = record { name = n; kind = z.kind; origin = o; number = z.number }

-- an entry has its row's name
named_so : (n : Name) (b : _) (m : Name) (z : Row) (o : Option Origin) → bytes_eq n m ≡ b → IfSome (option_map (with_origin m z) o) (λ (v : StoredEntry). bytes_eq n v.name ≡ b)
named_so n b m z None is = tt
named_so n b m z (Some o) is = is

has_name : (n : Name) (b : _) (l : Listed) (e : Name × Row) → bytes_eq n e.0 ≡ b → IfSome (entry_as l e) (λ (v : StoredEntry). bytes_eq n v.name ≡ b)
has_name n b l e is = named_so n b e.0 e.1 (origin_as l e.0 e.1.origin) is

-- one that is left out is left out whatever it is
left_so : (b : _) (n : Name) (z w : Row) → option_map (with_origin n z) (cond b None (Some z.origin)) ≡ None → option_map (with_origin n w) (cond b None (Some w.origin)) ≡ None
left_so true n z w h = refl
left_so false n z w h = absurd (none-some (with_origin n z z.origin) (sym h))

left_out : (l : Listed) (n : Name) (z w : Row) → entry_as l (n, z) ≡ None → entry_as l (n, w) ≡ None
left_out Whole n z w h = absurd (none-some (with_origin n z z.origin) (sym h))
left_out (Without name) n z w h = left_so (bytes_eq name.now n) n z w h
left_out (Owned name) n z w h = absurd (none-some (with_origin n z (cond (bytes_eq name.now n) origin.Own z.origin)) (sym h))

none_of : (l : Listed) (n : Name) (z : Row) (o : Option Row) → entry_as l (n, z) ≡ None → option_and_then (λ w. entry_as l (n, w)) o ≡ None
none_of l n z None h = refl
none_of l n z (Some w) h = left_out l n z w h

one_entry : (l : Listed) (n : Name) (rows : List (Name × Row)) → entry_named n (filter_map (entry_as l) rows) ≡ option_and_then (λ w. entry_as l (n, w)) (find_row n rows)
one_entry l n [] = refl
one_entry l n (e ∷ es) =
    elim (bytes_eq n e.0) as (λ b. bytes_eq n e.0 ≡ b
    → entry_named n (cons_option (entry_as l e) (filter_map (entry_as l) es)) ≡ option_and_then (λ w. entry_as l (n, w)) (cond b (Some e.1) (find_row n es))) [
      | true ↦ λ s. (let same : entry_as l e ≡ entry_as l (n, e.1) = ap (λ m. entry_as l (m, e.1)) (sym (same-≡ n e.0 s)) in
          found_first n (entry_as l e) (filter_map (entry_as l) es) (has_name n true l e s) (λ none. one_entry l n es ∙ none_of l n e.1 (find_row n es) (sym same ∙ none)) ∙ same)
      | false ↦ λ s. passed_over n (entry_as l e) (filter_map (entry_as l) es) (has_name n false l e s) ∙ one_entry l n es
    ] refl

one_stored_as : (l : Listed) (n : Name) (d : Directory) → AreRising (λ r. r.0) d.rows → entry_named n (listed_as l d) ≡ option_and_then (λ w. entry_as l (n, w)) (find_row n d.rows)
one_stored_as l n d rising = ap (entry_named n) (sym (all_stored l d rising)) ∙ one_entry l n d.rows

pub none_stored : (l : Listed) (n : Name) (d : Directory) → AreRising (λ r. r.0) d.rows → None ≡ find_row n d.rows → None ≡ entry_named n (listed_as l d)
none_stored l n d rising absent = sym (one_stored_as l n d rising ∙ ap (option_and_then (λ w. entry_as l (n, w))) (sym absent))

pub stored_so : (l : Listed) (n : Name) (d : Directory) → AreRising (λ r. r.0) d.rows → (x : Row) → Some x ≡ find_row n d.rows → (o : Option Origin) → o ≡ origin_as l n x.origin
    → option_map (with_origin n x) o ≡ entry_named n (listed_as l d)
stored_so l n d rising x there o is = ap (option_map (with_origin n x)) is ∙ sym (one_stored_as l n d rising ∙ ap (option_and_then (λ w. entry_as l (n, w))) (sym there))

-- an entry that is found is one of them
pub one_of : (P : StoredEntry → Type 0) (n : Name) (es : List StoredEntry) (e : StoredEntry) → AllByRecursion P es → entry_named n es ≡ Some e → P e
one_of P n [] e all h = absurd (none-some e h)
one_of P n (x ∷ es) e all h =
    elim (bytes_eq n x.name) as (λ b. cond b (Some x) (entry_named n es) ≡ Some e → P e) [
      | true ↦ λ k. subst P (same_Some x e k) all.0
      | false ↦ λ k. one_of P n es e all.1 k
    ] h

pub facts_storable : {T : Type 0} (view : T → StoredEntry) (o : Option T) (n : Name) (es : List StoredEntry) → AllByRecursion IsStorable es → option_map view o ≡ entry_named n es
    → IfSome o (λ f. IsStorable (view f))
facts_storable view None n es all h = tt
facts_storable view (Some f) n es all h = one_of IsStorable n es (view f) all (sym h)
