-- How many bytes wait, around the calls of the map.
use Rattle.std.proofs.Common.{◌≡◌, ℕ, ◌+◌, List, length, Option, None, Some, Result, Ok, Err, IfOk, OnErr, OnOk, unwrap_or, ◌∙◌, sym, ap, subst, arith}
use Rattle.std.specs.Option.{option_map}
use Rattle.std.specs.Ordering.{nat_cmp}
use Rattle.std.specs.BTreeMap.{insert_entry, is_at}
use Rattle.std.specs.List.Sorted.{IsStrictlySortedBy}
use Rattle.std.specs.Map.{lookup, keys_of, set_value, remove_entry}
use Rattle.std.proofs.lemmas.Cmp.{nat_cmp_total}
use Rattle.std.proofs.lemmas.Map.Steps.{set_value_same}
use Rattle.std.proofs.lemmas.Map.Entries.{sum_by-insert_entry, sum_by-set_value, sum_by-remove_entry}
use Rattle.eden_fuse_shown.specs.Waiting.{Extent, Table, all_of}

abbrev bytes_in : Extent → ℕ
bytes_in e = length e.bytes

-- of a node for which nothing waited
pub all_begun : (es new : Table) (i : ℕ) (e : Extent) → IsStrictlySortedBy nat_cmp (keys_of es) → lookup (is_at (nat_cmp i)) es ≡ None
    → new ≡ insert_entry nat_cmp es i e → all_of new ≡ all_of es + length e.bytes
all_begun es new i e sorted none is =
    let sum : all_of (insert_entry nat_cmp es i e) + unwrap_or (option_map bytes_in (lookup (is_at (nat_cmp i)) es)) 0 ≡ all_of es + length e.bytes =
    sum_by-insert_entry bytes_in nat_cmp_total es i e sorted in
    let alone : all_of (insert_entry nat_cmp es i e) + 0 ≡ all_of es + length e.bytes =
    subst (λ (o : Option Extent). all_of (insert_entry nat_cmp es i e) + unwrap_or (option_map bytes_in o) 0 ≡ all_of es + length e.bytes) none sum in
    subst (λ (t : Table). all_of t ≡ all_of es + length e.bytes) (sym is) (omega (arith, alone))

module _ {E : Type 0} where
  -- of a node for which something waited
  pub all_joined : (r : Result ℕ E) (es new : Table) (i : ℕ) (x w : Extent) → lookup (is_at (nat_cmp i)) es ≡ Some x
      → new ≡ set_value (is_at (nat_cmp i)) es w → IfOk r (λ n. length w.bytes ≡ length x.bytes + n) → IfOk r (λ n. all_of new ≡ all_of es + n)
  all_joined (Ok n) es new i x w at is grown =
      let sum : all_of (set_value (is_at (nat_cmp i)) es w) + length x.bytes ≡ all_of es + length w.bytes = sum_by-set_value bytes_in (is_at (nat_cmp i)) es x w at in
      subst (λ (t : Table). all_of t ≡ all_of es + n) (sym is) (omega (arith, sum, grown))
  all_joined (Err e) es new i x w at is grown = tt

  -- .. and it is as it was
  pub kept : {V : Type 0} (r : Result V E) (es new : Table) (i : ℕ) (x w : Extent) → lookup (is_at (nat_cmp i)) es ≡ Some x
      → new ≡ set_value (is_at (nat_cmp i)) es w → OnErr r (w ≡ x) → OnErr r (new ≡ es)
  kept (Ok v) es new i x w at is same = tt
  kept (Err e) es new i x w at is same =
      is ∙ ap (λ (y : Extent). set_value (is_at (nat_cmp i)) es y) same ∙ set_value_same (is_at (nat_cmp i)) es x at

-- without what waited for a node
pub all_cleared : (es new : Table) (i : ℕ) (x : Extent) → lookup (is_at (nat_cmp i)) es ≡ Some x → new ≡ remove_entry (is_at (nat_cmp i)) es
    → all_of new + length x.bytes ≡ all_of es
all_cleared es new i x at is =
    let sum : all_of (remove_entry (is_at (nat_cmp i)) es) + unwrap_or (option_map bytes_in (lookup (is_at (nat_cmp i)) es)) 0 ≡ all_of es =
    sum_by-remove_entry bytes_in (is_at (nat_cmp i)) es in
    let some : all_of (remove_entry (is_at (nat_cmp i)) es) + length x.bytes ≡ all_of es =
    subst (λ (o : Option Extent). all_of (remove_entry (is_at (nat_cmp i)) es) + unwrap_or (option_map bytes_in o) 0 ≡ all_of es) at sum in
    subst (λ (t : Table). all_of t + length x.bytes ≡ all_of es) (sym is) some
