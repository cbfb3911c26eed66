-- Reading rows one after the other, as a loop does.
use Rattle.std.proofs.Common.{◌≡◌, ℕ, suc, ◌-◌, ◌+◌, ◌≤◌, ◌<◌, List, [], ◌∷◌, ◌++◌, Some, None, refl, sym, ap, ◌∙◌, append_assoc, arith}
use Rattle.std.proofs.lemmas.List.{append-nil}
use Rattle.eden_overlay_format.specs.declared.refusal.DecodeFault.{DecodeFault}
use Rattle.eden_overlay_format.specs.declared.refusal.DecodeFault.TheVariants as fault
use Rattle.eden_overlay_format.specs.declared.stored_entry.StoredEntry.{StoredEntry}
use Rattle.eden_overlay_format.specs.Reading.{◌>>=◌, Field, Fails, stored_row_at, rows_at}

-- what was read before, and what is still read
abbrev pub with_front : List StoredEntry → Field (List StoredEntry) → Field (List StoredEntry)
with_front front read = read >>= λ x. Some (front ++ x.0, x.1)

regroup : (front : List StoredEntry) (e : StoredEntry) (read : Field (List StoredEntry)) → with_front front (read >>= λ x. Some (e ∷ x.0, x.1)) ≡ with_front (front ++ e ∷ []) read
regroup front e (Some x) = ap (λ (es : List StoredEntry). Some (es, x.1)) (simp append_assoc)
regroup front e None = refl

module _ (front : List StoredEntry) (count i : ℕ) (bytes : List ℕ) (total : Field (List StoredEntry)) (so_far : with_front front (rows_at (count - i) bytes) ≡ total) where
  pub goes_on : (e : StoredEntry) (after : List ℕ) → i < count → stored_row_at bytes ≡ Some (e, after) → with_front (front ++ e ∷ []) (rows_at (count - (i + 1)) after) ≡ total
  unfolding rows_at
  goes_on e after lt h =
      let k : count - i ≡ suc (count - (i + 1)) = omega arith in
      let one : with_front front (rows_at (count - i) bytes) ≡ with_front (front ++ e ∷ []) (rows_at (count - (i + 1)) after) = rw (k, h) (regroup front e (rows_at (count - (i + 1)) after)) in
      sym one ∙ so_far

  pub ends : (f : DecodeFault) → i < count → Fails f (stored_row_at bytes) → Fails f total
  unfolding rows_at
  ends fault.Memory lt h = tt
  ends (fault.Refused r) lt h =
      let k : count - i ≡ suc (count - (i + 1)) = omega arith in
      let row : stored_row_at bytes ≡ None = h.1 in
      let one : with_front front (rows_at (count - i) bytes) ≡ None = rw (k, row) refl in
      (h.0, sym so_far ∙ one)

  pub is_done : count ≤ i → total ≡ Some (front, bytes)
  unfolding rows_at
  is_done le =
      let k : count - i ≡ 0 = omega arith in
      let one : with_front front (rows_at (count - i) bytes) ≡ Some (front, bytes) = rw k (ap (λ (es : List StoredEntry). Some (es, bytes)) (append-nil front)) in
      sym so_far ∙ one
