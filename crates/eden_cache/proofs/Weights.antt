-- What objects weigh together.
use Rattle.std.proofs.Common.{◌≡◌, ℕ, zero, suc, ◌+◌, ◌-◌, ◌<◌, ◌≤◌, List, [], ◌∷◌, length, take, slice_get, Option, Some, None, Bool, true, false, refl, ap, arith}
use Rattle.std.specs.Option.{option_map_or}
use Rattle.std.proofs.lemmas.List.Sums.{sum_by-cons}
use Rattle.std.specs.Map.{values_of, lookup, lookup_entry, remove_entry}
use Rattle.lru.specs.LruCache.{LruCache, put_entries, displaced, promoted}
use Rattle.eden_model.specs.declared.id.Key.{Key}
use Rattle.eden_object.specs.Objects.{Body}
use Rattle.eden_cache.specs.Bounded.{weight_of, weight_gone}

pub weight_of-cons : (e : Key × Body) (es : List (Key × Body)) → weight_of (e ∷ es) ≡ length e.1.bytes + weight_of es
weight_of-cons e es = sum_by-cons (λ (b : Body). length b.bytes) e.1 (values_of es)

-- what leaves the end of a list, and what is left, weigh as much as the list
pub weight_of-take : (es : List (Key × Body)) (n : ℕ) → length es ≤ n + 1 → weight_of (take n es) + weight_gone (slice_get es n) ≡ weight_of es
weight_of-take [] zero h = refl
weight_of-take [] (suc n) h = refl
weight_of-take (x ∷ []) zero h = omega (arith, weight_of-cons x [])
weight_of-take (x ∷ y ∷ es) zero h = absurd (omega arith)
weight_of-take (x ∷ es) (suc n) h =
    let rest : weight_of (take n es) + weight_gone (slice_get es n) ≡ weight_of es = weight_of-take es n (omega arith) in
    omega (arith, weight_of-cons x es, weight_of-cons x (take n es), rest)

-- ---- a put: what is there and what left weigh as much as what was there and the new object

module _ (test : Key → Bool) where
  -- the entry that is found weighs what its value does, and the others weigh the rest
  weight_of-remove_entry : (es : List (Key × Body)) (e : Key × Body) → lookup_entry test es ≡ Some e → (lookup test es ≡ Some e.1)
      × (weight_of (remove_entry test es) + length e.1.bytes ≡ weight_of es)
  weight_of-remove_entry [] e h = cc
  weight_of-remove_entry (f ∷ es) e h = (elim (test f.0) as (λ y. test f.0 ≡ y → (lookup test (f ∷ es) ≡ Some e.1) × (weight_of (remove_entry test (f ∷ es)) + length e.1.bytes ≡ weight_of (f ∷ es))) [
    | true ↦ λ t. let h' = rw t at h in let same : f ≡ e = cc in rw (t, same) (refl, omega (arith, weight_of-cons e es))
    | false ↦ λ t.
        let rest = weight_of-remove_entry es e (rw t at h) in
        let sum : weight_of (remove_entry test es) + length e.1.bytes ≡ weight_of es = rest.1 in
        rw t (rest.0, omega (arith, weight_of-cons f es, weight_of-cons f (remove_entry test es), sum))
  ]) refl

  lookup-none : (es : List (Key × Body)) → lookup_entry test es ≡ None → lookup test es ≡ None
  lookup-none [] h = refl
  lookup-none (f ∷ es) h = (elim (test f.0) as (λ y. test f.0 ≡ y → lookup test (f ∷ es) ≡ None) [
    | true ↦ λ t. let h' = rw t at h in cc
    | false ↦ λ t. rw t (lookup-none es (rw t at h))
  ]) refl

  weight_of-promoted_cases : (es : List (Key × Body)) (o : Option (Key × Body)) → lookup_entry test es ≡ o → weight_of (option_map_or (λ e. e ∷ remove_entry test es) o es) ≡ weight_of es
  weight_of-promoted_cases es None h = refl
  weight_of-promoted_cases es (Some e) h = omega (arith, weight_of-cons e (remove_entry test es), (weight_of-remove_entry es e h).1)

  -- a use changes nothing of the weight
  pub weight_of-promoted : (es : List (Key × Body)) → weight_of (promoted test es) ≡ weight_of es
  weight_of-promoted es = weight_of-promoted_cases es (lookup_entry test es) refl

module _ (eq : Key → Key → Bool) (c : LruCache Key Body) (k : Key) (v : Body) (few : length c.entries ≤ c.cap) (room : 0 < c.cap) where
  put_cases : (o : Option (Key × Body)) → lookup_entry (eq k) c.entries ≡ o
      → weight_of (option_map_or (λ e. (e.0, v) ∷ remove_entry (eq k) c.entries) o ((k, v) ∷ take (c.cap - 1) c.entries)) + weight_gone (displaced eq c k v) ≡ weight_of c.entries + length v.bytes
  put_cases None h =
      let out : displaced eq c k v ≡ slice_get c.entries (c.cap - 1) = ap (λ (o : Option Body). option_map_or (λ (old : Body). Some (k, old)) o (slice_get c.entries (c.cap - 1)))
      (lookup-none (eq k) c.entries h) in
      omega (arith, weight_of-cons (k, v) (take (c.cap - 1) c.entries), weight_of-take c.entries (c.cap - 1) (omega arith), ap weight_gone out)
  put_cases (Some e) h =
      let found = weight_of-remove_entry (eq k) c.entries e h in
      let out : displaced eq c k v ≡ Some (k, e.1) = ap (λ (o : Option Body). option_map_or (λ (old : Body). Some (k, old)) o (slice_get c.entries (c.cap - 1))) found.0 in
      omega (arith, weight_of-cons (e.0, v) (remove_entry (eq k) c.entries), found.1, ap weight_gone out)

  pub weight_of-put_entries : weight_of (put_entries eq c k v) + weight_gone (displaced eq c k v) ≡ weight_of c.entries + length v.bytes
  weight_of-put_entries = put_cases (lookup_entry (eq k) c.entries) refl
