-- What `put` of the map behind the cache leaves, as the front of a list by last use.
use Rattle.std.proofs.Common.{◌≡◌, ℕ, zero, suc, ◌+◌, ◌-◌, ◌<◌, ◌≤◌, Bool, true, false, List, [], ◌∷◌, length, take, Option, Some, None, refl, sym, ap, ◌∙◌, arith}
use Rattle.std.specs.Option.{option_map_or}
use Rattle.std.specs.Map.{lookup_entry, remove_entry}
use Rattle.std.proofs.lemmas.List.{take_all}
use Rattle.lru.specs.LruCache.{LruCache, put_entries, promoted}
use Rattle.eden_cache.specs.Bounded.{newest}

module _ {K V : Type 0} (test : K → Bool) where
  -- a key that isn't there isn't removed
  pub remove_entry-none : (es : List (K × V)) → lookup_entry test es ≡ None → remove_entry test es ≡ es
  remove_entry-none [] h = refl
  remove_entry-none (e ∷ es) h = (elim (test e.0) as (λ y. test e.0 ≡ y → remove_entry test (e ∷ es) ≡ e ∷ es) [
    | true ↦ λ t. let h' = rw t at h in cc
    | false ↦ λ t. rw t (ap (λ l. e ∷ l) (remove_entry-none es (rw t at h)))
  ]) refl

  -- one that is there passes, and is one entry
  pub lookup_entry-passes : (es : List (K × V)) (e : K × V) → lookup_entry test es ≡ Some e → test e.0 ≡ true
  lookup_entry-passes [] e h = cc
  lookup_entry-passes (f ∷ es) e h = (elim (test f.0) as (λ y. test f.0 ≡ y → test e.0 ≡ true) [
    | true ↦ λ t. let h' = rw t at h in let same : f ≡ e = cc in ap (λ (x : K × V). test x.0) (sym same) ∙ t
    | false ↦ λ t. lookup_entry-passes es e (rw t at h)
  ]) refl

  pub length-remove_entry : (es : List (K × V)) (e : K × V) → lookup_entry test es ≡ Some e → length (remove_entry test es) + 1 ≡ length es
  length-remove_entry [] e h = cc
  length-remove_entry (f ∷ es) e h = (elim (test f.0) as (λ y. test f.0 ≡ y → length (remove_entry test (f ∷ es)) + 1 ≡ length (f ∷ es)) [
    | true ↦ λ t. rw t (omega arith)
    | false ↦ λ t. let shorter : length (remove_entry test es) + 1 ≡ length es = length-remove_entry es e (rw t at h) in rw t (omega arith)
  ]) refl

  length-promoted_cases : (es : List (K × V)) (o : Option (K × V)) → lookup_entry test es ≡ o → length (option_map_or (λ e. e ∷ remove_entry test es) o es) ≡ length es
  length-promoted_cases es None h = refl
  length-promoted_cases es (Some e) h = let shorter : length (remove_entry test es) + 1 ≡ length es = length-remove_entry es e h in omega arith

  pub length-promoted : (es : List (K × V)) → length (promoted test es) ≡ length es
  length-promoted es = length-promoted_cases es (lookup_entry test es) refl

module _ {K V : Type 0} (eq : K → K → Bool) (one : (j k : K) → eq j k ≡ true → j ≡ k) (c : LruCache K V) (k : K) (v : V) (few : length c.entries ≤ c.cap) (room : 0 < c.cap) where
  take-first : (n : ℕ) → 0 < n → (e : K × V) (es : List (K × V)) → e ∷ take (n - 1) es ≡ take n (e ∷ es)
  take-first zero h e es = absurd (omega arith)
  take-first (suc n) h e es = let less : suc n - 1 ≡ n = omega arith in rw less

  put_cases : (o : Option (K × V)) → lookup_entry (eq k) c.entries ≡ o
      → option_map_or (λ e. (e.0, v) ∷ remove_entry (eq k) c.entries) o ((k, v) ∷ take (c.cap - 1) c.entries) ≡ take c.cap (newest eq k v c.entries)
  put_cases None h = take-first c.cap room (k, v) c.entries ∙ ap (λ (l : List (K × V)). take c.cap ((k, v) ∷ l)) (sym (remove_entry-none (eq k) c.entries h))
  put_cases (Some e) h =
      let shorter : length (remove_entry (eq k) c.entries) + 1 ≡ length c.entries = length-remove_entry (eq k) c.entries e h in
      ap (λ (j : K). (j, v) ∷ remove_entry (eq k) c.entries) (sym (one k e.0 (lookup_entry-passes (eq k) c.entries e h)))
      ∙ sym (take_all c.cap (newest eq k v c.entries) (omega arith))

  pub put_entries-newest : put_entries eq c k v ≡ take c.cap (newest eq k v c.entries)
  put_entries-newest = put_cases (lookup_entry (eq k) c.entries) refl
