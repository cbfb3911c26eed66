-- What is found in a list by last use.
use Rattle.std.proofs.Common.{◌≡◌, ℕ, zero, suc, Bool, true, false, cond, ◌⊎◌, inl, inr, List, [], ◌∷◌, take, Option, Some, None, refl, sym, ap, ◌∙◌, subst}
use Rattle.std.specs.Option.{option_map_or}
use Rattle.std.specs.Map.{lookup, lookup_entry, remove_entry}
use Rattle.lru.specs.LruCache.{promoted}
use Rattle.eden_cache.specs.Bounded.{newest}
use Rattle.eden_cache.proofs.Newest.{lookup_entry-passes}

module _ {K V : Type 0} (test : K → Bool) where
  -- what a front has, the whole has
  pub lookup-take : (n : ℕ) (es : List (K × V)) (v : V) → lookup test (take n es) ≡ Some v → lookup test es ≡ Some v
  lookup-take zero es v h = cc
  lookup-take (suc n) [] v h = h
  lookup-take (suc n) (e ∷ es) v h = (elim (test e.0) as (λ y. test e.0 ≡ y → lookup test (e ∷ es) ≡ Some v) [
    | true ↦ λ t. rw t (rw t at h)
    | false ↦ λ t. rw t (lookup-take n es v (rw t at h))
  ]) refl

  -- the entry that is found has the value that is found
  pub lookup-some : (es : List (K × V)) (e : K × V) → lookup_entry test es ≡ Some e → lookup test es ≡ Some e.1
  lookup-some [] e h = cc
  lookup-some (f ∷ es) e h = (elim (test f.0) as (λ y. test f.0 ≡ y → lookup test (f ∷ es) ≡ Some e.1) [
    | true ↦ λ t. let h' = rw t at h in let same : f ≡ e = cc in rw t (ap (λ (x : K × V). Some x.1) same)
    | false ↦ λ t. rw t (lookup-some es e (rw t at h))
  ]) refl

module _ {K V : Type 0} (eq : K → K → Bool) (one : (j k : K) → eq j k ≡ true → j ≡ k) (j k : K) where
  -- another key is found as if the one were there
  pub lookup-remove_entry : eq j k ≡ false → (es : List (K × V)) → lookup (eq j) (remove_entry (eq k) es) ≡ lookup (eq j) es
  lookup-remove_entry apart [] = refl
  lookup-remove_entry apart (e ∷ es) = (elim (eq k e.0) as (λ y. eq k e.0 ≡ y → lookup (eq j) (remove_entry (eq k) (e ∷ es)) ≡ lookup (eq j) (e ∷ es)) [
    | true ↦ λ t.
        let other : eq j e.0 ≡ false = subst (λ i. eq j i ≡ false) (one k e.0 t) apart in
        rw (t, other)
    | false ↦ λ t. rw t (ap (λ (o : Option V). cond (eq j e.0) (Some e.1) o) (lookup-remove_entry apart es))
  ]) refl

  pub lookup-newest : (v : V) (es : List (K × V)) (w : V) → lookup (eq j) (newest eq k v es) ≡ Some w → ((j ≡ k) × (w ≡ v)) ⊎ (lookup (eq j) es ≡ Some w)
  lookup-newest v es w h = (elim (eq j k) as (λ y. eq j k ≡ y → ((j ≡ k) × (w ≡ v)) ⊎ (lookup (eq j) es ≡ Some w)) [
    | true ↦ λ t. let h' = rw t at h in let same : w ≡ v = cc in inl (one j k t, same)
    | false ↦ λ t. inr (sym (lookup-remove_entry t es) ∙ (rw t at h))
  ]) refl

  promoted_cases : (es : List (K × V)) (o : Option (K × V)) → lookup_entry (eq k) es ≡ o → lookup (eq j) (option_map_or (λ e. e ∷ remove_entry (eq k) es) o es) ≡ lookup (eq j) es
  promoted_cases es None h = refl
  promoted_cases es (Some e) h =
      let is : k ≡ e.0 = one k e.0 (lookup_entry-passes (eq k) es e h) in
      (elim (eq j e.0) as (λ y. eq j e.0 ≡ y → lookup (eq j) (e ∷ remove_entry (eq k) es) ≡ lookup (eq j) es) [
        | true ↦ λ t.
            let both : k ≡ j = is ∙ sym (one j e.0 t) in
            rw t (sym (subst (λ i. lookup (eq i) es ≡ Some e.1) both (lookup-some (eq k) es e h)))
        | false ↦ λ t. rw t (lookup-remove_entry (subst (λ i. eq j i ≡ false) (sym is) t) es)
      ]) refl

  pub lookup-promoted : (es : List (K × V)) → lookup (eq j) (promoted (eq k) es) ≡ lookup (eq j) es
  lookup-promoted es = promoted_cases es (lookup_entry (eq k) es) refl
