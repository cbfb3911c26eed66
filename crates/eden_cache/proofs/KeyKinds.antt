-- The kinds of objects and of their keys, around the calls of the map behind the cache.
use Rattle.std.proofs.Common.{◌≡◌, ℕ, Bool, List, length, Option, Some, None, IfSome, refl, sym, ap, ◌∙◌, subst}
use Rattle.std.specs.List.{Contains}
use Rattle.std.specs.Map.{lookup, remove_entry}
use Rattle.std.proofs.lemmas.List.Elements.{All-cons, All-take, All-contains, All-contains_itself}
use Rattle.eden_model.specs.declared.id.Key.{Key}
use Rattle.eden_model.specs.Keys.{same_key}
use Rattle.eden_model.proofs.CallerLemmas.{same_key-Decides}
use Rattle.eden_object.specs.Objects.{Body}
use Rattle.lru.specs.LruCache.{promoted}
use Rattle.lru.proofs.CallerLemmas.{Contains-lookup, Contains-remove_entry, Contains-promoted}
use Rattle.eden_cache.specs.Bounded.{newest, IsLongestFront}
use Rattle.eden_cache.specs.Cache.{IsOfItsKind, AreOfTheirKinds}

among : (es fs : List (Key × Body)) → ((e : Key × Body) → Contains fs e → Contains es e) → AreOfTheirKinds es → AreOfTheirKinds fs
among es fs old kinds n d within = All-contains IsOfItsKind es _ kinds (old _ (All-contains_itself fs n d within))

pub kinds_promoted : (test : Key → Bool) (es : List (Key × Body)) → AreOfTheirKinds es → AreOfTheirKinds (promoted test es)
kinds_promoted test es = among es (promoted test es) (Contains-promoted test es)

pub kinds_front : (entries bytes : ℕ) (k : Key) (b : Body) (es kept : List (Key × Body)) → b.kind ≡ k.kind → AreOfTheirKinds es
    → IsLongestFront entries bytes (newest same_key k b es) kept → AreOfTheirKinds kept
kinds_front entries bytes k b es kept own kinds front =
    let others = among es (remove_entry (same_key k) es) (Contains-remove_entry (same_key k) es) kinds in
    let all = All-cons IsOfItsKind (k, b) (remove_entry (same_key k) es) own others in
    subst AreOfTheirKinds (sym front.front) (All-take IsOfItsKind (length kept) (newest same_key k b es) all)

-- the object that is found is of the key's kind
pub kind_found : (k : Key) (es : List (Key × Body)) → AreOfTheirKinds es → IfSome (lookup (same_key k) es) (λ b. b.kind ≡ k.kind)
kind_found k es kinds = at (lookup (same_key k) es) refl
  where
    at : (o : Option Body) → lookup (same_key k) es ≡ o → IfSome o (λ b. b.kind ≡ k.kind)
    at None found = tt
    at (Some b) found =
        let entry = Contains-lookup (same_key k) es b found in
        let same : k ≡ entry.0 = (same_key-Decides k entry.0).0 entry.2 in
        All-contains IsOfItsKind es (entry.0, b) kinds entry.1 ∙ sym (ap (λ (j : Key). j.kind) same)
