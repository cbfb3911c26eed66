-- What the equations of a cache's calls say of what is found in it.
use Rattle.std.specs.Prelude.{◌≡◌, ℕ, ◌⊎◌, List, take, Some}
use Rattle.std.specs.Map.{lookup}
use Rattle.eden_model.specs.declared.id.Id.{Id}
use Rattle.eden_model.specs.declared.id.Key.{Key}
use Rattle.eden_object.specs.Objects.{Body}
use Rattle.lru.specs.LruCache.{promoted}
use Rattle.eden_cache.specs.Bounded.{newest, IsLongestFront}
use Rattle.eden_model.specs.Keys.{same_key, same_id}

-- there is one longest front
abbrev pub OneFront : Type 0
OneFront = (entries bytes : ℕ) (all kept others : List (Key × Body))
    → IsLongestFront entries bytes all kept → IsLongestFront entries bytes all others → kept ≡ others

-- what is found after a put is its object under its key, or was there under that key
abbrev pub FindsNoOther : Type 0
FindsNoOther = (entries bytes : ℕ) (k : Key) (b : Body) (es kept : List (Key × Body))
    → IsLongestFront entries bytes (newest same_key k b es) kept
    → (j : Key) (a : Body) → lookup (same_key j) kept ≡ Some a → ((j ≡ k) × (a ≡ b)) ⊎ (lookup (same_key j) es ≡ Some a)

-- likewise of sizes
abbrev pub FindsNoOtherSize : Type 0
FindsNoOtherSize = (most : ℕ) (id : Id) (n : ℕ) (es : List (Id × ℕ)) (j : Id) (m : ℕ) → lookup (same_id j) (take most (newest same_id id n es)) ≡ Some m
    → ((j ≡ id) × (m ≡ n)) ⊎ (lookup (same_id j) es ≡ Some m)

-- a use of one key changes nothing of what is found under any
abbrev pub UseFindsTheSame : Type 0
UseFindsTheSame = (k j : Key) (es : List (Key × Body)) → lookup (same_key j) (promoted (same_key k) es) ≡ lookup (same_key j) es

abbrev pub UseFindsTheSameSize : Type 0
UseFindsTheSameSize = (k j : Id) (es : List (Id × ℕ)) → lookup (same_id j) (promoted (same_id k) es) ≡ lookup (same_id j) es
