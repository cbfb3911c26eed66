-- What is cached: what was fetched for its key.
use Rattle.std.specs.Prelude.{◌≡◌, ℕ, List, length, Option, Some}
use Rattle.std.specs.Map.{lookup}
use Rattle.eden_model.specs.declared.id.Id.{Id}
use Rattle.eden_model.specs.declared.id.Key.{Key}
use Rattle.eden_model.specs.Keys.{same_id, same_key}
use Rattle.eden_model.specs.Repository.{Repository}
use Rattle.eden_object.specs.Objects.{Body, IsFetched}
use Rattle.eden_cache.specs.Cache.{Cache}

abbrev pub object_at : Cache → Key → Option Body
object_at c k = lookup (same_key k) c.objects

abbrev pub size_at : Cache → Id → Option ℕ
size_at c id = lookup (same_id id) c.sizes

-- the size is that of the repository's blob
pub record IsSize (R : Repository) (id : Id) (size : ℕ) : Type 0 where
  pub bytes : List ℕ
  pub blob : R.blob id ≡ Some bytes
  pub is : size ≡ length bytes

-- each object is what came for its key, and each size where the outside is honest that of the repository's blob
pub record IsStocked (R : Repository) (honest : Type 0) (c : Cache) : Type 0 where
  pub objects : (k : Key) (o : Body) → object_at c k ≡ Some o → IsFetched R honest k o
  pub sizes : (id : Id) (size : ℕ) → size_at c id ≡ Some size → honest → IsSize R id size

-- the same is found in both, under every key and every id
pub record FindsTheSame (c d : Cache) : Type 0 where
  pub objects : (k : Key) → object_at d k ≡ object_at c k
  pub sizes : (id : Id) → size_at d id ≡ size_at c id
