-- What a cache is seen as, and what is true of each.
use Rattle.std.specs.Prelude.{◌≡◌, ℕ, ◌<◌, ◌≤◌, ◌^◌, ◌⊎◌, List, [], length, take, None}
use Rattle.std.specs.List.{All, IsDistinct}
use Rattle.std.specs.Map.{keys_of, lookup}
use Rattle.lru.specs.LruCache.{LruCache}
use Rattle.eden_model.specs.declared.id.Id.{Id}
use Rattle.eden_model.specs.declared.id.Key.{Key}
use Rattle.eden_model.specs.declared.id.ObjKind.{ObjKind}
use Rattle.eden_model.specs.declared.id.ObjKind.TheVariants.{Blob, Tree}
use Rattle.eden_model.specs.Keys.{same_id, same_key}
use Rattle.eden_object.specs.Objects.{Body}
use Rattle.eden_cache.specs.declared.cache.Usage.{Usage}
use Rattle.eden_cache.specs.Bounded.{newest, weight_of, Fits, IsLongestFront}

-- the objects and the lengths of blobs, the newest of each first, and how many there may be
pub record Cache : Type 0 where
  pub objects : List (Key × Body)
  pub sizes : List (Id × ℕ)
  pub most_entries : ℕ
  pub most_bytes : ℕ
  pub most_sizes : ℕ

-- a cache may be made for so many objects, for so many bytes of them together, and for so many sizes
abbrev pub IsObjectBound : ℕ → Type 0
IsObjectBound n = (1 ≤ n) × (n ≤ 65536)

abbrev pub IsByteBound : ℕ → Type 0
IsByteBound n = (1 ≤ n) × (n ≤ 2 ^ 40)

abbrev pub IsSizeBound : ℕ → Type 0
IsSizeBound n = (1 ≤ n) × (n ≤ 65536)

abbrev pub empty_cache : ℕ → ℕ → ℕ → Cache
empty_cache entries bytes sizes = record { objects = []; sizes = []; most_entries = entries; most_bytes = bytes; most_sizes = sizes }

abbrev pub usage_of : Cache → Usage
usage_of c = record { objects = length c.objects; bytes = weight_of c.objects; sizes = length c.sizes }

-- an object is of its key's kind
abbrev pub IsOfItsKind : Key × Body → Type 0
IsOfItsKind e = e.1.kind ≡ e.0.kind

abbrev pub AreOfTheirKinds : List (Key × Body) → Type 0
AreOfTheirKinds objects = All IsOfItsKind objects

-- what holds of every cache
pub record IsSound (c : Cache) : Type 0 where
  pub keys : IsDistinct same_key (keys_of c.objects)
  pub kinds : AreOfTheirKinds c.objects
  pub bounded : Fits c.most_entries c.most_bytes c.objects
  pub ids : IsDistinct same_id (keys_of c.sizes)
  pub sizes : length c.sizes ≤ c.most_sizes

-- the objects after a put: the longest front within the bounds, the new object first
abbrev pub KeepsObject : Cache → Key → Body → List (Key × Body) → Type 0
KeepsObject c k b kept = IsLongestFront c.most_entries c.most_bytes (newest same_key k b c.objects) kept

-- the sizes after a put of an object of that length: a blob's is the newest, or finds no memory; a tree's is not kept
abbrev pub KeepsSize : ObjKind → Cache → Id → ℕ → List (Id × ℕ) → Type 0
KeepsSize Blob c id n sizes = (sizes ≡ take c.most_sizes (newest same_id id n c.sizes)) ⊎ ((lookup (same_id id) c.sizes ≡ None) × (sizes ≡ c.sizes))
KeepsSize Tree c id n sizes = sizes ≡ c.sizes

-- the running sum is what the objects weigh, and they are within their bounds
pub record IsTallied (weight bytes : ℕ) (objects : LruCache Key Body) : Type 0 where
  pub sum : weight ≡ weight_of objects.entries
  pub fits : Fits objects.cap bytes objects.entries
  pub kinds : AreOfTheirKinds objects.entries
  pub room : 0 < objects.cap
  pub light : weight ≤ 2 ^ 40
  pub limit : bytes ≤ 2 ^ 40

-- the sizes are within their bound
pub record IsWithin (sizes : LruCache Id ℕ) : Type 0 where
  pub few : length sizes.entries ≤ sizes.cap
  pub room : 0 < sizes.cap
