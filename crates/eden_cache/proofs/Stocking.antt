-- What is cached stays what came for its key.
use Rattle.std.proofs.Common.{◌≡◌, ◌⊎◌, ℕ, length, Option, Some, None, Result, Ok, Err, OnOk, OnErr, IfSome, sym, refl, ◌∙◌, ap, subst, inl, inr}
use Rattle.std.specs.Map.{lookup}
use Rattle.lru.specs.LruCache.{promoted}
use Rattle.eden_model.specs.declared.id.Id.{Id}
use Rattle.eden_model.specs.declared.id.Key.{Key}
use Rattle.eden_model.specs.declared.id.ObjKind.{ObjKind}
use Rattle.eden_model.specs.declared.id.ObjKind.TheVariants as objects
use Rattle.eden_model.specs.Keys.{same_id, same_key}
use Rattle.eden_model.specs.Repository.{Repository}
use Rattle.eden_object.specs.Objects.{Body, IsFetched}
use Rattle.eden_cache.specs.Cache.{Cache, KeepsObject, KeepsSize}
use Rattle.eden_cache.specs.Stock.{IsSize, IsStocked, object_at, size_at}
use Rattle.eden_cache.proofs.CacheLaws.{finds_no_other, finds_no_other_size, use_finds_the_same, use_finds_the_same_size}

module _ (R : Repository) (honest : Type 0) (c d : Cache) (k : Key) (o : Body) (stocked : IsStocked R honest c)
    (fetched : IsFetched R honest k o) where
  put_objects : KeepsObject c k o d.objects → (j : Key) (a : Body) → object_at d j ≡ Some a → IsFetched R honest j a
  put_objects kept j a found = by_key (finds_no_other c.most_entries c.most_bytes k o c.objects d.objects kept j a found) where
    by_key : ((j ≡ k) × (a ≡ o)) ⊎ (object_at c j ≡ Some a) → IsFetched R honest j a
    by_key (inl both) = subst (λ (i : Key). IsFetched R honest i a) (sym both.0) (subst (λ (b : Body). IsFetched R honest k b) (sym both.1) fetched)
    by_key (inr before) = stocked.objects j a before

  put_sizes : (m : ObjKind) → k.kind ≡ m → KeepsSize m c k.id (length o.bytes) d.sizes → (id : Id) (size : ℕ) → size_at d id ≡ Some size → honest → IsSize R id size
  put_sizes objects.Tree is same id size found h = stocked.sizes id size (ap (lookup (same_id id)) (sym same) ∙ found) h
  put_sizes objects.Blob is (inr none) id size found h = stocked.sizes id size (ap (lookup (same_id id)) (sym none.1) ∙ found) h
  put_sizes objects.Blob is (inl kept) id size found h = by_id (finds_no_other_size c.most_sizes k.id (length o.bytes) c.sizes id size (ap (lookup (same_id id)) (sym kept) ∙ found)) where
    by_id : ((id ≡ k.id) × (size ≡ length o.bytes)) ⊎ (size_at c id ≡ Some size) → IsSize R id size
    by_id (inl both) = record { bytes = o.bytes; blob = ap R.blob both.0 ∙ fetched.blob h is; is = both.1 }
    by_id (inr before) = stocked.sizes id size before h

  pub stocked_put : KeepsObject c k o d.objects → KeepsSize k.kind c k.id (length o.bytes) d.sizes → IsStocked R honest d
  stocked_put kept sizes = record { objects = put_objects kept; sizes = put_sizes k.kind refl sizes }

  -- .. or nothing was put in
  pub stocked_by : (r : Result (Unit {0}) Body) → OnOk r (KeepsObject c k o d.objects) → OnOk r (KeepsSize k.kind c k.id (length o.bytes) d.sizes) → OnErr r (d ≡ c) → IsStocked R honest d
  stocked_by (Ok v) kept sizes same = stocked_put kept sizes
  stocked_by (Err x) kept sizes same = subst (IsStocked R honest) (sym same) stocked

-- a use changes nothing of what is found
pub stocked_used : (R : Repository) (honest : Type 0) (c : Cache) (k : Key) → IsStocked R honest c → IsStocked R honest (record c { objects = promoted (same_key k) c.objects })
stocked_used R honest c k held = record { objects = λ j o is. held.objects j o (sym (use_finds_the_same k j c.objects) ∙ is); sizes = held.sizes }

pub stocked_used_size : (R : Repository) (honest : Type 0) (c : Cache) (id : Id) → IsStocked R honest c → IsStocked R honest (record c { sizes = promoted (same_id id) c.sizes })
stocked_used_size R honest c id held = record { objects = held.objects; sizes = λ i n is h. held.sizes i n (sym (use_finds_the_same_size id i c.sizes) ∙ is) h }

-- what is found was fetched, and is the length
pub fetched_by : (R : Repository) (honest : Type 0) (c : Cache) (k : Key) → IsStocked R honest c → (o : Option Body) → o ≡ object_at c k → IfSome o (IsFetched R honest k)
fetched_by R honest c k held None is = tt
fetched_by R honest c k held (Some o) is = held.objects k o (sym is)

pub sized_by : (R : Repository) (honest : Type 0) (c : Cache) (id : Id) → IsStocked R honest c → (o : Option ℕ) → o ≡ size_at c id → IfSome o (λ n. honest → IsSize R id n)
sized_by R honest c id held None is = tt
sized_by R honest c id held (Some n) is = held.sizes id n (sym is)
