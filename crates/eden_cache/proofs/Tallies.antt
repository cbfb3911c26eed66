-- The running sum and the bounds, around the calls of the map behind the cache.
use Rattle.std.proofs.Common.{◌≡◌, ℕ, ◌+◌, ◌<◌, ◌≤◌, ◌^◌, inl, inr, Bool, List, length, take, subst, sym, ap, ◌∙◌, min, arith}
use Rattle.std.proofs.lemmas.List.{length-take}
use Rattle.eden_model.specs.declared.id.Key.{Key}
use Rattle.eden_object.specs.Objects.{Body}
use Rattle.lru.specs.LruCache.{LruCache, lru_cache, put_entries, displaced, promoted}
use Rattle.eden_cache.specs.Bounded.{newest, weight_of, weight_gone, Fits, IsLongestFront}
use Rattle.eden_model.specs.Keys.{same_key}
use Rattle.eden_cache.specs.Cache.{IsTallied}
use Rattle.eden_model.proofs.CallerLemmas.{same_key-Decides}
use Rattle.eden_cache.proofs.KeyKinds.{kinds_promoted, kinds_front}
use Rattle.eden_cache.proofs.Newest.{length-promoted, put_entries-newest}
use Rattle.eden_cache.proofs.Weights.{weight_of-promoted, weight_of-put_entries}
use Rattle.eden_cache.proofs.Fronts.{IsLongestFront-cut, light_front}

pub few_where_fits : (entries bytes : ℕ) (objects : List (Key × Body)) → 0 < entries → Fits entries bytes objects → length objects ≤ entries
few_where_fits entries bytes objects room (inl keeps) = keeps.few
few_where_fits entries bytes objects room (inr alone) = omega arith

fits_alike : (entries bytes : ℕ) (es fs : List (Key × Body)) → length es ≡ length fs → weight_of es ≡ weight_of fs → Fits entries bytes fs → Fits entries bytes es
fits_alike entries bytes es fs l w (inl keeps) = inl (record { few = omega (arith, keeps.few); light = omega (arith, keeps.light) })
fits_alike entries bytes es fs l w (inr alone) = inr (l ∙ alone)

-- a use leaves both
pub IsTallied-promoted : (test : Key → Bool) (weight bytes : ℕ) (c : LruCache Key Body) → IsTallied weight bytes c → IsTallied weight bytes (lru_cache (promoted test c.entries) c.cap)
IsTallied-promoted test weight bytes c t = record {
  sum = t.sum ∙ sym (weight_of-promoted test c.entries);
  fits = fits_alike c.cap bytes (promoted test c.entries) c.entries (length-promoted test c.entries) (weight_of-promoted test c.entries) t.fits;
  kinds = kinds_promoted test c.entries t.kinds;
  room = t.room;
  light = t.light;
  limit = t.limit;
}

module _ (weight bytes : ℕ) (c : LruCache Key Body) (k : Key) (v : Body) (t : IsTallied weight bytes c) where
  few : length c.entries ≤ c.cap
  few = few_where_fits c.cap bytes c.entries t.room t.fits

  same : put_entries same_key c k v ≡ take c.cap (newest same_key k v c.entries)
  same = put_entries-newest same_key (λ a b. (same_key-Decides a b).0) c k v few t.room

  count : length (put_entries same_key c k v) ≡ min c.cap (length (newest same_key k v c.entries))
  count = ap length same ∙ length-take c.cap (newest same_key k v c.entries)

  pub put_few : length (put_entries same_key c k v) ≤ c.cap
  put_few = omega (arith, count)

  -- the sum with the new object, without the one that left
  pub put_sum : weight_of (put_entries same_key c k v) + weight_gone (displaced same_key c k v) ≡ weight + length v.bytes
  put_sum = omega (arith, t.sum, weight_of-put_entries same_key c k v few t.room)

  pub put_front : (kept : List (Key × Body)) → IsLongestFront c.cap bytes (put_entries same_key c k v) kept → IsLongestFront c.cap bytes (newest same_key k v c.entries) kept
  put_front kept front = IsLongestFront-cut c.cap bytes (newest same_key k v c.entries) kept (subst (λ (l : List (Key × Body)). IsLongestFront c.cap bytes l kept) same front)

  pub put_tallied : v.kind ≡ k.kind → (sum : ℕ) (d : LruCache Key Body) → IsLongestFront c.cap bytes (put_entries same_key c k v) d.entries → sum ≡ weight_of d.entries → d.cap ≡ c.cap
      → length v.bytes ≤ 2 ^ 40 → IsTallied sum bytes d
  put_tallied own sum d front is cap short = record {
    sum = is;
    fits = subst (λ (n : ℕ). Fits n bytes d.entries) (sym cap) front.fits;
    kinds = kinds_front c.cap bytes k v c.entries d.entries own t.kinds (put_front d.entries front);
    room = omega (arith, t.room);
    light = omega (arith, light_front c.cap bytes (2 ^ 40) (k, v) _ d.entries (put_front d.entries front) t.limit short);
    limit = t.limit;
  }
