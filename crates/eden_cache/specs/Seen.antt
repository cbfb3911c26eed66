-- How the fields of a cache are seen.
use Rattle.std.specs.Prelude.{ℕ}
use Rattle.eden_model.specs.declared.id.Id.{Id}
use Rattle.eden_model.specs.declared.id.Key.{Key}
use Rattle.eden_object.specs.Objects.{Body}
use Rattle.lru.specs.LruCache.{LruCache}
use Rattle.eden_cache.specs.Cache.{Cache}

abbrev pub cache_from : LruCache Key Body → ℕ → LruCache Id ℕ → Cache
cache_from objects bytes sizes =
    record { objects = objects.entries; sizes = sizes.entries; most_entries = objects.cap; most_bytes = bytes; most_sizes = sizes.cap }
