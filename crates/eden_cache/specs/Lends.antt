-- What a cache ends as, once a loan of one of its objects has ended.
use Rattle.std.specs.Prelude.{◌≡◌, ⊤}
use Rattle.std.specs.Borrow.{Fml, RattleType, MutBor, follows_so}
use Rattle.std.specs.declared.alloc.Allocator.{Ghosts}
use mathlib.Core.Option.{none}
use Rattle.eden_model.specs.declared.id.Key.{Key}
use Rattle.eden_model.specs.declared.world.World.{Ghosts as Worlds}
use Rattle.lru.specs.LruCache.{promoted}
use Rattle.eden_model.specs.Keys.{same_key}
use Rattle.eden_cache.specs.Cache.{Cache}
use Rattle.eden_cache.specs.contracts.cache.ObjectCache.{the_row}
use Rattle.eden_cache.specs.contracts.stock.Stock as stock

-- the object of that key is its newest
abbrev pub ends_used : (A : RattleType) → Ghosts A.Denot → MutBor Cache → Key → Fml
ends_used A alloc c k =
    follows_so (the_row A alloc) (the_row A alloc) c.ghost_name none (λ _ _. ⊤) (λ n. n ≡ record c.now { objects = promoted (same_key k) c.now.objects })

-- likewise of a stock
abbrev pub stock_ends_used : (W C : RattleType) → Worlds W.Denot → Ghosts C.Denot → MutBor Cache → Key → Fml
stock_ends_used W C world alloc c k =
    follows_so (stock.the_row W C world alloc) (stock.the_row W C world alloc) c.ghost_name none (λ _ _. ⊤)
    (λ n. n ≡ record c.now { objects = promoted (same_key k) c.now.objects })
