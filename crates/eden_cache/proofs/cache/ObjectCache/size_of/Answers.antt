use Rattle.eden_model.specs.Keys.{same_id}
use Rattle.eden_cache.proofs.Sizes.{IsWithin-promoted}
use Rattle.eden_cache.proofs.cache.ObjectCache.size_of.Goals as goal

pub invariant_of-self : goal.invariant_of-self
invariant_of-self g c = rw c.get.follows.holds-at-none (c.self.invariant.0, IsWithin-promoted (same_id c.args.id) c.self.inside.sizes c.self.invariant.1)
