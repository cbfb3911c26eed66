use Rattle.eden_cache.proofs.Stocking.{stocked_used_size}
use Rattle.eden_cache.proofs.stock.Stock.size_of.Goals as goal

pub invariant_of-self : goal.invariant_of-self
invariant_of-self g c = rw c.size_of.ensures.used (stocked_used_size g.W.World.repository g.W.World.honest c.self.inside.cache c.args.id c.self.invariant)
