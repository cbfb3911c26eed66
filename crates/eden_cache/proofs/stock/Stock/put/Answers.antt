use Rattle.eden_cache.proofs.Stocking.{stocked_by}
use Rattle.eden_cache.proofs.stock.Stock.put.Goals as goal

pub invariant_of-self : goal.invariant_of-self
invariant_of-self g c =
    let e = c.put.ensures in
    stocked_by g.W.World.repository g.W.World.honest c.self.inside.cache c.put.new.self c.args.key c.args.object c.self.invariant c.requires.fetched c.put.result e.objects e.size e.err
