use Rattle.std.proofs.Common.{rules, IfSome}
use Rattle.std.specs.Option.{option_copied}
use Rattle.eden_object.specs.Objects.{IsFetched}
use Rattle.eden_cache.proofs.Stocking.{stocked_used, fetched_by}
use Rattle.eden_cache.proofs.stock.Stock.get.Goals as goal

pub invariant_of-self : goal.invariant_of-self
invariant_of-self g c = rw c.get.follows.holds-at-none (stocked_used g.W.World.repository g.W.World.honest c.self.inside.cache c.args.key c.self.invariant)

pub returns : goal.returns
returns g c =
    let fetched : IfSome (option_copied c.get.result) (IsFetched g.W.World.repository g.W.World.honest c.args.key) =
    fetched_by g.W.World.repository g.W.World.honest c.self.inside.cache c.args.key c.self.invariant (option_copied c.get.result) c.get.ensures.value in
    search (rules, fetched)
