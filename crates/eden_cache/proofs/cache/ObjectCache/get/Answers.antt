use Rattle.std.proofs.Common.{rules, ◌≡◌, IfSome}
use Rattle.std.specs.Option.{option_copied}
use Rattle.eden_model.specs.Keys.{same_key}
use Rattle.eden_cache.proofs.KeyKinds.{kind_found}
use Rattle.eden_cache.proofs.Tallies.{IsTallied-promoted}
use Rattle.eden_cache.proofs.cache.ObjectCache.get.Goals as goal

pub invariant_of-self : goal.invariant_of-self
invariant_of-self g c = rw c.get.follows.holds-at-none (IsTallied-promoted (same_key c.args.key) _ _ _ c.self.invariant.0, c.self.invariant.1)

pub returns : goal.returns
returns g c =
    let kind : IfSome (option_copied c.get.result) (λ b. b.kind ≡ c.args.key.kind) = rw c.get.ensures.value (kind_found c.args.key c.self.inside.objects.entries c.self.invariant.0.kinds) in
    search (rules, kind)
