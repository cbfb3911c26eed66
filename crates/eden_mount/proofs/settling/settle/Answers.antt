use Rattle.std.proofs.Common.{◌≡◌, Some, refl, rules}
use Rattle.eden_model.proofs.CallerLemmas.{same_key-Decides}
use Rattle.eden_mount.specs.Replying.{failed}
use Rattle.eden_mount.proofs.settling.settle.Goals as goal

pub returns-then-eq-clause-settles : goal.returns-then-eq-clause-settles
returns-then-eq-clause-settles g c =
    let same : c.in-Some.marked ≡ c.in-Need.key = (same_key-Decides c.in-Some.marked c.in-Need.key).0 (search rules) in
    let marked : c.args.mark ≡ Some (c.in-Need.key, c.in-Some.cause) = search rules in
    failed c.in-Need.key c.in-Some.cause c.in-Need.ensures.tries marked refl
