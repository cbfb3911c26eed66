use Rattle.std.proofs.Common.{◌+◌, arith}
use Rattle.eden_shared.proofs.Rising.{rises_below}
use Rattle.eden_shared.proofs.pass.Pass.learn.Goals as goal

pub invariant_of-self : goal.invariant_of-self
invariant_of-self g c = (c.self.invariant.0, c.self.invariant.1, rises_below _ _ (c.self.inside.known + 1) _ (search arith) c.self.invariant.2)
