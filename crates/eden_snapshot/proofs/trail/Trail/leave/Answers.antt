use Rattle.std.proofs.Common.{◌≡◌, length, ◌∙◌, arith}
use Rattle.eden_snapshot.proofs.Trails.{one_up}
use Rattle.eden_snapshot.proofs.trail.Trail.leave.Goals as goal

pub returns : goal.returns
returns c = λ front name is.
    let names = c.self.inside.names in
    let len : length names.items ≡ names.len = omega (arith, names.ok.0) in
    c.pop.ensures.rest ∙ one_up names.items front name names.len (c.self.view_is ∙ is) len
