use Rattle.std.proofs.Common.{◌≡◌, ◌<◌, ◌^◌, length, ap, arith}
use Rattle.eden_inode.specs.Trails.{Trail}
use Rattle.eden_inode.proofs.Names.{pinned}
use Rattle.eden_inode.proofs.trail.Trail.search.Goals as goal

pub returns-in-Some-clause-found : goal.returns-in-Some-clause-found
returns-in-Some-clause-found g c =
    pinned c.args.name.now c.in-Some.position c.args.dir.now.rows c.count-self-inside.ensures.rising (rw c.in-Some.is at c.get_counted-place.ensures.found)

pub returns-in-Some-clause-compared : goal.returns-in-Some-clause-compared
returns-in-Some-clause-compared g c =
    let within : length c.args.dir.now.rows < 2 ^ 32 = omega (arith, c.count-self-inside.ensures.value, c.count-self-inside.type_inv) in
    let few = c.get_counted-place.ensures.compared 32 within in
    let view : c.self.inside.compared ≡ c.args.self.now.compared = ap (λ (t : Trail). t.compared) c.self.view_is in
    omega (arith, c.saturating_add-self-inside.ensures, few, view)

pub returns-in-None-clause-compared : goal.returns-in-None-clause-compared
returns-in-None-clause-compared g c =
    let within : length c.args.dir.now.rows < 2 ^ 32 = omega (arith, c.count-self-inside.ensures.value, c.count-self-inside.type_inv) in
    let few = c.get_counted-place.ensures.compared 32 within in
    let view : c.self.inside.compared ≡ c.args.self.now.compared = ap (λ (t : Trail). t.compared) c.self.view_is in
    omega (arith, c.saturating_add-self-inside.ensures, few, view)
