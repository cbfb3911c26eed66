use Rattle.std.proofs.Common.{◌∷◌, [], ℕ, List, sym, subst}
use Rattle.eden_inode.specs.Trails.{Leads}
use Rattle.eden_ops.specs.Trails.{walked_of}
use Rattle.eden_ops.proofs.Trailing.{leads_on}
use Rattle.eden_ops.proofs.requests.rename.meet_first.Goals as goal

pub returns-else-is_err-clause-leads : goal.returns-else-is_err-clause-leads
returns-else-is_err-clause-leads g c =
    let p = walked_of c.args.walk.now.second (c.args.path.now ∷ c.args.other.now ∷ []) in
    subst (λ (is : List ℕ). Leads p is c.meet-met.new.inodes.root) (sym c.add.ensures.positions)
    (leads_on g.W.World g.F.Files p c.args.walk.now.trail.positions c.args.inodes.now c.meet-met.new.inodes c.meet-met.ensures.keeps c.requires.leads)
