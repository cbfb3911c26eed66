use Rattle.std.proofs.Common.{◌≡◌, [], ◌∷◌, ◌++◌, IfSome, ◌∙◌, subst}
use Rattle.eden_model.specs.Trees.{Name, Path}
use Rattle.eden_ops.specs.Letting.{LetsGo}
use Rattle.eden_ops.proofs.Readied.{stays_inside, readies_gone}
use Rattle.eden_ops.proofs.ready.let_go_at.Goals as goal

pub returns-in-Ok-Some-clause-stays : goal.returns-in-Ok-Some-clause-stays
returns-in-Ok-Some-clause-stays g c =
    let p = c.args.path.now in
    let at = subst (λ o. IfSome o (λ names. (n : Name) × (names.items ≡ p ++ n ∷ []))) c.in-Ok-Some.field-0-is c.in-Ok-Some.ensures in
    let x = c.args.inodes.now.root in
    let z = c.let_go.new.inodes.root in
    stays_inside c.args.path.now at.0 x z (subst (λ (q : Path). LetsGo q x z) (c.as_slice.ensures.value ∙ at.1) c.let_go.ensures.goes)

pub returns-in-Ok-Some-clause-readies : goal.returns-in-Ok-Some-clause-readies
returns-in-Ok-Some-clause-readies g c =
    let e = c.let_go.ensures in
    readies_gone g.W.World g.F.Files c.args.inodes.now c.let_go.new.inodes c.let_go.result e.same e.numbers e.marks e.fault e.unfailed e.rest e.places _ e.goes
