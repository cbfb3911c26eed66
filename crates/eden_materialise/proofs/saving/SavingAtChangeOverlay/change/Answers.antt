use Rattle.std.proofs.Common.{◌≡◌, Option, Some, None, IfSome, refl}
use Rattle.eden_tree.specs.Paths.{row_at}
use Rattle.eden_materialise.proofs.Fronts.{can_here, saves_at_on}
use Rattle.eden_materialise.proofs.saving.SavingAtChangeOverlay.change.Goals as goal

if_some : {X : Type 0} (o : Option X) (P : X → Type 0) → ((x : X) → o ≡ Some x → P x) → IfSome o P
if_some None P f = tt
if_some (Some x) P f = f x refl

pub change_at-requires : goal.change_at-requires
change_at-requires g c =
    let p = c.args.self.path.now in
    let x = c.args.entry.now in
    if_some (row_at p x) _ (λ y at. can_here g.W.World.honest p (g.F.Files.stored c.args.overlay.now) x y at c.requires)

pub returns-in-Some : goal.returns-in-Some
returns-in-Some g c =
    let s = c.in-Some.ensures.some in
    let old = c.args.overlay.now in
    let new = c.change_at.new.state in
    saves_at_on g.W.World.honest c.args.self.path.now (g.F.Files.stored old) c.args.entry.now s.before (g.F.Files.failures old) (g.F.Files.stored new) s.after c.change_at.new.self
    (g.F.Files.failures new) c.in-Some.done s.was s.is s.done
