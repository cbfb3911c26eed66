use Rattle.std.proofs.Common.{◌≡◌, Some, IfOk, refl, sym, ap, ◌∙◌, subst}
use Rattle.std.specs.Option.{is_some}
use Rattle.eden_model.specs.declared.kind.Origin.TheVariants as origin
use Rattle.eden_overlay.specs.Files.{Stored}
use Rattle.eden_overlay.specs.Held.{saved_at}
use Rattle.eden_tree.specs.Directory.{Row}
use Rattle.eden_tree.specs.Paths.{row_at}
use Rattle.eden_coupling.specs.Kept.{IsKept}
use Rattle.eden_coupling.specs.NumberKept.{KeepsNumbers}
use Rattle.eden_inode.specs.Tables.{Table}
use Rattle.eden_inode.proofs.Loads.{stands_on_tree, numbers_there}
use Rattle.eden_inode.proofs.inodes.Inodes.numbered.Goals as goal

pub invariant_of-self : goal.invariant_of-self
invariant_of-self g c = (
  c.self.invariant.0,
  (
    λ h. subst (λ (G : Stored). IsKept g.W.World.repository G c.self.inside.root c.self.inside.next) (sym (c.has_numbers.ensures.files h)) (c.self.invariant.1.0 h),
    λ h. subst (λ (G : Stored). KeepsNumbers g.W.World.repository G c.self.inside.root c.self.inside.next) (sym (c.has_numbers.ensures.files h)) (c.self.invariant.1.1 h),
  ),
)

pub unreachable-requires-in-Own : goal.unreachable-requires-in-Own
unreachable-requires-in-Own g c =
    let p = c.args.path.now in
    let y = c.in-Some.entry.now in
    let there : row_at p c.args.self.now.root ≡ Some y = ap (λ (v : Table _). row_at p v.root) (sym c.self.view_is) ∙ sym c.in-Some.ensures in
    stands_on_tree p c.args.self.now.root y c.requires.0 c.requires.1 there c.entry.inside.origin (ap (λ (r : Row). r.origin) (sym c.entry.view_is)) c.in-Own.is

pub same-self-in-Own : goal.same-self-in-Own
same-self-in-Own g c = refl

pub unreachable-unreachable-in-Own : goal.unreachable-unreachable-in-Own
unreachable-unreachable-in-Own g c = c.unreachable-in-Own.result

pub returns-clause-saved : goal.returns-clause-saved
returns-clause-saved g c =
    let p = c.args.path.now in
    let y = c.in-Some.entry.now in
    let r = c.has_numbers.result in
    let tree = c.in-Object.tree in
    let F = g.F.Files.stored c.args.self.now.files in
    let there : row_at p c.args.self.now.root ≡ Some y = ap (λ (v : Table _). row_at p v.root) (sym c.self.view_is) ∙ sym c.in-Some.ensures in
    let from : y.origin ≡ origin.Object tree = ap (λ (r : Row). r.origin) (sym c.entry.view_is) ∙ c.in-Object.is in
    numbers_there g.W.World.honest F p c.args.self.now.root c.requires.0 c.requires.1 y tree r there from (λ h.
    subst (λ k. IfOk r (λ b. b ≡ is_some (saved_at F k tree))) (ap (λ (r : Row). r.number) c.entry.view_is)
    (subst (λ (v : Table _). IfOk r (λ b. b ≡ is_some (saved_at (g.F.Files.stored v.files) c.entry.inside.number tree))) c.self.view_is (c.has_numbers.ensures.told h)))
