use Rattle.std.proofs.Common.{◌≡◌, ◌≢◌, Some, IfOk, sym, ap, ◌∙◌, subst}
use Rattle.eden_model.specs.declared.kind.Kind.TheVariants as kind
use Rattle.eden_model.specs.declared.kind.Origin.TheVariants as origin
use Rattle.eden_overlay.specs.Files.{Stored}
use Rattle.eden_overlay.specs.Held.{TellsLength}
use Rattle.eden_coupling.specs.Kept.{IsTable, IsKept}
use Rattle.eden_tree.specs.Directory.{Row}
use Rattle.eden_tree.specs.Paths.{row_at}
use Rattle.eden_inode.specs.Tables.{Table}
use Rattle.eden_inode.proofs.Loads.{length_there}
use Rattle.eden_inode.proofs.Rows.{same_some}
use Rattle.eden_coupling.specs.NumberKept.{KeepsNumbers}
use Rattle.eden_inode.proofs.inodes.Inodes.content_len.Goals as goal

pub returns-clause-ok : goal.returns-clause-ok
returns-clause-ok g c = λ h.
    let p = c.args.path.now in
    let R = g.W.World.repository in
    let y = c.in-Some.entry.now in
    let at : row_at p c.args.self.now.root ≡ Some y = ap (λ (v : Table _). row_at p v.root) (sym c.self.view_is) ∙ sym c.in-Some.ensures in
    let same : c.requires.0 ≡ y = same_some c.requires.0 y (sym c.requires.1.0 ∙ at) in
    let own = subst (λ (r : Row). r.origin ≡ origin.Own) same c.requires.1.1.0 in
    let file = subst (λ (r : Row). r.kind ≢ kind.Dir) same c.requires.1.1.1 in
    let table = subst (λ (v : Table _). IsTable v.root v.next) c.self.view_is c.self.invariant.0 in
    let kept = subst (λ (v : Table _). IsKept R (g.F.Files.stored v.files) v.root v.next) c.self.view_is (c.self.invariant.1.0 h) in
    let told = subst (λ (v : Table _). IfOk c.own_len.result (TellsLength (g.F.Files.stored v.files) c.entry.inside.number)) c.self.view_is (c.own_len.ensures.told h) in
    let number = ap (λ (r : Row). r.number) (sym c.entry.view_is) in
    length_there R (g.F.Files.stored c.args.self.now.files) c.args.self.now.root c.args.self.now.next p y c.own_len.result table kept at file own
    (subst (λ n. IfOk c.own_len.result (TellsLength (g.F.Files.stored c.args.self.now.files) n)) (sym number) told)

pub invariant_of-self : goal.invariant_of-self
invariant_of-self g c = (
  c.self.invariant.0,
  (
    λ h. subst (λ (G : Stored). IsKept g.W.World.repository G c.self.inside.root c.self.inside.next) (sym (c.own_len.ensures.files h)) (c.self.invariant.1.0 h),
    λ h. subst (λ (G : Stored). KeepsNumbers g.W.World.repository G c.self.inside.root c.self.inside.next) (sym (c.own_len.ensures.files h)) (c.self.invariant.1.1 h),
  ),
)
