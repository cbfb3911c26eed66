use Rattle.std.proofs.Common.{sym, ap, ◌∙◌, subst}
use Rattle.eden_tree.specs.Directory.{Row}
use Rattle.eden_coupling.specs.Kept.{IsTable, IsKept}
use Rattle.eden_coupling.specs.NumberKept.{KeepsNumbers}
use Rattle.eden_coupling.specs.Numberings.{in_files, numbers}
use Rattle.eden_coupling.specs.Shown.{shown_in}
use Rattle.eden_inode.specs.Tables.{Table}
use Rattle.eden_inode.specs.Trails.{KeepsNames}
use Rattle.eden_inode.proofs.Names.{keeps_stamps}
use Rattle.eden_inode.proofs.Noting.{noted_all}
use Rattle.eden_inode.proofs.inodes.Inodes.look_along.Goals as goal

pub invariant_of-self : goal.invariant_of-self
invariant_of-self g c =
    let t = c.self.inside in
    let R = g.W.World.repository in
    let F = g.F.Files.stored t.overlay in
    let is = sym c.follow.ensures.stamped in (
      subst (λ (z : Row). IsTable z t.next) is (c.kept_laws.ensures.stamps_table t.next t.clock t.root c.args.path.now c.self.invariant.0),
      (
        λ h. subst (λ (z : Row). IsKept R F z t.next) is (c.kept_laws.ensures.stamps R F t.next t.clock t.root c.args.path.now (c.self.invariant.1.0 h)),
        λ h. subst (λ (z : Row). KeepsNumbers R F z t.next) is (c.number_kept_laws.ensures.stamps R F t.root t.next t.clock c.args.path.now (c.self.invariant.1.1 h)).keeps,
      ),
    )

pub returns-clause-shown : goal.returns-clause-shown
returns-clause-shown g c h =
    let t = c.self.inside in
    let R = g.W.World.repository in
    let F = g.F.Files.stored t.overlay in
    ap (λ (z : Row). shown_in R F z) c.follow.ensures.stamped
    ∙ c.shown_laws.ensures.stamps R F c.args.path.now t.clock t.root
    ∙ ap (λ (v : Table _). shown_in R (g.F.Files.stored v.files) v.root) c.self.view_is

pub returns-clause-numbers : goal.returns-clause-numbers
returns-clause-numbers g c h p =
    let t = c.self.inside in
    let R = g.W.World.repository in
    let F = g.F.Files.stored t.overlay in
    ap (λ (z : Row). numbers (in_files F) z p) c.follow.ensures.stamped
    ∙ (c.number_kept_laws.ensures.stamps R F t.root t.next t.clock c.args.path.now (c.self.invariant.1.1 h)).same p
    ∙ ap (λ (v : Table _). numbers (in_files (g.F.Files.stored v.files)) v.root p) c.self.view_is

pub returns-clause-notes : goal.returns-clause-notes
returns-clause-notes g c =
    let t = c.self.inside in
    noted_all c.args.path.now t.root c.follow.new.entry c.follow.result c.args.trail.now c.follow.new.trail c.if-path-gt-MAX_NAMES.false
    (subst (λ (z : Row). KeepsNames t.root z) (sym c.follow.ensures.stamped) (keeps_stamps c.args.path.now t.clock t.root)) c.follow.ensures.follows
