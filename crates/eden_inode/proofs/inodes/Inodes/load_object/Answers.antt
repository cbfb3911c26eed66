use Rattle.std.proofs.Common.{◌≤◌, ◌+◌, length, refl, sym, ap, ◌∙◌, subst, arith}
use Rattle.eden_model.specs.declared.kind.Origin.TheVariants as origin
use Rattle.eden_model.specs.Backing.{Gains}
use Rattle.eden_model.specs.Limits.{number_end}
use Rattle.eden_tree.specs.Directory.{Row}
use Rattle.eden_coupling.specs.Kept.{IsTable, IsKept}
use Rattle.eden_coupling.specs.Loading.{IsAt, LoadsObject}
use Rattle.eden_coupling.specs.NumberKept.{KeepsNumbers}
use Rattle.eden_coupling.specs.Numberings.{in_files, numbers}
use Rattle.eden_coupling.specs.Shown.{shown_in}
use Rattle.eden_inode.specs.Tables.{Table, HasTree}
use Rattle.eden_inode.proofs.inodes.Inodes.load_object.Goals as goal

pub same-self-in_err-boxes : goal.same-self-in_err-boxes
same-self-in_err-boxes g c = refl

pub same-dir : goal.same-dir
same-dir g c = refl

pub put_loaded-requires : goal.put_loaded-requires
put_loaded-requires g c = (origin.Object c.requires.id, subst (λ (v : Table _). IsAt c.args.path.now v.root (origin.Object c.requires.id)) (sym c.self.view_is) c.requires.at)

pub invariant_of-self : goal.invariant_of-self
invariant_of-self g c =
    let t = c.self.inside in
    let is = sym c.in_err-put_loaded.ensures.err in (
      subst (λ (z : Row). IsTable z t.next) is c.self.invariant.0,
      (
        λ h. subst (λ (z : Row). IsKept g.W.World.repository (g.F.Files.stored t.overlay) z t.next) is (c.self.invariant.1.0 h),
        λ h. subst (λ (z : Row). KeepsNumbers g.W.World.repository (g.F.Files.stored t.overlay) z t.next) is (c.self.invariant.1.1 h),
      ),
    )

pub returns-in_err-put_loaded-clause-shown : goal.returns-in_err-put_loaded-clause-shown
returns-in_err-put_loaded-clause-shown g c h =
    let R = g.W.World.repository in
    ap (λ (z : Row). shown_in R (g.F.Files.stored c.self.inside.overlay) z) c.in_err-put_loaded.ensures.err
    ∙ ap (λ (v : Table _). shown_in R (g.F.Files.stored v.files) v.root) c.self.view_is

pub overflow_add-self : goal.overflow_add-self
overflow_add-self g c = omega (arith, c.if-count-self.false, c.self.invariant.0.most)

-- what is asked, of the table inside
has_tree : (g : _) (c : goal.After-self-1 g) → HasTree g.W.World.repository g.W.World.honest (g.F.Files.stored c.self.inside.overlay) c.args.path.now c.self.inside.root c.args.entries.now
has_tree g c = subst (λ (v : Table _). HasTree g.W.World.repository g.W.World.honest (g.F.Files.stored v.files) c.args.path.now v.root c.args.entries.now) (sym c.self.view_is) c.requires

pub invariant_of-self-2 : goal.invariant_of-self-2
unfolding has_tree
invariant_of-self-2 g c =
    let t = c.self.inside in
    let p = c.args.path.now in
    let es = c.args.entries.now in
    let z = c.put_loaded.new.root in
    let after = t.next + length es in
    let R = g.W.World.repository in
    let F = g.F.Files.stored t.overlay in
    let at = subst (λ (v : Table _). IsAt p v.root (origin.Object c.requires.id)) (sym c.self.view_is) c.requires.at in
    let loads : LoadsObject t.clock t.next t.root p es z
    after = record { directory = c.in_ok-dir.dir; new = c.in_ok-dir.ensures.new; has = c.in_ok-dir.ensures.has; gives = refl; is = c.in_ok-put_loaded.ensures.ok } in
    let has = has_tree g c in
    let most : after ≤ number_end = omega (arith, c.if-count-self.false, c.self.invariant.0.most) in (
      c.kept_laws.ensures.object_table t.clock t.next t.root p es z after c.self.invariant.0 loads c.in_ok-dir.ensures.storable most,
      (
        λ h. c.kept_laws.ensures.object R F t.clock t.next t.root p c.requires.id es z after c.self.invariant.0 (c.self.invariant.1.0 h) at (c.requires.tree h) loads
            c.in_ok-dir.ensures.storable,
        λ h. (c.number_kept_laws.ensures.object_load R F t.clock t.next t.root p has.id es z after (c.self.invariant.1.1 h) has.at (has.unsaved h) loads most).keeps,
      ),
    )

pub returns-clause-shown : goal.returns-clause-shown
returns-clause-shown g c h =
    let t = c.self.inside in
    let p = c.args.path.now in
    let es = c.args.entries.now in
    let z = c.put_loaded.new.root in
    let after = t.next + length es in
    let R = g.W.World.repository in
    let F = g.F.Files.stored t.overlay in
    let at = subst (λ (v : Table _). IsAt p v.root (origin.Object c.requires.id)) (sym c.self.view_is) c.requires.at in
    let loads : LoadsObject t.clock t.next t.root p es z
    after = record { directory = c.in_ok-dir.dir; new = c.in_ok-dir.ensures.new; has = c.in_ok-dir.ensures.has; gives = refl; is = c.in_ok-put_loaded.ensures.ok } in
    c.shown_laws.ensures.object_loads R F t.clock t.next t.root p c.requires.id es z after at (c.requires.tree h) loads
    ∙ ap (λ (v : Table _). shown_in R (g.F.Files.stored v.files) v.root) c.self.view_is

pub returns-clause-gains : goal.returns-clause-gains
returns-clause-gains g c h =
    let t = c.self.inside in
    let p = c.args.path.now in
    let es = c.args.entries.now in
    let z = c.put_loaded.new.root in
    let after = t.next + length es in
    let R = g.W.World.repository in
    let F = g.F.Files.stored t.overlay in
    let has = has_tree g c in
    let loads : LoadsObject t.clock t.next t.root p es z
    after = record { directory = c.in_ok-dir.dir; new = c.in_ok-dir.ensures.new; has = c.in_ok-dir.ensures.has; gives = refl; is = c.in_ok-put_loaded.ensures.ok } in
    let most : after ≤ number_end = omega (arith, c.if-count-self.false, c.self.invariant.0.most) in
    subst (λ (v : Table _). Gains (numbers (in_files (g.F.Files.stored v.files)) v.root) v.next (numbers (in_files F) z) after) c.self.view_is
    (c.number_kept_laws.ensures.object_load R F t.clock t.next t.root p has.id es z after (c.self.invariant.1.1 h) has.at (has.unsaved h) loads most).gains
