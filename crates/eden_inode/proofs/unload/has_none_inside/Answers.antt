use Rattle.std.proofs.Common.{◌≡◌, ◌<◌, Some, None, ap, sym, ◌∙◌, refl, arith}
use Rattle.std.specs.List.{slice_get}
use Rattle.eden_model.specs.Trees as trees
use Rattle.eden_tree.specs.Directory.{Row, child_of}
use Rattle.eden_tree.proofs.CallerLemmas.{held, slice_get-find_row, find_row-slice_get}
use Rattle.eden_inode.proofs.Rows.{same_some, none_held, not_held, by_order}
use Rattle.eden_inode.proofs.unload.has_none_inside.Goals as goal

pub returns : goal.returns
returns g c = (
  (λ true_is n z f.
      let at = slice_get-find_row n c.args.dir.now.rows z f in
      let within = at.1.0 in
      let before : at.0 < c.loop-i.i = omega (arith, within, c.count-i-end.ensures.value, c.loop-i-test.false, c.loop-i.auto.i-end) in
      c.loop-i.invariant at.0 (n, z) before at.1.1),
  (λ h. refl),
)

pub returns-then-is_some : goal.returns-then-is_some
returns-then-is_some g c = (
  (λ e. cc),
  (λ h.
      let e : trees.Name × Row = (c.in-Some.field-0-0.now, c.in-Some.entry.now) in
      let here : slice_get c.args.dir.now.rows c.loop-i.i ≡ Some e = sym c.in-Some.ensures in
      let shut = h e.0 e.1 (find_row-slice_get c.args.dir.now.rows c.loop-i.i e c.count-i-end.ensures.rising here) in
      absurd (none_held c.entry.inside.child (sym (held c.entry.inside.number c.entry.inside.kind c.entry.inside.origin c.entry.inside.child c.in-Some.entry.now c.entry.view_is) ∙ shut)
      (sym c.is_some.ensures ∙ c.if-is_some.true))),
)

pub loop-i-preserved : goal.loop-i-preserved
loop-i-preserved g c j e lt at =
    by_order j c.loop-i.i (child_of e.1 ≡ None) lt
    (λ before. c.loop-i.invariant j e before at)
    (λ is.
    let here : Some (c.in-Some.field-0-0.now, c.in-Some.entry.now) ≡ Some e = c.in-Some.ensures ∙ ap (slice_get c.args.dir.now.rows) (sym is) ∙ at in
    let row : c.in-Some.entry.now ≡ e.1 = ap (λ (x : trees.Name × Row). x.1) (same_some (c.in-Some.field-0-0.now, c.in-Some.entry.now) e here) in
    sym (ap child_of row) ∙ held c.entry.inside.number c.entry.inside.kind c.entry.inside.origin c.entry.inside.child c.in-Some.entry.now c.entry.view_is ∙ not_held c.entry.inside.child
    (sym c.is_some.ensures ∙ c.if-is_some.false))
