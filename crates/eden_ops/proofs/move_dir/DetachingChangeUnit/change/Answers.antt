use Rattle.std.proofs.Common.{None, IsSome, sym, ap, ◌∙◌, subst}
use Rattle.std.specs.Option.{option_map}
use Rattle.eden_tree.specs.Directory.{Row, child_of, with_child}
use Rattle.eden_tree.specs.Seen.{row_from}
use Rattle.eden_tree.proofs.CallerLemmas.{held}
use Rattle.eden_ops.proofs.move_dir.DetachingChangeUnit.change.Goals as goal

pub returns : goal.returns
returns g c = (
  ap (row_from c.entry.inside.number c.entry.inside.kind c.entry.inside.origin) c.take.ensures.after ∙ ap (with_child None) c.entry.view_is,
  (
    ap (option_map (λ b. b.value)) c.take.ensures.value ∙ sym (held _ _ _ c.entry.inside.child _ c.entry.view_is),
    λ h. sym (ap (λ (r : Row). r.kind) c.entry.view_is) ∙ c.entry.invariant.loaded (subst (λ (r : Row). IsSome (child_of r)) (sym c.entry.view_is) h),
  ),
)
