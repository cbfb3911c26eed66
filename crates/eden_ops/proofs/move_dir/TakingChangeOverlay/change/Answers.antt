use Rattle.std.proofs.Common.{IsSome, None, refl, sym, ap, ◌∙◌, subst}
use Rattle.std.proofs.lemmas.Option.{same_Some}
use Rattle.eden_tree.specs.Directory.{Row, child_of, with_child}
use Rattle.eden_tree.proofs.CallerLemmas.{edits_alike}
use Rattle.eden_ops.proofs.move_dir.TakingChangeOverlay.change.Goals as goal

pub returns-in-Some : goal.returns-in-Some
returns-in-Some g c =
    let x = c.args.entry.now in
    let s = c.in-Some.ensures.some in (
      refl,
      record {
        is = s.is ∙ edits_alike c.args.self.path.now (λ w. s.after) (with_child None) x s.before s.was s.done.0;
        taken = λ y at.
            let same = same_Some s.before y (sym s.was ∙ at) in
            (s.done.1.0 ∙ ap child_of same, λ h. sym (ap (λ (r : Row). r.kind) same) ∙ s.done.1.1 (subst (λ (r : Row). IsSome (child_of r)) (sym same) h));
      },
    )
