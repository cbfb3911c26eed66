use Rattle.std.proofs.Common.{◌<◌, length, subst, Bool, cond, List, Option, None, sym, ap, ◌∙◌}
use Rattle.std.proofs.lemmas.List.{set-get_or}
use Rattle.std.proofs.Math.ListN.{set}
use Rattle.eden_model.specs.declared.id.Key.{Key}
use Rattle.eden_import.proofs.WantLemmas.{ended_more}
use Rattle.eden_import.proofs.keys.end_wants.Goals as goal
use Rattle.eden_import.proofs.keys.end_wants.Goals.{then-is_for, else-is_for}

pub loop-want-preserved : goal.loop-want-preserved
loop-want-preserved g c =
    let ws = c.loop-want.want-items in
    let i = c.loop-want.want-index in
    let more = ended_more c.args.key c.args.wants.now.items ws i (subst (λ (l : List (Option Key)). i < length l) c.deref_mut-want-items.ensures.value c.loop-want-test.true) c.loop-want.invariant in
    let f : Bool → List (Option Key) = λ b. cond b (set ws i None) ws in
    elim c.if-is_for.branch [
      | then-is_for w ↦ w.want-items-is ∙ ap f (sym w.if-is_for.true ∙ c.is_for.ensures) ∙ more
      | else-is_for w ↦ w.want-items-is ∙ set-get_or ws i None ∙ ap f (sym w.if-is_for.false ∙ c.is_for.ensures) ∙ more
    ]
