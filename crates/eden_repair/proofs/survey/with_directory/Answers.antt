use Rattle.std.proofs.Common.{◌∷◌, ◌++◌, [], sym, subst, inl, inr}
use Rattle.eden_repair.specs.Covering.{AreBelow}
use Rattle.eden_repair.specs.Repairing.{ways_below}
use Rattle.eden_repair.specs.Surveying.{AreLed}
use Rattle.eden_repair.proofs.Covered.{no_directory, one_below}
use Rattle.eden_repair.proofs.Steps.{none_led, one_led}
use Rattle.eden_repair.proofs.survey.with_directory.Goals as goal

pub returns-in_ok-push-in-Dir-clause-below : goal.returns-in_ok-push-in-Dir-clause-below
returns-in_ok-push-in-Dir-clause-below c = λ entries lower.
    let made = c.in_ok-directory_below-in-Dir in
    subst (AreBelow (entries ++ c.args.entry.now ∷ [])) (sym c.in_ok-push-in-Dir.ensures.items)
    (one_below entries c.args.below.items c.args.entry.now lower made.field-0 c.in-Dir.is made.ensures.number made.ensures.from)

pub returns-in_ok-push-in-Dir-clause-led : goal.returns-in_ok-push-in-Dir-clause-led
returns-in_ok-push-in-Dir-clause-led c = λ entries led.
    let made = c.in_ok-directory_below-in-Dir in
    subst (AreLed (ways_below c.args.path.now (entries ++ c.args.entry.now ∷ []))) (sym c.in_ok-push-in-Dir.ensures.items)
    (one_led c.args.path.now entries c.args.below.items c.args.entry.now made.field-0 made.ensures.number made.ensures.from made.ensures.path led)

pub returns-in-File-clause-led : goal.returns-in-File-clause-led
returns-in-File-clause-led c = λ entries led. none_led c.args.path.now entries c.args.below.items c.args.entry.now led

pub returns-in-File-clause-below : goal.returns-in-File-clause-below
returns-in-File-clause-below c = λ entries lower. no_directory entries c.args.below.items c.args.entry.now lower (λ dir. elim c.in-File.is [
  | inl file ↦ absurd (cc)
  | inr (inl executable) ↦ absurd (cc)
  | inr (inr link) ↦ absurd (cc)
])
