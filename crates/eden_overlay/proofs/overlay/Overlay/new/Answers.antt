use Rattle.std.proofs.Common.{[], sym, subst}
use Rattle.eden_overlay.specs.Keeping.{AreKnownOf}
use Rattle.eden_overlay.proofs.Remembered.{no_bodies}
use Rattle.eden_overlay.proofs.Whole.{none_known}
use Rattle.eden_overlay.proofs.overlay.Overlay.new.Goals as goal

pub invariant_of-result : goal.invariant_of-result
invariant_of-result g c = λ honest.
    let F = g.F.Files.stored c.args.files in (
      subst (λ kept. AreKnownOf F kept c.new.result.whole.items) (sym c.new.ensures.kept) (subst (λ ks. AreKnownOf F [] ks) (sym c.new.ensures.whole) (none_known F)),
      no_bodies F c.new-2.result.kept c.new-2.ensures.latest c.new-2.ensures.earlier,
    )
