use Rattle.std.proofs.Common.{◌∙◌, refl, sym, ap, subst}
use Rattle.eden_overlay.specs.Held.{HoldsContent}
use Rattle.eden_overlay.proofs.Kept.{found_held}
use Rattle.eden_overlay.proofs.Remembered.{body_still}
use Rattle.eden_overlay.proofs.Whole.{known_still}
use Rattle.eden_overlay.proofs.overlay.Overlay.get_file.Goals as goal

pub invariant_of-self : goal.invariant_of-self
invariant_of-self g c = λ honest.
    let F = g.F.Files.stored c.self.inside.files in (
      known_still F F c.args.number c.self.inside.recent.kept.items c.take.new.self.kept.items c.self.inside.recent.whole.items c.take.new.self.whole.items (c.self.invariant honest).0
          c.take.ensures.others (ap (λ v. v.items) c.take.ensures.whole) refl,
      (c.self.invariant honest).1,
    )

pub returns-in-Some-clause-found : goal.returns-in-Some-clause-found
returns-in-Some-clause-found g c = λ honest.
    subst (λ f. HoldsContent (g.F.Files.stored f) c.args.number c.in-Some.content) c.self.view_is
    (found_held (g.F.Files.stored c.self.inside.files) c.args.number c.in-Some.content c.self.inside.recent.kept.items (c.self.invariant honest).0.0 (sym c.take.ensures.found ∙ c.in-Some.is))

pub invariant_of-self-in_err-file : goal.invariant_of-self-in_err-file
invariant_of-self-in_err-file g c = λ honest. (
  known_still (g.F.Files.stored c.self.inside.files) (g.F.Files.stored c.read.new.self) c.args.number c.self.inside.recent.kept.items c.take.new.self.kept.items c.self.inside.recent.whole.items
      c.take.new.self.whole.items
      (c.self.invariant honest).0 c.take.ensures.others (ap (λ v. v.items) c.take.ensures.whole) (c.read.ensures.unchanged honest),
  body_still (g.F.Files.stored c.self.inside.files) (g.F.Files.stored c.read.new.self) c.self.inside.bodies.kept c.self.inside.bodies.kept (c.self.invariant honest).1 refl
      (c.read.ensures.unchanged honest),
)

pub invariant_of-self-2 : goal.invariant_of-self-2
invariant_of-self-2 g c = λ honest. (
  known_still (g.F.Files.stored c.self.inside.files) (g.F.Files.stored c.read.new.self) c.args.number c.self.inside.recent.kept.items c.take.new.self.kept.items c.self.inside.recent.whole.items
      c.take.new.self.whole.items
      (c.self.invariant honest).0 c.take.ensures.others (ap (λ v. v.items) c.take.ensures.whole) (c.read.ensures.unchanged honest),
  body_still (g.F.Files.stored c.self.inside.files) (g.F.Files.stored c.read.new.self) c.self.inside.bodies.kept c.self.inside.bodies.kept (c.self.invariant honest).1 refl
      (c.read.ensures.unchanged honest),
)
