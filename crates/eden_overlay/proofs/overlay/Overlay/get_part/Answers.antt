use Rattle.std.proofs.Common.{◌∙◌, refl, sym, ap, subst}
use Rattle.eden_overlay.specs.Held.{HoldsContent}
use Rattle.eden_overlay.proofs.Kept.{found_held}
use Rattle.eden_overlay.proofs.Whole.{known_still}
use Rattle.eden_overlay.proofs.Parts.{part_got}
use Rattle.eden_overlay.proofs.overlay.Overlay.get_part.Goals as goal

pub invariant_of-self : goal.invariant_of-self
invariant_of-self g c = λ honest.
    let F = g.F.Files.stored c.self.inside.files in (
      known_still F F c.args.number c.self.inside.recent.kept.items c.take.new.self.kept.items c.self.inside.recent.whole.items c.take.new.self.whole.items
          (c.self.invariant honest).0 c.take.ensures.others (ap (λ v. v.items) c.take.ensures.whole) refl,
      (c.self.invariant honest).1,
    )

pub part_kept-requires : goal.part_kept-requires
part_kept-requires g c = λ honest.
    found_held (g.F.Files.stored c.self.inside.files) c.args.number c.in-Some.content c.self.inside.recent.kept.items (c.self.invariant honest).0.0 (sym c.take.ensures.found ∙ c.in-Some.is)

pub returns-in-Some-clause-found : goal.returns-in-Some-clause-found
returns-in-Some-clause-found g c = λ honest.
    let F = g.F.Files.stored c.args.self.now in
    let held = subst (λ f. HoldsContent (g.F.Files.stored f) c.args.number c.in-Some.content) c.self.view_is
    (found_held (g.F.Files.stored c.self.inside.files) c.args.number c.in-Some.content c.self.inside.recent.kept.items (c.self.invariant honest).0.0 (sym c.take.ensures.found ∙ c.in-Some.is)) in
    part_got F c.args.number c.args.from c.args.most c.in-Some.content c.in_ok-part_kept.field-0.items held c.in_ok-part_kept.ensures.part

pub invariant_of-self-then-is_whole : goal.invariant_of-self-then-is_whole
invariant_of-self-then-is_whole g c = λ honest.
    let F = g.F.Files.stored c.self.inside.files in (
      known_still F F c.args.number c.self.inside.recent.kept.items c.take.new.self.kept.items c.self.inside.recent.whole.items c.take.new.self.whole.items
          (c.self.invariant honest).0 c.take.ensures.others (ap (λ v. v.items) c.take.ensures.whole) refl,
      (c.self.invariant honest).1,
    )

pub invariant_of-self-else-is_whole : goal.invariant_of-self-else-is_whole
invariant_of-self-else-is_whole g c = λ honest.
    let F = g.F.Files.stored c.self.inside.files in (
      known_still F F c.args.number c.self.inside.recent.kept.items c.take.new.self.kept.items c.self.inside.recent.whole.items c.take.new.self.whole.items
          (c.self.invariant honest).0 c.take.ensures.others (ap (λ v. v.items) c.take.ensures.whole) refl,
      (c.self.invariant honest).1,
    )
