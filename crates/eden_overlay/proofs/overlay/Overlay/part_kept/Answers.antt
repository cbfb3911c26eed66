use Rattle.std.proofs.Common.{ap, sym, subst}
use Rattle.eden_overlay.specs.declared.recent.Kept.{Kept}
use Rattle.eden_overlay.specs.Held.{HoldsContent}
use Rattle.eden_overlay.proofs.Whole.{known_with}
use Rattle.eden_overlay.proofs.overlay.Overlay.part_kept.Goals as goal

pub invariant_of-self : goal.invariant_of-self
invariant_of-self g c = λ honest.
    let x : Kept = record { number = c.args.number; content = c.args.content } in (
      known_with (g.F.Files.stored c.self.inside.files) c.self.inside.recent.most x c.self.inside.recent.kept.items c.keep-kept.new.self.kept.items
          c.self.inside.recent.whole.items c.keep-kept.new.self.whole.items
          c.keep-kept.result (c.self.invariant honest).0
          (subst (λ f. HoldsContent (g.F.Files.stored f) c.args.number c.args.content) (sym c.self.view_is) (c.requires honest))
          c.keep-kept.ensures.kept c.keep-kept.ensures.err (ap (λ v. v.items) c.keep-kept.ensures.whole),
      (c.self.invariant honest).1,
    )
