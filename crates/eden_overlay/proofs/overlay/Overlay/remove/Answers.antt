use Rattle.eden_overlay.proofs.Remembered.{body_beside}
use Rattle.eden_overlay.proofs.Whole.{known_beside}
use Rattle.eden_overlay.proofs.overlay.Overlay.remove.Goals as goal

pub invariant_of-self : goal.invariant_of-self
invariant_of-self g c = λ honest. (
  known_beside (g.F.Files.stored c.self.inside.files) (g.F.Files.stored c.remove.new.self) c.args.number _ c.self.inside.recent.kept.items c.forget.new.self.kept.items
      c.self.inside.recent.whole.items c.forget.new.self.whole.items
      (c.self.invariant honest).0 c.forget.ensures.kept c.forget.ensures.whole c.remove.result (c.remove.ensures.ok honest) (c.remove.ensures.err honest),
  body_beside (g.F.Files.stored c.self.inside.files) (g.F.Files.stored c.remove.new.self) c.args.number _ c.self.inside.bodies.kept c.release.new.self.kept (c.self.invariant honest).1
      c.release.ensures c.remove.result (c.remove.ensures.ok honest) (c.remove.ensures.err honest),
)
