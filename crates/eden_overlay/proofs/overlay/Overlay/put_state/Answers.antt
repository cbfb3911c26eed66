use Rattle.std.proofs.Common.{refl}
use Rattle.eden_overlay.proofs.Remembered.{body_beside, body_others}
use Rattle.eden_overlay.proofs.Whole.{known_beside, known_others}
use Rattle.eden_overlay.proofs.overlay.Overlay.put_state.Goals as goal

pub invariant_of-self : goal.invariant_of-self
invariant_of-self g c = λ honest.
    let F = g.F.Files.stored c.self.inside.files in (
      known_others F F 0 c.self.inside.recent.kept.items c.forget.new.self.kept.items c.self.inside.recent.whole.items c.forget.new.self.whole.items (c.self.invariant honest).0 c.forget.ensures.kept
          c.forget.ensures.whole refl,
      body_others F F 0 c.self.inside.bodies.kept c.release.new.self.kept (c.self.invariant honest).1 c.release.ensures refl,
    )

pub invariant_of-self-2 : goal.invariant_of-self-2
invariant_of-self-2 g c = λ honest. (
  known_beside (g.F.Files.stored c.self.inside.files) (g.F.Files.stored c.replace.new.self) 0 _ c.self.inside.recent.kept.items c.forget.new.self.kept.items c.self.inside.recent.whole.items
      c.forget.new.self.whole.items
      (c.self.invariant honest).0 c.forget.ensures.kept c.forget.ensures.whole c.replace.result (c.replace.ensures.ok honest) (c.replace.ensures.err honest),
  body_beside (g.F.Files.stored c.self.inside.files) (g.F.Files.stored c.replace.new.self) 0 _ c.self.inside.bodies.kept c.release.new.self.kept (c.self.invariant honest).1
      c.release.ensures c.replace.result (c.replace.ensures.ok honest) (c.replace.ensures.err honest),
)
