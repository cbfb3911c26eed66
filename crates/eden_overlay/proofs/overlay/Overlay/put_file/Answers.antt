use Rattle.std.proofs.Common.{ℕ, List, ◌∙◌, Some, refl, ap}
use Rattle.std.specs.Option.{option_and_then}
use Rattle.eden_overlay_format.specs.Values.{content_in}
use Rattle.eden_overlay_format.proofs.CallerLemmas.{content_written}
use Rattle.eden_overlay.specs.declared.recent.Kept.{Kept}
use Rattle.eden_overlay.proofs.Remembered.{body_beside, body_others}
use Rattle.eden_overlay.proofs.Whole.{known_beside, known_others, known_with}
use Rattle.eden_overlay.proofs.Puts.{put_here}
use Rattle.eden_overlay.proofs.overlay.Overlay.put_file.Goals as goal

pub invariant_of-self : goal.invariant_of-self
invariant_of-self g c = λ honest.
    let F = g.F.Files.stored c.self.inside.files in (
      known_others F F c.args.number c.self.inside.recent.kept.items c.room-room.new.self.kept.items c.self.inside.recent.whole.items c.room-room.new.self.whole.items (c.self.invariant honest).0
          c.room-room.ensures.kept c.room-room.ensures.whole refl,
      body_others F F c.args.number c.self.inside.bodies.kept c.release.new.self.kept (c.self.invariant honest).1 c.release.ensures refl,
    )

pub invariant_of-self-in_err-replace_body : goal.invariant_of-self-in_err-replace_body
invariant_of-self-in_err-replace_body g c = λ honest. (
  known_beside (g.F.Files.stored c.self.inside.files) (g.F.Files.stored c.replace_body.new.self) c.args.number _ c.self.inside.recent.kept.items c.room-room.new.self.kept.items
      c.self.inside.recent.whole.items c.room-room.new.self.whole.items
      (c.self.invariant honest).0 c.room-room.ensures.kept c.room-room.ensures.whole c.replace_body.result (c.replace_body.ensures.ok honest) (c.replace_body.ensures.err honest),
  body_beside (g.F.Files.stored c.self.inside.files) (g.F.Files.stored c.replace_body.new.self) c.args.number _ c.self.inside.bodies.kept c.release.new.self.kept (c.self.invariant honest).1
      c.release.ensures c.replace_body.result (c.replace_body.ensures.ok honest) (c.replace_body.ensures.err honest),
)

pub invariant_of-self-2 : goal.invariant_of-self-2
invariant_of-self-2 g c = λ honest.
    let F = g.F.Files.stored c.self.inside.files in
    let G = g.F.Files.stored c.replace_body.new.self in
    let k = c.args.number in
    let x : Kept = record { number = k; content = c.of_unsealed-stored.result } in
    let beside = known_beside F G k _ c.self.inside.recent.kept.items c.room-room.new.self.kept.items c.self.inside.recent.whole.items c.room-room.new.self.whole.items
    (c.self.invariant honest).0 c.room-room.ensures.kept c.room-room.ensures.whole c.replace_body.result (c.replace_body.ensures.ok honest) (c.replace_body.ensures.err honest) in
    let there = ap (option_and_then content_in) (ap (λ f. f k) (c.in_ok-replace_body.ensures.ok honest) ∙ put_here F k k _ refl)
    ∙ content_written c.as_slice-body.result.now c.as_slice-body.ensures.short ∙ ap (λ (l : List ℕ). Some l) c.as_slice-body.ensures.same in (
      known_with G c.room-room.new.self.most x c.room-room.new.self.kept.items c.keep-kept.new.self.kept.items
          c.room-room.new.self.whole.items c.keep-kept.new.self.whole.items c.keep-kept.result beside there
          c.keep-kept.ensures.kept c.keep-kept.ensures.err (ap (λ v. v.items) c.keep-kept.ensures.whole),
      body_beside (g.F.Files.stored c.self.inside.files) (g.F.Files.stored c.replace_body.new.self) k _ c.self.inside.bodies.kept c.release.new.self.kept (c.self.invariant honest).1
          c.release.ensures c.replace_body.result (c.replace_body.ensures.ok honest) (c.replace_body.ensures.err honest),
    )
