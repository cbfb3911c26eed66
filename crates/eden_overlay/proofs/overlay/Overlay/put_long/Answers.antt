use Rattle.std.proofs.Common.{◌∙◌, Vec, refl, sym, ap, subst}
use Rattle.std.specs.Option.{is_some, option_and_then}
use Rattle.std.specs.declared.alloc.Global.{Global}
use Rattle.eden_overlay_format.specs.Values.{content_in}
use Rattle.eden_overlay_format.proofs.CallerLemmas.{content_written}
use Rattle.eden_overlay.specs.declared.recent.Kept.{Kept}
use Rattle.eden_overlay.specs.Keeping.{AreKeptOf}
use Rattle.eden_overlay.proofs.Puts.{put_here}
use Rattle.eden_overlay.proofs.Remembered.{body_beside}
use Rattle.eden_overlay.proofs.Whole.{known_beside, more_whole}
use Rattle.eden_overlay.proofs.overlay.Overlay.put_long.Goals as goal

pub invariant_of-self-2 : goal.invariant_of-self-2
invariant_of-self-2 g c = λ honest.
    let G = g.F.Files.stored c.replace_body.new.self in
    let k = c.args.number in
    let beside = known_beside (g.F.Files.stored c.self.inside.files) G k _ c.self.inside.recent.kept.items c.forget.new.self.kept.items c.self.inside.recent.whole.items c.forget.new.self.whole.items
    (c.self.invariant honest).0 c.forget.ensures.kept c.forget.ensures.whole c.replace_body.result (c.replace_body.ensures.ok honest) (c.replace_body.ensures.err honest) in
    let there = ap (option_and_then content_in) (ap (λ f. f k) (c.in_ok-replace_body.ensures.ok honest) ∙ put_here (g.F.Files.stored c.self.inside.files) k k _ refl)
    ∙ content_written c.args.content.now c.requires.short in (
      (
        subst (λ (v : Vec Kept Global). AreKeptOf G v.items) (sym c.note_whole.ensures.kept) beside.0,
        more_whole G k c.forget.new.self.whole.items c.note_whole.new.self.whole.items beside.1 c.note_whole.ensures.whole (ap is_some there),
      ),
      body_beside (g.F.Files.stored c.self.inside.files) (g.F.Files.stored c.replace_body.new.self) k _ c.self.inside.bodies.kept c.release.new.self.kept (c.self.invariant honest).1
          c.release.ensures c.replace_body.result (c.replace_body.ensures.ok honest) (c.replace_body.ensures.err honest),
    )

pub invariant_of-self : goal.invariant_of-self
invariant_of-self g c = λ honest. (
  known_beside (g.F.Files.stored c.self.inside.files) (g.F.Files.stored c.replace_body.new.self) c.args.number _ c.self.inside.recent.kept.items c.forget.new.self.kept.items
      c.self.inside.recent.whole.items c.forget.new.self.whole.items
      (c.self.invariant honest).0 c.forget.ensures.kept c.forget.ensures.whole c.replace_body.result (c.replace_body.ensures.ok honest) (c.replace_body.ensures.err honest),
  body_beside (g.F.Files.stored c.self.inside.files) (g.F.Files.stored c.replace_body.new.self) c.args.number _ c.self.inside.bodies.kept c.release.new.self.kept (c.self.invariant honest).1
      c.release.ensures c.replace_body.result (c.replace_body.ensures.ok honest) (c.replace_body.ensures.err honest),
)
