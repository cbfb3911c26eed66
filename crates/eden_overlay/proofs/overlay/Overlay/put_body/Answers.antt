use Rattle.std.proofs.Common.{◌≡◌, ◌∙◌, ℕ, List, Some, length, sym, ap, subst}
use Rattle.eden_overlay_format.specs.declared.header.Identifier.TheVariants as identifier
use Rattle.eden_overlay_format.specs.Directory.{directory_body}
use Rattle.eden_overlay_format.specs.Stored.{stored_as}
use Rattle.eden_overlay.specs.Files.{Stored, with_file}
use Rattle.eden_overlay.specs.Held.{HoldsEntries, with_entries}
use Rattle.eden_overlay.proofs.Puts.{entries_held}
use Rattle.eden_overlay.proofs.Remembered.{body_still, body_with}
use Rattle.eden_overlay.proofs.Whole.{known_beside}
use Rattle.eden_overlay.proofs.overlay.Overlay.put_body.Goals as goal

pub invariant_of-self : goal.invariant_of-self
invariant_of-self g c = λ honest.
    let F : Stored = g.F.Files.stored c.self.inside.files in
    let G : Stored = g.F.Files.stored c.replace_body-answer.new.self in
    let k = c.args.number in
    let es = c.args.body in
    let ok : G ≡ with_entries F k es = c.in-Ok.ensures.ok honest ∙ ap (λ (b : List ℕ). with_file F k (Some (stored_as identifier.Directory b))) c.bytes.ensures in
    let there = subst (λ (X : Stored). HoldsEntries X k es) (sym ok) (entries_held F k es (c.requires.entries honest)) in (
      known_beside F G k _ c.self.inside.recent.kept.items c.forget.new.self.kept.items c.self.inside.recent.whole.items c.forget.new.self.whole.items (c.self.invariant honest).0
          c.forget.ensures.kept c.forget.ensures.whole c.replace_body-answer.result (c.replace_body-answer.ensures.ok honest) (c.replace_body-answer.ensures.err honest),
      body_with F G k (length (directory_body es)) _ es c.self.inside.bodies.kept c.keep.new.self.kept (c.self.invariant honest).1 there ok c.keep.ensures.kept c.keep.ensures.other,
    )

pub invariant_of-self-in-Err : goal.invariant_of-self-in-Err
invariant_of-self-in-Err g c = λ honest.
    let F : Stored = g.F.Files.stored c.self.inside.files in
    let G : Stored = g.F.Files.stored c.replace_body-answer.new.self in (
      known_beside F G c.args.number _ c.self.inside.recent.kept.items c.forget.new.self.kept.items c.self.inside.recent.whole.items c.forget.new.self.whole.items (c.self.invariant honest).0
          c.forget.ensures.kept c.forget.ensures.whole c.replace_body-answer.result (c.replace_body-answer.ensures.ok honest) (c.replace_body-answer.ensures.err honest),
      body_still F G c.self.inside.bodies.kept c.spare.new.self.kept (c.self.invariant honest).1 c.spare.ensures (c.in-Err.ensures.err honest),
    )
