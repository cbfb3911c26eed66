use Rattle.std.proofs.Common.{Some, Ok, Err, inr, sym, ◌∙◌, subst}
use Rattle.eden_overlay.specs.Held.{with_content}
use Rattle.eden_tree.specs.Directory.{Row}
use Rattle.eden_coupling.specs.Laws.{owned}
use Rattle.eden_materialise.specs.Filing.{filed}
use Rattle.eden_materialise.specs.Listings.{IsHeldFor}
use Rattle.eden_materialise.proofs.Chains.{told_fault}
use Rattle.eden_materialise.proofs.Filing.{put_changes, put_changes_not}
use Rattle.eden_materialise.proofs.Fills.{not_filled, place_sound, is_put, place_held}
use Rattle.eden_materialise.proofs.content.FillingChangeOverlay.change.Goals as goal

pub put_file-requires-clause-sound : goal.put_file-requires-clause-sound
put_file-requires-clause-sound g c h =
    let a = c.args.self in
    place_sound g.W.World.honest g.W.World.repository (g.F.Files.stored c.args.overlay.now) c.args.entry.now a.path.now a.name.now a.content c.requires
    c.place_of-place.result.number c.place_of-place.ensures.number h

pub returns-in-Err : goal.returns-in-Err
returns-in-Err g c w has =
    let a = c.args.self in
    let F = g.F.Files.stored c.args.overlay.now in
    let then = c.put_file.new.self in
    not_filled g.W.World.honest a.path.now a.name.now w F (with_content F w.number a.content) c.args.entry.now
    (g.F.Files.failures c.args.overlay.now) (g.F.Files.stored then) (g.F.Files.failures then) c.told.result c.in-Err.ensures.err
    (told_fault (g.F.Files.failures c.args.overlay.now) (g.F.Files.failures then) c.in-Err.fault c.told.result c.told.ensures c.in-Err.ensures.counted)

pub put_in-requires : goal.put_in-requires
put_in-requires g c =
    let a = c.args.self in
    let x = c.args.entry.now in
    let B = g.F.Files.stored c.put_file.new.self in
    let f = c.requires in
    record {
      held =
          subst (λ (r : Row). IsHeldFor g.W.World.honest g.W.World.repository B x a.path.now a.name.now (Some r)) (sym (c.as_own-file.ensures f.entry f.has))
          (place_held g.W.World.honest g.W.World.repository (g.F.Files.stored c.args.overlay.now) x a.path.now a.name.now a.content f
          c.place_of-place.result.number c.place_of-place.ensures.number B c.in-Ok.ensures.ok (sym (c.place_of-place.ensures.own f.entry f.has) ∙ c.if-place.false));
    }

pub returns-in-Ok-put_in : goal.returns-in-Ok-put_in
returns-in-Ok-put_in g c w has =
    let a = c.args.self in
    let x = c.args.entry.now in
    let between = c.put_file.new.self in
    let then = c.put_in.new.overlay in
    inr (
      sym (c.place_of-place.ensures.own w has) ∙ c.if-place.false,
      filed (g.F.Files.stored between) (Ok tt)
          (is_put g.W.World.honest g.W.World.repository (g.F.Files.stored c.args.overlay.now) x a.path.now a.name.now a.content c.requires
          c.place_of-place.result.number c.place_of-place.ensures.number (g.F.Files.stored between) c.in-Ok.ensures.ok w has)
          (put_changes g.W.World.honest a.path.now a.name.now c.as_own-file.result (owned w) (c.as_own-file.ensures w has) (g.F.Files.stored between) x
          (g.F.Files.failures c.args.overlay.now) (g.F.Files.failures between) (c.in-Ok.ensures.counted.same (λ failed. absurd (cc)))
          (g.F.Files.stored then) c.put_in.new.root (g.F.Files.failures then)
          c.in-Ok-put_in.ensures.ok c.in-Ok-put_in.ensures.stored (c.in-Ok-put_in.ensures.counted.same (λ failed. absurd (cc)))),
    )

pub returns-in-Err-put_in : goal.returns-in-Err-put_in
returns-in-Err-put_in g c w has =
    let a = c.args.self in
    let x = c.args.entry.now in
    let between = c.put_file.new.self in
    let then = c.put_in.new.overlay in
    inr (
      sym (c.place_of-place.ensures.own w has) ∙ c.if-place.false,
      filed (g.F.Files.stored between) (Err c.told-in-Err-put_in.result)
          (is_put g.W.World.honest g.W.World.repository (g.F.Files.stored c.args.overlay.now) x a.path.now a.name.now a.content c.requires
          c.place_of-place.result.number c.place_of-place.ensures.number (g.F.Files.stored between) c.in-Ok.ensures.ok w has)
          (put_changes_not g.W.World.honest a.path.now a.name.now c.as_own-file.result (owned w) (c.as_own-file.ensures w has) (g.F.Files.stored between) x
          (g.F.Files.failures c.args.overlay.now) (g.F.Files.failures between) (c.in-Ok.ensures.counted.same (λ failed. absurd (cc)))
          (g.F.Files.stored then) c.put_in.new.root (g.F.Files.failures then) c.told-in-Err-put_in.result
          c.in-Err-put_in.ensures.err c.in-Err-put_in.ensures.strays
          (told_fault (g.F.Files.failures between) (g.F.Files.failures then) c.in-Err-put_in.fault c.told-in-Err-put_in.result c.told-in-Err-put_in.ensures c.in-Err-put_in.ensures.counted)),
    )
