use Rattle.std.proofs.Common.{◌+◌, Some, Ok, Err, refl, sym, subst}
use Rattle.eden_tree.specs.Directory.{Row}
use Rattle.eden_materialise.specs.Filing.{not_filed, filed}
use Rattle.eden_materialise.specs.Listings.{IsHeldFor}
use Rattle.eden_materialise.proofs.Additions.{table_given, filed_sound, kept_given, may_add}
use Rattle.eden_materialise.proofs.Chains.{told_fault}
use Rattle.eden_materialise.proofs.Filing.{put_changes, put_changes_not}
use Rattle.eden_materialise.proofs.addition.AdditionChangeOverlay.change.Goals as goal

pub store_own-requires-clause-sound : goal.store_own-requires-clause-sound
store_own-requires-clause-sound g c h =
    let a = c.args.self in
    filed_sound g.W.World.honest g.W.World.repository (g.F.Files.stored c.args.overlay.now) c.args.entry.now a.path.now a.name.now a.number a.new c.requires h

pub returns-in-Err : goal.returns-in-Err
returns-in-Err g c =
    not_filed c.told.result refl c.in-Err.ensures.err
    (told_fault (g.F.Files.failures c.args.overlay.now) (g.F.Files.failures c.store_own.new.overlay) c.in-Err.fault c.told.result c.told.ensures c.in-Err.ensures.counted)

pub put_in-requires : goal.put_in-requires
put_in-requires g c =
    let a = c.args.self in
    let F = g.F.Files.stored c.args.overlay.now in
    let B = g.F.Files.stored c.store_own.new.overlay in
    let x = c.args.entry.now in
    let honest = g.W.World.honest in
    let R = g.W.World.repository in
    record {
      held =
          subst (λ (r : Row). IsHeldFor honest R B x a.path.now a.name.now (Some r)) (sym c.own_entry-new.ensures)
          (record {
            next = a.number + 1;
            table = table_given honest R F x a.path.now a.name.now a.number a.new c.requires;
            kept = kept_given honest R F x a.path.now a.name.now a.number a.new c.requires B c.in-Ok.ensures.ok;
            may = may_add honest R F x a.path.now a.name.now a.number a.new c.requires B c.in-Ok.ensures.ok;
          });
    }

pub returns-in-Ok-put_in : goal.returns-in-Ok-put_in
returns-in-Ok-put_in g c =
    let a = c.args.self in
    let between = c.store_own.new.overlay in
    let then = c.put_in.new.overlay in
    filed (g.F.Files.stored between) (Ok tt) c.in-Ok.ensures.ok
    (put_changes g.W.World.honest a.path.now a.name.now c.own_entry-new.result _ c.own_entry-new.ensures (g.F.Files.stored between) c.args.entry.now
    (g.F.Files.failures c.args.overlay.now) (g.F.Files.failures between) (c.in-Ok.ensures.counted.same (λ failed. absurd (cc)))
    (g.F.Files.stored then) c.put_in.new.root (g.F.Files.failures then)
    c.in-Ok-put_in.ensures.ok c.in-Ok-put_in.ensures.stored (c.in-Ok-put_in.ensures.counted.same (λ failed. absurd (cc))))

pub returns-in-Err-put_in : goal.returns-in-Err-put_in
returns-in-Err-put_in g c =
    let a = c.args.self in
    let between = c.store_own.new.overlay in
    let then = c.put_in.new.overlay in
    filed (g.F.Files.stored between) (Err c.told-in-Err-put_in.result) c.in-Ok.ensures.ok
    (put_changes_not g.W.World.honest a.path.now a.name.now c.own_entry-new.result _ c.own_entry-new.ensures (g.F.Files.stored between) c.args.entry.now
    (g.F.Files.failures c.args.overlay.now) (g.F.Files.failures between) (c.in-Ok.ensures.counted.same (λ failed. absurd (cc)))
    (g.F.Files.stored then) c.put_in.new.root (g.F.Files.failures then) c.told-in-Err-put_in.result
    c.in-Err-put_in.ensures.err c.in-Err-put_in.ensures.strays
    (told_fault (g.F.Files.failures between) (g.F.Files.failures then) c.in-Err-put_in.fault c.told-in-Err-put_in.result c.told-in-Err-put_in.ensures c.in-Err-put_in.ensures.counted))
