use Rattle.eden_materialise.proofs.Fronts.{can_save, at_table, at_kept, at_shown}
use Rattle.eden_materialise.proofs.Numbered.{at_numbered}
use Rattle.eden_materialise.proofs.Renumbered.{at_same}
use Rattle.eden_materialise.proofs.InPlace.{saves_names}
use Rattle.eden_materialise.proofs.saving.save_at.Goals as goal

pub change_in_place-requires-clause-may : goal.change_in_place-requires-clause-may
change_in_place-requires-clause-may g c =
    let t = c.args.inodes.now in
    can_save g.W.World.honest g.W.World.repository (g.F.Files.stored t.files) t.root t.next c.args.path.now c.holds.ensures.table c.holds.ensures.kept

pub change_in_place-requires-clause-table : goal.change_in_place-requires-clause-table
change_in_place-requires-clause-table g c files root answer does =
    let t = c.args.inodes.now in
    at_table g.W.World.honest c.args.path.now (g.F.Files.stored t.files) t.root (g.F.Files.failures t.files) (g.F.Files.stored files) root (g.F.Files.failures files)
    t.next c.holds.ensures.table answer does

pub change_in_place-requires-clause-kept : goal.change_in_place-requires-clause-kept
change_in_place-requires-clause-kept g c h files root answer does =
    let t = c.args.inodes.now in
    at_kept g.W.World.honest c.args.path.now (g.F.Files.stored t.files) t.root (g.F.Files.failures t.files) (g.F.Files.stored files) root (g.F.Files.failures files)
    t.next c.holds.ensures.table h g.W.World.repository (c.holds.ensures.kept h) answer does

pub change_in_place-requires-clause-numbers : goal.change_in_place-requires-clause-numbers
change_in_place-requires-clause-numbers g c h files root answer does =
    let t = c.args.inodes.now in
    at_numbered g.W.World.honest c.args.path.now (g.F.Files.stored t.files) t.root (g.F.Files.failures t.files) (g.F.Files.stored files) root (g.F.Files.failures files)
    t.next g.W.World.repository h (c.holds.ensures.numbers h) answer does

pub change_in_place-requires-clause-names : goal.change_in_place-requires-clause-names
change_in_place-requires-clause-names g c files root answer does =
    let t = c.args.inodes.now in
    saves_names g.W.World.honest c.args.path.now (g.F.Files.stored t.files) t.root (g.F.Files.failures t.files) (g.F.Files.stored files) root (g.F.Files.failures files) answer does

pub returns-clause-shown : goal.returns-clause-shown
returns-clause-shown g c h =
    let t = c.args.inodes.now in
    let then = c.change_in_place.new.self in
    at_shown g.W.World.honest c.args.path.now (g.F.Files.stored t.files) t.root (g.F.Files.failures t.files) (g.F.Files.stored then.files) then.root (g.F.Files.failures then.files)
    t.next c.holds.ensures.table h g.W.World.repository (c.holds.ensures.kept h) c.change_in_place.result c.change_in_place.ensures.does

pub returns-clause-numbers : goal.returns-clause-numbers
returns-clause-numbers g c h =
    let t = c.args.inodes.now in
    let then = c.change_in_place.new.self in
    let F = g.F.Files.stored t.files in
    at_same g.W.World.honest c.args.path.now F t.root (g.F.Files.failures t.files) (g.F.Files.stored then.files) then.root (g.F.Files.failures then.files)
    t.next g.W.World.repository h (c.holds.ensures.numbers h) c.change_in_place.result c.change_in_place.ensures.does
