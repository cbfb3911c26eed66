use Rattle.eden_materialise.proofs.EntryMoves.{moves_in, move_table, move_stays, move_marks, move_counted, move_elsewhere, move_kept, move_shown, move_unseen}
use Rattle.eden_materialise.proofs.Numbered.{move_numbered}
use Rattle.eden_materialise.proofs.Renumbered.{move_moves, move_same}
use Rattle.eden_materialise.proofs.entry_move.move_entry.Goals as goal

pub change-requires-clause-may : goal.change-requires-clause-may
change-requires-clause-may g c =
    let t = c.args.inodes.now in
    moves_in g.W.World.honest g.W.World.repository (g.F.Files.stored t.files) t.root t.next c.args.from.now c.args.name.now c.args.to.now c.args.new_name.now
    c.holds.ensures.table c.holds.ensures.kept c.requires.may

pub change-requires-clause-table : goal.change-requires-clause-table
change-requires-clause-table g c files root answer does =
    let t = c.args.inodes.now in
    move_table g.W.World.honest (g.F.Files.stored t.files) t.root t.next c.args.from.now c.args.name.now c.args.to.now c.args.new_name.now (g.F.Files.failures t.files)
    (g.F.Files.stored files) root (g.F.Files.failures files) c.holds.ensures.table answer does

pub change-requires-clause-kept : goal.change-requires-clause-kept
change-requires-clause-kept g c h files root answer does =
    let t = c.args.inodes.now in
    move_kept g.W.World.honest (g.F.Files.stored t.files) t.root t.next c.args.from.now c.args.name.now c.args.to.now c.args.new_name.now (g.F.Files.failures t.files)
    (g.F.Files.stored files) root (g.F.Files.failures files) c.holds.ensures.table h g.W.World.repository answer (c.holds.ensures.kept h) does

pub change-requires-clause-numbers : goal.change-requires-clause-numbers
change-requires-clause-numbers g c h files root answer does =
    let t = c.args.inodes.now in
    move_numbered g.W.World.honest (g.F.Files.stored t.files) t.root t.next c.args.from.now c.args.name.now c.args.to.now c.args.new_name.now (g.F.Files.failures t.files)
    (g.F.Files.stored files) root (g.F.Files.failures files) c.holds.ensures.table h g.W.World.repository (c.holds.ensures.kept h) (c.holds.ensures.numbers h) answer does

pub returns-clause-counted : goal.returns-clause-counted
returns-clause-counted g c =
    let t = c.args.inodes.now in
    let then = c.change.new.self in
    move_counted g.W.World.honest (g.F.Files.stored t.files) t.root t.next c.args.from.now c.args.name.now c.args.to.now c.args.new_name.now (g.F.Files.failures t.files)
    (g.F.Files.stored then.files) then.root (g.F.Files.failures then.files) c.holds.ensures.table c.change.result c.change.ensures.does

pub returns-clause-loaded : goal.returns-clause-loaded
returns-clause-loaded g c =
    let t = c.args.inodes.now in
    let then = c.change.new.self in
    move_stays g.W.World.honest (g.F.Files.stored t.files) t.root t.next c.args.from.now c.args.name.now c.args.to.now c.args.new_name.now (g.F.Files.failures t.files)
    (g.F.Files.stored then.files) then.root (g.F.Files.failures then.files) c.holds.ensures.table c.change.result c.change.ensures.does

pub returns-clause-marks : goal.returns-clause-marks
returns-clause-marks g c =
    let t = c.args.inodes.now in
    let then = c.change.new.self in
    move_marks g.W.World.honest (g.F.Files.stored t.files) t.root t.next c.args.from.now c.args.name.now c.args.to.now c.args.new_name.now (g.F.Files.failures t.files)
    (g.F.Files.stored then.files) then.root (g.F.Files.failures then.files) c.holds.ensures.table c.change.result c.change.ensures.does

pub returns-clause-elsewhere : goal.returns-clause-elsewhere
returns-clause-elsewhere g c h =
    let t = c.args.inodes.now in
    let then = c.change.new.self in
    let k = c.holds.ensures.kept h in
    move_elsewhere g.W.World.honest (g.F.Files.stored t.files) t.root t.next c.args.from.now c.args.name.now c.args.to.now c.args.new_name.now (g.F.Files.failures t.files)
    (g.F.Files.stored then.files) then.root (g.F.Files.failures then.files) c.holds.ensures.table h (k.full, k.ties) c.requires.may c.change.result c.change.ensures.does

pub returns-clause-shown : goal.returns-clause-shown
returns-clause-shown g c h =
    let t = c.args.inodes.now in
    let then = c.change.new.self in
    let k = c.holds.ensures.kept h in
    move_shown g.W.World.honest (g.F.Files.stored t.files) t.root t.next c.args.from.now c.args.name.now c.args.to.now c.args.new_name.now (g.F.Files.failures t.files)
    (g.F.Files.stored then.files) then.root (g.F.Files.failures then.files) c.holds.ensures.table h g.W.World.repository (k.full, k.ties) c.change.result c.change.ensures.does

pub returns-clause-unseen : goal.returns-clause-unseen
returns-clause-unseen g c h =
    let t = c.args.inodes.now in
    let then = c.change.new.self in
    let k = c.holds.ensures.kept h in
    move_unseen g.W.World.honest (g.F.Files.stored t.files) t.root t.next c.args.from.now c.args.name.now c.args.to.now c.args.new_name.now (g.F.Files.failures t.files)
    (g.F.Files.stored then.files) then.root (g.F.Files.failures then.files) c.holds.ensures.table h g.W.World.repository (k.full, k.ties) c.change.result c.change.ensures.does

pub returns-clause-renumbers : goal.returns-clause-renumbers
returns-clause-renumbers g c h =
    let t = c.args.inodes.now in
    let then = c.change.new.self in
    let F = g.F.Files.stored t.files in
    move_moves g.W.World.honest F t.root t.next c.args.from.now c.args.name.now c.args.to.now c.args.new_name.now (g.F.Files.failures t.files)
    (g.F.Files.stored then.files) then.root (g.F.Files.failures then.files) c.holds.ensures.table h g.W.World.repository (c.holds.ensures.kept h) (c.holds.ensures.numbers h)
    c.change.result c.change.ensures.does

pub returns-clause-unnumbered : goal.returns-clause-unnumbered
returns-clause-unnumbered g c h =
    let t = c.args.inodes.now in
    let then = c.change.new.self in
    let F = g.F.Files.stored t.files in
    move_same g.W.World.honest F t.root t.next c.args.from.now c.args.name.now c.args.to.now c.args.new_name.now (g.F.Files.failures t.files)
    (g.F.Files.stored then.files) then.root (g.F.Files.failures then.files) c.holds.ensures.table h g.W.World.repository (c.holds.ensures.kept h) (c.holds.ensures.numbers h)
    c.change.result c.change.ensures.does
