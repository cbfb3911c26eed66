use Rattle.eden_materialise.proofs.Chains.{owns_table, owns_marks, owns_stays, owns_kept, owns_alike}
use Rattle.eden_materialise.proofs.Numbered.{owns_numbered}
use Rattle.eden_materialise.proofs.Renumbered.{owns_same}
use Rattle.eden_materialise.proofs.InPlace.{owns_names}
use Rattle.eden_materialise.proofs.owning.materialise.Goals as goal

pub change_in_place-requires-clause-table : goal.change_in_place-requires-clause-table
change_in_place-requires-clause-table g c files root answer does =
    let t = c.args.inodes.now in
    owns_table g.W.World.honest c.args.path.now (g.F.Files.stored t.files) t.root (g.F.Files.failures t.files) (g.F.Files.stored files) root (g.F.Files.failures files)
    answer t.next c.holds.ensures.table c.requires.loaded does

pub change_in_place-requires-clause-kept : goal.change_in_place-requires-clause-kept
change_in_place-requires-clause-kept g c h files root answer does =
    let t = c.args.inodes.now in
    owns_kept g.W.World.honest c.args.path.now (g.F.Files.stored t.files) t.root (g.F.Files.failures t.files) (g.F.Files.stored files) root (g.F.Files.failures files)
    h g.W.World.repository t.next c.holds.ensures.table (c.holds.ensures.kept h) c.requires.loaded answer does

pub change_in_place-requires-clause-numbers : goal.change_in_place-requires-clause-numbers
change_in_place-requires-clause-numbers g c h files root answer does =
    let t = c.args.inodes.now in
    owns_numbered g.W.World.honest c.args.path.now (g.F.Files.stored t.files) t.root (g.F.Files.failures t.files) (g.F.Files.stored files) root (g.F.Files.failures files)
    t.next g.W.World.repository h (c.holds.ensures.numbers h) c.requires.loaded answer does

pub change_in_place-requires-clause-names : goal.change_in_place-requires-clause-names
change_in_place-requires-clause-names g c files root answer does =
    let t = c.args.inodes.now in
    owns_names g.W.World.honest c.args.path.now (g.F.Files.stored t.files) t.root (g.F.Files.failures t.files) (g.F.Files.stored files) root (g.F.Files.failures files) answer does

pub returns-clause-shown : goal.returns-clause-shown
returns-clause-shown g c h =
    let t = c.args.inodes.now in
    let then = c.change_in_place.new.self in
    owns_alike g.W.World.honest c.args.path.now (g.F.Files.stored t.files) t.root (g.F.Files.failures t.files) (g.F.Files.stored then.files) then.root (g.F.Files.failures then.files)
    h g.W.World.repository t.next c.holds.ensures.table (c.holds.ensures.kept h) c.requires.loaded c.change_in_place.result c.change_in_place.ensures.does

pub returns-clause-marks : goal.returns-clause-marks
returns-clause-marks g c =
    let t = c.args.inodes.now in
    let then = c.change_in_place.new.self in
    owns_marks g.W.World.honest c.args.path.now (g.F.Files.stored t.files) t.root (g.F.Files.failures t.files) (g.F.Files.stored then.files) then.root (g.F.Files.failures then.files)
    c.change_in_place.result c.change_in_place.ensures.does

pub returns-clause-stays : goal.returns-clause-stays
returns-clause-stays g c =
    let t = c.args.inodes.now in
    let then = c.change_in_place.new.self in
    owns_stays g.W.World.honest c.args.path.now (g.F.Files.stored t.files) t.root (g.F.Files.failures t.files) (g.F.Files.stored then.files) then.root (g.F.Files.failures then.files)
    c.change_in_place.result c.requires.loaded c.change_in_place.ensures.does

pub returns-clause-numbers : goal.returns-clause-numbers
returns-clause-numbers g c h =
    let t = c.args.inodes.now in
    let then = c.change_in_place.new.self in
    let F = g.F.Files.stored t.files in
    owns_same g.W.World.honest c.args.path.now F t.root (g.F.Files.failures t.files) (g.F.Files.stored then.files) then.root (g.F.Files.failures then.files)
    t.next g.W.World.repository h (c.holds.ensures.numbers h) c.requires.loaded c.change_in_place.result c.change_in_place.ensures.does
