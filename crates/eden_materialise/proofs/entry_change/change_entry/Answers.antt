use Rattle.eden_materialise.proofs.Listings.{changes_table, changes_marks, changes_stay, changes_kept_then, changes_shown, changes_unseen}
use Rattle.eden_materialise.proofs.Numbered.{changes_numbered}
use Rattle.eden_materialise.proofs.Outcomes.{puts_ok, stores_ok}
use Rattle.eden_materialise.proofs.entry_change.change_entry.Goals as goal

pub change-requires-clause-table : goal.change-requires-clause-table
change-requires-clause-table g c files root answer does =
    let t = c.args.inodes.now in
    changes_table g.W.World.honest g.W.World.repository c.args.path.now c.args.name.now c.args.entry (g.F.Files.stored t.files) t.root (g.F.Files.failures t.files)
    (g.F.Files.stored files) root (g.F.Files.failures files) t.next c.holds.ensures.table c.requires.may answer does

pub change-requires-clause-kept : goal.change-requires-clause-kept
change-requires-clause-kept g c h files root answer does =
    let t = c.args.inodes.now in
    changes_kept_then g.W.World.honest g.W.World.repository c.args.path.now c.args.name.now c.args.entry (g.F.Files.stored t.files) t.root (g.F.Files.failures t.files)
    (g.F.Files.stored files) root (g.F.Files.failures files) t.next c.holds.ensures.table c.requires.may h (c.holds.ensures.kept h) answer does

pub change-requires-clause-numbers : goal.change-requires-clause-numbers
change-requires-clause-numbers g c h files root answer does =
    let t = c.args.inodes.now in
    changes_numbered g.W.World.honest g.W.World.repository c.args.path.now c.args.name.now c.args.entry (g.F.Files.stored t.files) t.root (g.F.Files.failures t.files)
    (g.F.Files.stored files) root (g.F.Files.failures files) t.next c.holds.ensures.table c.requires.may h (c.holds.ensures.kept h) (c.holds.ensures.numbers h) answer does

pub returns-clause-ok : goal.returns-clause-ok
returns-clause-ok g c = puts_ok c.change.result c.args.path.now c.args.name.now c.args.entry c.args.inodes.now.root c.change.new.self.root c.change.ensures.does.ok

pub returns-clause-stored : goal.returns-clause-stored
returns-clause-stored g c h =
    stores_ok c.change.result c.args.path.now c.args.name.now c.args.entry (g.F.Files.stored c.args.inodes.now.files) c.args.inodes.now.root (g.F.Files.stored c.change.new.self.files)
    (c.change.ensures.does.stored h)

pub returns-clause-shown : goal.returns-clause-shown
returns-clause-shown g c h =
    let t = c.args.inodes.now in
    let then = c.change.new.self in
    changes_shown g.W.World.honest g.W.World.repository c.args.path.now c.args.name.now c.args.entry (g.F.Files.stored t.files) t.root (g.F.Files.failures t.files)
    (g.F.Files.stored then.files) then.root (g.F.Files.failures then.files) t.next c.holds.ensures.table c.requires.may h (c.holds.ensures.kept h) c.change.result c.change.ensures.does

pub returns-clause-atomic : goal.returns-clause-atomic
returns-clause-atomic g c =
    let t = c.args.inodes.now in
    let then = c.change.new.self in
    let does = c.change.ensures.does in
    record {
      err = does.err;
      fault = does.fault;
      unseen = λ h. changes_unseen g.W.World.honest g.W.World.repository c.args.path.now c.args.name.now c.args.entry (g.F.Files.stored t.files) t.root (g.F.Files.failures t.files)
          (g.F.Files.stored then.files) then.root (g.F.Files.failures then.files) t.next c.holds.ensures.table c.requires.may h (c.holds.ensures.kept h) c.change.result does;
      marks = changes_marks g.W.World.honest g.W.World.repository c.args.path.now c.args.name.now c.args.entry (g.F.Files.stored t.files) t.root (g.F.Files.failures t.files)
          (g.F.Files.stored then.files) then.root (g.F.Files.failures then.files) t.next c.holds.ensures.table c.requires.may c.change.result does;
      stays = changes_stay g.W.World.honest g.W.World.repository c.args.path.now c.args.name.now c.args.entry (g.F.Files.stored t.files) t.root (g.F.Files.failures t.files)
          (g.F.Files.stored then.files) then.root (g.F.Files.failures then.files) t.next c.holds.ensures.table c.requires.may c.change.result does;
      clock = c.change.ensures.rest.1;
    }
