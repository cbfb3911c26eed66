use Rattle.std.proofs.Common.{None}
use Rattle.eden_materialise.proofs.Listings.{changes_table, changes_marks, changes_stay}
use Rattle.eden_materialise.proofs.Outcomes.{puts_ok}
use Rattle.eden_materialise.proofs.Removals.{may_remove, removes, removes_strays, removes_fault, removes_counted, removes_kept, removes_shown, removes_unseen}
use Rattle.eden_materialise.proofs.Numbered.{removes_numbered}
use Rattle.eden_materialise.proofs.Renumbered.{removes_takes, removes_same}
use Rattle.eden_materialise.proofs.removal.remove_entry.Goals as goal

pub change-requires-clause-may : goal.change-requires-clause-may
change-requires-clause-may g c =
    let t = c.args.inodes.now in
    record {
      next = t.next;
      table = c.holds.ensures.table;
      kept = c.holds.ensures.kept;
      may = may_remove g.W.World.honest g.W.World.repository (g.F.Files.stored t.files) t.root t.next c.args.path.now c.args.name.now c.holds.ensures.table c.requires.there;
    }

pub change-requires-clause-table : goal.change-requires-clause-table
change-requires-clause-table g c files root answer does =
    let t = c.args.inodes.now in
    let F = g.F.Files.stored t.files in
    let may = may_remove g.W.World.honest g.W.World.repository F t.root t.next c.args.path.now c.args.name.now c.holds.ensures.table c.requires.there in
    let done = does in
    changes_table g.W.World.honest g.W.World.repository c.args.path.now c.args.name.now None F t.root (g.F.Files.failures t.files)
    done.between root done.count t.next c.holds.ensures.table may answer done.changes

pub change-requires-clause-kept : goal.change-requires-clause-kept
change-requires-clause-kept g c h files root answer does =
    let t = c.args.inodes.now in
    let F = g.F.Files.stored t.files in
    let may = may_remove g.W.World.honest g.W.World.repository F t.root t.next c.args.path.now c.args.name.now c.holds.ensures.table c.requires.there in
    removes_kept g.W.World.honest g.W.World.repository c.args.path.now c.args.name.now F t.root (g.F.Files.failures t.files)
    (g.F.Files.stored files) root (g.F.Files.failures files) t.next c.holds.ensures.table may h (c.holds.ensures.kept h) answer does

pub change-requires-clause-numbers : goal.change-requires-clause-numbers
change-requires-clause-numbers g c h files root answer does =
    let t = c.args.inodes.now in
    let F = g.F.Files.stored t.files in
    let may = may_remove g.W.World.honest g.W.World.repository F t.root t.next c.args.path.now c.args.name.now c.holds.ensures.table c.requires.there in
    removes_numbered g.W.World.honest g.W.World.repository c.args.path.now c.args.name.now F t.root (g.F.Files.failures t.files)
    (g.F.Files.stored files) root (g.F.Files.failures files) t.next c.holds.ensures.table may h (c.holds.ensures.kept h) (c.holds.ensures.numbers h) answer does

pub returns-clause-ok : goal.returns-clause-ok
returns-clause-ok g c =
    puts_ok c.change.result c.args.path.now c.args.name.now None c.args.inodes.now.root c.change.new.self.root c.change.ensures.does.changes.ok

pub returns-clause-removed : goal.returns-clause-removed
returns-clause-removed g c =
    let t = c.args.inodes.now in
    let then = c.change.new.self in
    let F = g.F.Files.stored t.files in
    let may = may_remove g.W.World.honest g.W.World.repository F t.root t.next c.args.path.now c.args.name.now c.holds.ensures.table c.requires.there in
    removes g.W.World.honest g.W.World.repository c.args.path.now c.args.name.now F t.root (g.F.Files.failures t.files)
    (g.F.Files.stored then.files) then.root (g.F.Files.failures then.files) t.next c.holds.ensures.table may c.change.result c.change.ensures.does

pub returns-clause-strays : goal.returns-clause-strays
returns-clause-strays g c h =
    let t = c.args.inodes.now in
    let then = c.change.new.self in
    let F = g.F.Files.stored t.files in
    let may = may_remove g.W.World.honest g.W.World.repository F t.root t.next c.args.path.now c.args.name.now c.holds.ensures.table c.requires.there in
    removes_strays g.W.World.honest g.W.World.repository c.args.path.now c.args.name.now F t.root (g.F.Files.failures t.files)
    (g.F.Files.stored then.files) then.root (g.F.Files.failures then.files) t.next c.holds.ensures.table may c.change.result c.change.ensures.does h

pub returns-clause-counted : goal.returns-clause-counted
returns-clause-counted g c =
    let t = c.args.inodes.now in
    let then = c.change.new.self in
    let F = g.F.Files.stored t.files in
    let may = may_remove g.W.World.honest g.W.World.repository F t.root t.next c.args.path.now c.args.name.now c.holds.ensures.table c.requires.there in
    removes_counted g.W.World.honest g.W.World.repository c.args.path.now c.args.name.now F t.root (g.F.Files.failures t.files)
    (g.F.Files.stored then.files) then.root (g.F.Files.failures then.files) t.next c.holds.ensures.table may c.change.result c.change.ensures.does

pub returns-clause-shown : goal.returns-clause-shown
returns-clause-shown g c h =
    let t = c.args.inodes.now in
    let then = c.change.new.self in
    let F = g.F.Files.stored t.files in
    let may = may_remove g.W.World.honest g.W.World.repository F t.root t.next c.args.path.now c.args.name.now c.holds.ensures.table c.requires.there in
    removes_shown g.W.World.honest g.W.World.repository c.args.path.now c.args.name.now F t.root (g.F.Files.failures t.files)
    (g.F.Files.stored then.files) then.root (g.F.Files.failures then.files) t.next c.holds.ensures.table may h (c.holds.ensures.kept h) c.change.result c.change.ensures.does

pub returns-clause-atomic : goal.returns-clause-atomic
returns-clause-atomic g c =
    let t = c.args.inodes.now in
    let then = c.change.new.self in
    let F = g.F.Files.stored t.files in
    let may = may_remove g.W.World.honest g.W.World.repository F t.root t.next c.args.path.now c.args.name.now c.holds.ensures.table c.requires.there in
    let does = c.change.ensures.does in
    record {
      err = does.changes.err;
      fault = removes_fault g.W.World.honest g.W.World.repository c.args.path.now c.args.name.now F t.root (g.F.Files.failures t.files)
          (g.F.Files.stored then.files) then.root (g.F.Files.failures then.files) t.next c.holds.ensures.table may c.change.result does;
      unseen = λ h. removes_unseen g.W.World.honest g.W.World.repository c.args.path.now c.args.name.now F t.root (g.F.Files.failures t.files)
          (g.F.Files.stored then.files) then.root (g.F.Files.failures then.files) t.next c.holds.ensures.table may h (c.holds.ensures.kept h) c.change.result does;
      marks = changes_marks g.W.World.honest g.W.World.repository c.args.path.now c.args.name.now None F t.root (g.F.Files.failures t.files)
          does.between then.root does.count t.next c.holds.ensures.table may c.change.result does.changes;
      stays = changes_stay g.W.World.honest g.W.World.repository c.args.path.now c.args.name.now None F t.root (g.F.Files.failures t.files)
          does.between then.root does.count t.next c.holds.ensures.table may c.change.result does.changes;
      clock = c.change.ensures.rest.1;
    }

pub returns-clause-renumbers : goal.returns-clause-renumbers
returns-clause-renumbers g c h =
    let t = c.args.inodes.now in
    let then = c.change.new.self in
    let F = g.F.Files.stored t.files in
    let may = may_remove g.W.World.honest g.W.World.repository F t.root t.next c.args.path.now c.args.name.now c.holds.ensures.table c.requires.there in
    removes_takes g.W.World.honest g.W.World.repository c.args.path.now c.args.name.now F t.root (g.F.Files.failures t.files)
    (g.F.Files.stored then.files) then.root (g.F.Files.failures then.files) t.next c.holds.ensures.table h (c.holds.ensures.kept h) (c.holds.ensures.numbers h) may c.change.result
    c.change.ensures.does

pub returns-clause-unnumbered : goal.returns-clause-unnumbered
returns-clause-unnumbered g c h =
    let t = c.args.inodes.now in
    let then = c.change.new.self in
    let F = g.F.Files.stored t.files in
    let may = may_remove g.W.World.honest g.W.World.repository F t.root t.next c.args.path.now c.args.name.now c.holds.ensures.table c.requires.there in
    removes_same g.W.World.honest g.W.World.repository c.args.path.now c.args.name.now F t.root (g.F.Files.failures t.files)
    (g.F.Files.stored then.files) then.root (g.F.Files.failures then.files) t.next c.holds.ensures.table h (c.holds.ensures.kept h) (c.holds.ensures.numbers h) may c.change.result
    c.change.ensures.does
