use Rattle.std.proofs.Common.{sym, ap, ◌∙◌, subst}
use Rattle.eden_tree.specs.Directory.{Row}
use Rattle.eden_coupling.specs.Kept.{IsTable, IsKept}
use Rattle.eden_coupling.specs.NumberKept.{KeepsNumbers}
use Rattle.eden_coupling.specs.Shown.{shown_in}
use Rattle.eden_ops.proofs.Carried.{held_table, held_kept, held_numbers, held_alike}
use Rattle.eden_coupling.specs.Numberings.{in_files, numbers}
use Rattle.eden_ops.proofs.Carried.{held_same}
use Rattle.eden_ops.proofs.move_dir.put_back.Goals as goal

pub change-requires-clause-table : goal.change-requires-clause-table
change-requires-clause-table g c files root answer does =
    let t = c.args.inodes.now in
    subst (λ (r : Row). IsTable r t.next) (sym does.1)
    (held_table g.W.World.honest g.W.World.repository (g.F.Files.stored t.files) t.next c.args.path.now t.root c.args.child.value c.requires c.holds.ensures.table)

pub change-requires-clause-kept : goal.change-requires-clause-kept
change-requires-clause-kept g c h files root answer does =
    let t = c.args.inodes.now in
    let R = g.W.World.repository in
    subst (λ o. IsKept R (g.F.Files.stored o) root t.next) (sym does.0)
    (subst (λ (r : Row). IsKept R (g.F.Files.stored t.files) r t.next) (sym does.1)
    (held_kept g.W.World.honest R (g.F.Files.stored t.files) t.next c.args.path.now t.root c.args.child.value c.requires h c.holds.ensures.table (c.holds.ensures.kept h)))

pub change-requires-clause-numbers : goal.change-requires-clause-numbers
change-requires-clause-numbers g c h files root answer does =
    let t = c.args.inodes.now in
    let R = g.W.World.repository in
    subst (λ o. KeepsNumbers R (g.F.Files.stored o) root t.next) (sym does.0)
    (subst (λ (r : Row). KeepsNumbers R (g.F.Files.stored t.files) r t.next) (sym does.1)
    (held_numbers g.W.World.honest R (g.F.Files.stored t.files) t.next c.args.path.now t.root c.args.child.value c.requires h (c.holds.ensures.numbers h)))

pub returns-clause-shown : goal.returns-clause-shown
returns-clause-shown g c h =
    let t = c.args.inodes.now in
    let R = g.W.World.repository in
    let does = c.change.ensures.does in
    ap (λ o. shown_in R (g.F.Files.stored o) c.change.new.self.root) does.0
    ∙ ap (shown_in R (g.F.Files.stored t.files)) does.1
    ∙ held_alike g.W.World.honest R (g.F.Files.stored t.files) t.next c.args.path.now t.root c.args.child.value c.requires h

pub returns-clause-numbers : goal.returns-clause-numbers
returns-clause-numbers g c h q =
    let t = c.args.inodes.now in
    let R = g.W.World.repository in
    let does = c.change.ensures.does in
    ap (λ o. numbers (in_files (g.F.Files.stored o)) c.change.new.self.root q) does.0
    ∙ ap (λ (r : Row). numbers (in_files (g.F.Files.stored t.files)) r q) does.1
    ∙ held_same g.W.World.honest R (g.F.Files.stored t.files) t.next c.args.path.now t.root c.args.child.value c.requires h (c.holds.ensures.numbers h) q
