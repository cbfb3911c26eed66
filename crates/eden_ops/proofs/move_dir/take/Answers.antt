use Rattle.std.proofs.Common.{sym, ap, ◌∙◌, subst}
use Rattle.eden_coupling.specs.Kept.{IsKept}
use Rattle.eden_coupling.specs.NumberKept.{KeepsNumbers}
use Rattle.eden_coupling.specs.Shown.{shown_in}
use Rattle.eden_ops.proofs.Carried.{taken_table, taken_over}
use Rattle.eden_coupling.specs.Numberings.{in_files, numbers}
use Rattle.eden_ops.proofs.move_dir.take.Goals as goal

pub change-requires-clause-table : goal.change-requires-clause-table
change-requires-clause-table g c files root answer does =
    let t = c.args.inodes.now in
    taken_table c.args.path.now t.root c.requires.ready root _ does.1 t.next c.holds.ensures.table

pub change-requires-clause-kept : goal.change-requires-clause-kept
change-requires-clause-kept g c h files root answer does =
    let t = c.args.inodes.now in
    let R = g.W.World.repository in
    let k = c.holds.ensures in
    subst (λ o. IsKept R (g.F.Files.stored o) root t.next) (sym does.0)
    (taken_over c.args.path.now t.root c.requires.ready root _ does.1 R (g.F.Files.stored t.files) t.next k.table (k.kept h) (k.numbers h) (c.requires.saved h)).0.kept

pub change-requires-clause-numbers : goal.change-requires-clause-numbers
change-requires-clause-numbers g c h files root answer does =
    let t = c.args.inodes.now in
    let R = g.W.World.repository in
    let k = c.holds.ensures in
    subst (λ o. KeepsNumbers R (g.F.Files.stored o) root t.next) (sym does.0)
    (taken_over c.args.path.now t.root c.requires.ready root _ does.1 R (g.F.Files.stored t.files) t.next k.table (k.kept h) (k.numbers h) (c.requires.saved h)).1

pub returns-clause-shown : goal.returns-clause-shown
returns-clause-shown g c h =
    let t = c.args.inodes.now in
    let R = g.W.World.repository in
    let does = c.change.ensures.does in
    let k = c.holds.ensures in
    ap (λ o. shown_in R (g.F.Files.stored o) c.change.new.self.root) does.0
    ∙ (taken_over c.args.path.now t.root c.requires.ready c.change.new.self.root _ does.1 R (g.F.Files.stored t.files) t.next k.table (k.kept h) (k.numbers h)
    (c.requires.saved h)).0.nodes

pub returns-clause-numbers : goal.returns-clause-numbers
returns-clause-numbers g c h q =
    let t = c.args.inodes.now in
    let R = g.W.World.repository in
    let does = c.change.ensures.does in
    let k = c.holds.ensures in
    ap (λ o. numbers (in_files (g.F.Files.stored o)) c.change.new.self.root q) does.0
    ∙ (taken_over c.args.path.now t.root c.requires.ready c.change.new.self.root _ does.1 R (g.F.Files.stored t.files) t.next k.table (k.kept h) (k.numbers h)
    (c.requires.saved h)).0.same q
