use Rattle.std.proofs.Common.{ap, rules}
use Rattle.eden_inode.specs.Tables.{Table}
use Rattle.eden_coupling.specs.Shown.{shown_in}
use Rattle.eden_materialise.proofs.Additions.{adds_may, adds_table, adds_kept, adds_numbered, adds_ok, adds_stored, adds_strays, adds_shown, adds_unseen, adds_marks, adds_stay, adds_puts, adds_same}
use Rattle.eden_materialise.proofs.addition.add_entry.Goals as goal

pub returns-then-not-has_room-clause-numbers : goal.returns-then-not-has_room-clause-numbers
returns-then-not-has_room-clause-numbers g c none y d at holds room = absurd (c.if-not-has_room.ensures y d at holds room)

pub change-requires-clause-may : goal.change-requires-clause-may
change-requires-clause-may g c =
    let l = c.requires.lacks in
    adds_may g.row.F.Denot g.F.Files.stored g.F.Files.failures g.W.World.honest g.W.World.repository c.args.path.now c.args.name.now c.args.new c.args.inodes.now c.give_number.new.self
    c.in-Some.number c.in-Some.ensures.some.1 c.in-Some.ensures.some.0 l c.holds.ensures.table (λ h. (c.holds.ensures.kept h, c.holds.ensures.numbers h))
    (c.if-not-has_room.ensures l.row l.directory l.at l.holds) c.as_slice.ensures.named c.requires.short c.holds-in-Some.ensures.table

pub change-requires-clause-table : goal.change-requires-clause-table
change-requires-clause-table g c files root answer does =
    let l = c.requires.lacks in
    adds_table g.row.F.Denot g.F.Files.stored g.F.Files.failures g.W.World.honest g.W.World.repository c.args.path.now c.args.name.now c.args.new c.args.inodes.now c.give_number.new.self
    c.in-Some.number c.in-Some.ensures.some.1 c.in-Some.ensures.some.0 l c.holds.ensures.table (λ h. (c.holds.ensures.kept h, c.holds.ensures.numbers h))
    (c.if-not-has_room.ensures l.row l.directory l.at l.holds) c.as_slice.ensures.named c.requires.short c.holds-in-Some.ensures.table (g.F.Files.stored files) root
    (g.F.Files.failures files) answer does

pub change-requires-clause-kept : goal.change-requires-clause-kept
change-requires-clause-kept g c h files root answer does =
    let l = c.requires.lacks in
    adds_kept g.row.F.Denot g.F.Files.stored g.F.Files.failures g.W.World.honest g.W.World.repository c.args.path.now c.args.name.now c.args.new c.args.inodes.now c.give_number.new.self
    c.in-Some.number c.in-Some.ensures.some.1 c.in-Some.ensures.some.0 l c.holds.ensures.table (λ h. (c.holds.ensures.kept h, c.holds.ensures.numbers h))
    (c.if-not-has_room.ensures l.row l.directory l.at l.holds) c.as_slice.ensures.named c.requires.short c.holds-in-Some.ensures.table (g.F.Files.stored files) root
    (g.F.Files.failures files) answer does h

pub change-requires-clause-numbers : goal.change-requires-clause-numbers
change-requires-clause-numbers g c h files root answer does =
    let l = c.requires.lacks in
    adds_numbered g.row.F.Denot g.F.Files.stored g.F.Files.failures g.W.World.honest g.W.World.repository c.args.path.now c.args.name.now c.args.new c.args.inodes.now c.give_number.new.self
    c.in-Some.number c.in-Some.ensures.some.1 c.in-Some.ensures.some.0 l c.holds.ensures.table (λ h. (c.holds.ensures.kept h, c.holds.ensures.numbers h))
    (c.if-not-has_room.ensures l.row l.directory l.at l.holds) c.as_slice.ensures.named c.requires.short c.holds-in-Some.ensures.table (g.F.Files.stored files) root
    (g.F.Files.failures files) answer does h

pub returns-in-Some-clause-ok : goal.returns-in-Some-clause-ok
returns-in-Some-clause-ok g c =
    let l = c.requires.lacks in
    adds_ok g.row.F.Denot g.F.Files.stored g.F.Files.failures g.W.World.honest g.W.World.repository c.args.path.now c.args.name.now c.args.new c.args.inodes.now c.give_number.new.self
    c.in-Some.number c.in-Some.ensures.some.1 c.in-Some.ensures.some.0 l c.holds.ensures.table (λ h. (c.holds.ensures.kept h, c.holds.ensures.numbers h))
    (c.if-not-has_room.ensures l.row l.directory l.at l.holds) c.as_slice.ensures.named c.requires.short c.holds-in-Some.ensures.table (g.F.Files.stored c.change.new.self.files) c.change.new.self.root
    (g.F.Files.failures c.change.new.self.files) c.change.result c.change.ensures.does

pub returns-in-Some-clause-stored : goal.returns-in-Some-clause-stored
returns-in-Some-clause-stored g c h =
    let l = c.requires.lacks in
    adds_stored g.row.F.Denot g.F.Files.stored g.F.Files.failures g.W.World.honest g.W.World.repository c.args.path.now c.args.name.now c.args.new c.args.inodes.now c.give_number.new.self
    c.in-Some.number c.in-Some.ensures.some.1 c.in-Some.ensures.some.0 l c.holds.ensures.table (λ h. (c.holds.ensures.kept h, c.holds.ensures.numbers h))
    (c.if-not-has_room.ensures l.row l.directory l.at l.holds) c.as_slice.ensures.named c.requires.short c.holds-in-Some.ensures.table (g.F.Files.stored c.change.new.self.files) c.change.new.self.root
    (g.F.Files.failures c.change.new.self.files) c.change.result c.change.ensures.does h

pub returns-in-Some-clause-strays : goal.returns-in-Some-clause-strays
returns-in-Some-clause-strays g c h =
    let l = c.requires.lacks in
    adds_strays g.row.F.Denot g.F.Files.stored g.F.Files.failures g.W.World.honest g.W.World.repository c.args.path.now c.args.name.now c.args.new c.args.inodes.now c.give_number.new.self
    c.in-Some.number c.in-Some.ensures.some.1 c.in-Some.ensures.some.0 l c.holds.ensures.table (λ h. (c.holds.ensures.kept h, c.holds.ensures.numbers h))
    (c.if-not-has_room.ensures l.row l.directory l.at l.holds) c.as_slice.ensures.named c.requires.short c.holds-in-Some.ensures.table (g.F.Files.stored c.change.new.self.files) c.change.new.self.root
    (g.F.Files.failures c.change.new.self.files) c.change.result c.change.ensures.does h

pub returns-in-Some-clause-shown : goal.returns-in-Some-clause-shown
returns-in-Some-clause-shown g c h =
    let l = c.requires.lacks in
    adds_shown g.row.F.Denot g.F.Files.stored g.F.Files.failures g.W.World.honest g.W.World.repository c.args.path.now c.args.name.now c.args.new c.args.inodes.now c.give_number.new.self
    c.in-Some.number c.in-Some.ensures.some.1 c.in-Some.ensures.some.0 l c.holds.ensures.table (λ h. (c.holds.ensures.kept h, c.holds.ensures.numbers h))
    (c.if-not-has_room.ensures l.row l.directory l.at l.holds) c.as_slice.ensures.named c.requires.short c.holds-in-Some.ensures.table (g.F.Files.stored c.change.new.self.files) c.change.new.self.root
    (g.F.Files.failures c.change.new.self.files) c.change.result c.change.ensures.does h

pub returns-in-None-clause-atomic : goal.returns-in-None-clause-atomic
returns-in-None-clause-atomic g c = record {
  err = search rules;
  fault = search rules;
  unseen = λ h. ap (λ (t : Table g.row.F.Denot). shown_in g.W.World.repository (g.F.Files.stored t.files) t.root) c.in-None.ensures.none.1;
  marks = search rules;
  stays = search rules;
  clock = search rules;
}

pub returns-in-Some-clause-atomic : goal.returns-in-Some-clause-atomic
returns-in-Some-clause-atomic g c =
    let l = c.requires.lacks in
    record {
      err = search rules;
      fault = search rules;
      unseen = λ h. adds_unseen g.row.F.Denot g.F.Files.stored g.F.Files.failures g.W.World.honest g.W.World.repository c.args.path.now c.args.name.now c.args.new c.args.inodes.now
          c.give_number.new.self
          c.in-Some.number c.in-Some.ensures.some.1 c.in-Some.ensures.some.0 l c.holds.ensures.table (λ h. (c.holds.ensures.kept h, c.holds.ensures.numbers h))
          (c.if-not-has_room.ensures l.row l.directory l.at l.holds) c.as_slice.ensures.named c.requires.short c.holds-in-Some.ensures.table
          (g.F.Files.stored c.change.new.self.files) c.change.new.self.root
          (g.F.Files.failures c.change.new.self.files) c.change.result c.change.ensures.does h;
      marks = adds_marks g.row.F.Denot g.F.Files.stored g.F.Files.failures g.W.World.honest g.W.World.repository c.args.path.now c.args.name.now c.args.new c.args.inodes.now c.give_number.new.self
          c.in-Some.number c.in-Some.ensures.some.1 c.in-Some.ensures.some.0 l c.holds.ensures.table (λ h. (c.holds.ensures.kept h, c.holds.ensures.numbers h))
          (c.if-not-has_room.ensures l.row l.directory l.at l.holds) c.as_slice.ensures.named c.requires.short c.holds-in-Some.ensures.table
          (g.F.Files.stored c.change.new.self.files) c.change.new.self.root
          (g.F.Files.failures c.change.new.self.files) c.change.result c.change.ensures.does;
      stays = adds_stay g.row.F.Denot g.F.Files.stored g.F.Files.failures g.W.World.honest g.W.World.repository c.args.path.now c.args.name.now c.args.new c.args.inodes.now c.give_number.new.self
          c.in-Some.number c.in-Some.ensures.some.1 c.in-Some.ensures.some.0 l c.holds.ensures.table (λ h. (c.holds.ensures.kept h, c.holds.ensures.numbers h))
          (c.if-not-has_room.ensures l.row l.directory l.at l.holds) c.as_slice.ensures.named c.requires.short c.holds-in-Some.ensures.table
          (g.F.Files.stored c.change.new.self.files) c.change.new.self.root
          (g.F.Files.failures c.change.new.self.files) c.change.result c.change.ensures.does;
      clock = search rules;
    }

pub returns-in-Some-clause-renumbers : goal.returns-in-Some-clause-renumbers
returns-in-Some-clause-renumbers g c h =
    let l = c.requires.lacks in
    adds_puts g.row.F.Denot g.F.Files.stored g.F.Files.failures g.W.World.honest g.W.World.repository c.args.path.now c.args.name.now c.args.new c.args.inodes.now c.give_number.new.self
    c.in-Some.number c.in-Some.ensures.some.1 c.in-Some.ensures.some.0 l c.holds.ensures.table (λ h. (c.holds.ensures.kept h, c.holds.ensures.numbers h))
    (c.if-not-has_room.ensures l.row l.directory l.at l.holds) c.as_slice.ensures.named c.requires.short c.holds-in-Some.ensures.table (g.F.Files.stored c.change.new.self.files) c.change.new.self.root
    (g.F.Files.failures c.change.new.self.files) c.change.result c.change.ensures.does h

pub returns-in-Some-clause-unnumbered : goal.returns-in-Some-clause-unnumbered
returns-in-Some-clause-unnumbered g c h =
    let l = c.requires.lacks in
    adds_same g.row.F.Denot g.F.Files.stored g.F.Files.failures g.W.World.honest g.W.World.repository c.args.path.now c.args.name.now c.args.new c.args.inodes.now c.give_number.new.self
    c.in-Some.number c.in-Some.ensures.some.1 c.in-Some.ensures.some.0 l c.holds.ensures.table (λ h. (c.holds.ensures.kept h, c.holds.ensures.numbers h))
    (c.if-not-has_room.ensures l.row l.directory l.at l.holds) c.as_slice.ensures.named c.requires.short c.holds-in-Some.ensures.table (g.F.Files.stored c.change.new.self.files) c.change.new.self.root
    (g.F.Files.failures c.change.new.self.files) c.change.result c.change.ensures.does h
