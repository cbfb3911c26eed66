use Rattle.std.proofs.Common.{refl, sym, ap, ◌∙◌}
use Rattle.eden_coupling.specs.Numberings.{in_files, numbers}
use Rattle.eden_coupling.specs.Shown.{shown_in}
use Rattle.eden_coupling.proofs.CallerLemmas.{place_at}
use Rattle.eden_inode.specs.Tables.{Table}
use Rattle.eden_inode.proofs.Saves.{stored_sound, saved_keeps}
use Rattle.eden_inode.proofs.inodes.Inodes.save_numbers.Goals as goal

pub save_entry-requires-clause-entries : goal.save_entry-requires-clause-entries
save_entry-requires-clause-entries g c d holds =
    c.self.invariant.0.listed c.in-Some.entry.now d (place_at c.args.path.now c.self.inside.root c.in-Some.entry.now (sym c.in-Some.ensures)) holds

pub save_entry-requires-clause-sound : goal.save_entry-requires-clause-sound
save_entry-requires-clause-sound g c h d i holds object =
    let t = c.self.inside in
    stored_sound c.number_save_laws.ensures.saved_over g.W.World.repository (g.F.Files.stored t.overlay) t.root t.next c.self.invariant.0 (c.self.invariant.1.0 h) (c.self.invariant.1.1 h)
    _ c.args.path.now c.in-Some.entry.now (sym c.in-Some.ensures) (record { directory = d; id = i; holds = holds; object = object; is = refl })

pub invariant_of-self : goal.invariant_of-self
invariant_of-self g c =
    let t = c.self.inside in
    let v = c.self.invariant in
    let G = g.F.Files.stored c.save_entry.new.overlay in (
      v.0,
      (
        λ h. (saved_keeps c.number_save_laws.ensures.saved_over g.W.World.repository (g.F.Files.stored t.overlay) t.root t.next v.0 (v.1.0 h) (v.1.1 h)
            G c.args.path.now c.in-Some.entry.now (sym c.in-Some.ensures) (c.save_entry.ensures.alone h)).0.kept,
        λ h. (saved_keeps c.number_save_laws.ensures.saved_over g.W.World.repository (g.F.Files.stored t.overlay) t.root t.next v.0 (v.1.0 h) (v.1.1 h)
            G c.args.path.now c.in-Some.entry.now (sym c.in-Some.ensures) (c.save_entry.ensures.alone h)).1,
      ),
    )

pub returns-in-Some-clause-shown : goal.returns-in-Some-clause-shown
returns-in-Some-clause-shown g c h =
    let t = c.self.inside in
    let v = c.self.invariant in
    let R = g.W.World.repository in
    (saved_keeps c.number_save_laws.ensures.saved_over R (g.F.Files.stored t.overlay) t.root t.next v.0 (v.1.0 h) (v.1.1 h)
    (g.F.Files.stored c.save_entry.new.overlay) c.args.path.now c.in-Some.entry.now (sym c.in-Some.ensures) (c.save_entry.ensures.alone h)).0.nodes
    ∙ ap (λ (u : Table _). shown_in R (g.F.Files.stored u.files) u.root) c.self.view_is

pub returns-in-Some-clause-numbers : goal.returns-in-Some-clause-numbers
returns-in-Some-clause-numbers g c h p =
    let t = c.self.inside in
    let v = c.self.invariant in
    (saved_keeps c.number_save_laws.ensures.saved_over g.W.World.repository (g.F.Files.stored t.overlay) t.root t.next v.0 (v.1.0 h) (v.1.1 h)
    (g.F.Files.stored c.save_entry.new.overlay) c.args.path.now c.in-Some.entry.now (sym c.in-Some.ensures) (c.save_entry.ensures.alone h)).0.same p
    ∙ ap (λ (u : Table _). numbers (in_files (g.F.Files.stored u.files)) u.root p) c.self.view_is
