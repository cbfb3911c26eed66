use Rattle.std.proofs.Common.{◌≡◌, List, sym, subst}
use Rattle.std.specs.Option.{option_map}
use Rattle.eden_overlay_format.specs.declared.stored_entry.StoredEntry.{StoredEntry}
use Rattle.eden_overlay_format.specs.Changing.{entries_with, entry_as}
use Rattle.eden_overlay.specs.Files.{Stored}
use Rattle.eden_overlay.specs.Held.{with_entries}
use Rattle.eden_overlay.specs.Keeping.{AreBodiesKept}
use Rattle.eden_overlay.specs.Soundness.{AreSound}
use Rattle.eden_overlay.proofs.Remembered.{body_changed, body_sound, body_storable, body_there}
use Rattle.eden_overlay.proofs.overlay.Overlay.store_entry.Goals as goal

pub put_body-requires-clause-entries : goal.put_body-requires-clause-entries
put_body-requires-clause-entries g c = λ honest.
    let F : Stored = g.F.Files.stored c.args.self.now in
    let change : List StoredEntry → List StoredEntry = entries_with c.args.name.now (option_map (entry_as c.args.name.now) c.args.facts) in
    let holds = subst (λ f. AreBodiesKept (g.F.Files.stored f) c.self.inside.bodies.kept) c.self.view_is (c.self.invariant honest).1 in
    body_storable F c.args.number change c.in-Some.body c.self.inside.bodies.kept c.in_ok-body.field-0 holds c.in_ok-body.ensures.made c.in-Some.is (c.requires.sound honest)

pub put_body-requires-clause-sound : goal.put_body-requires-clause-sound
put_body-requires-clause-sound g c = λ honest.
    let F : Stored = g.F.Files.stored c.args.self.now in
    let change : List StoredEntry → List StoredEntry = entries_with c.args.name.now (option_map (entry_as c.args.name.now) c.args.facts) in
    let holds = subst (λ f. AreBodiesKept (g.F.Files.stored f) c.self.inside.bodies.kept) c.self.view_is (c.self.invariant honest).1 in
    subst (λ f. AreSound (with_entries (g.F.Files.stored f) c.args.number c.in-Some.body)) (sym c.self.view_is)
    (body_sound F c.args.number change c.in-Some.body c.self.inside.bodies.kept c.in_ok-body.field-0 holds c.in_ok-body.ensures.made c.in-Some.is (c.requires.sound honest))

pub returns-clause-stored : goal.returns-clause-stored
returns-clause-stored g c = λ honest yes.
    let F : Stored = g.F.Files.stored c.args.self.now in
    let G : Stored = g.F.Files.stored c.put_body.new.self in
    let change : List StoredEntry → List StoredEntry = entries_with c.args.name.now (option_map (entry_as c.args.name.now) c.args.facts) in
    let holds = subst (λ f. AreBodiesKept (g.F.Files.stored f) c.self.inside.bodies.kept) c.self.view_is (c.self.invariant honest).1 in
    body_changed F c.args.number change c.in-Some.body c.self.inside.bodies.kept c.in_ok-body.field-0 holds c.in_ok-body.ensures.made c.in-Some.is G
    (subst (λ f. G ≡ with_entries (g.F.Files.stored f) c.args.number c.in-Some.body) c.self.view_is (c.in_ok-put_body.ensures.ok honest))

pub returns-clause-held : goal.returns-clause-held
returns-clause-held g c = λ honest yes.
    let F : Stored = g.F.Files.stored c.args.self.now in
    let change : List StoredEntry → List StoredEntry = entries_with c.args.name.now (option_map (entry_as c.args.name.now) c.args.facts) in
    let holds = subst (λ f. AreBodiesKept (g.F.Files.stored f) c.self.inside.bodies.kept) c.self.view_is (c.self.invariant honest).1 in
    body_there F c.args.number change c.in-Some.body c.self.inside.bodies.kept c.in_ok-body.field-0 holds c.in_ok-body.ensures.made c.in-Some.is
