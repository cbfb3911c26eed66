use Rattle.std.proofs.Common.{◌≡◌, ◌∙◌, false, refl}
use Rattle.eden_dematerialise.specs.Dematerialising.{Leads}
use Rattle.eden_dematerialise.proofs.Left.{held_so}
use Rattle.eden_dematerialise.proofs.Steps.{nothing, stored_or_not}
use Rattle.eden_dematerialise.proofs.dematerialising.store.Goals as goal

pub returns-then-not-has_changed-clause-done : goal.returns-then-not-has_changed-clause-done
returns-then-not-has_changed-clause-done g c = λ honest tree commit entries had held stand.
    let F = g.F.Files.stored c.args.files.now in nothing g.W.World.repository c.args.number tree F F refl

pub returns-clause-done : goal.returns-clause-done
returns-clause-done g c = λ honest tree commit entries had held stand.
    stored_or_not g.W.World.repository c.replace.result c.args.number tree _ _ c.args.number tree commit c.deref.result.now entries c.args.listing (c.replace.ensures.ok honest)
    (c.replace.ensures.err honest) (c.deref.ensures.value ∙ c.into_file.ensures) c.requires (Leads.here c.args.number tree) had held stand

pub returns-clause-held : goal.returns-clause-held
returns-clause-held g c = λ honest.
    held_so g.W.World.repository c.replace.result _ _ c.args.number c.deref.result.now c.args.listing (λ entries. c.args.has_changed ≡ false → c.args.listing ≡ entries)
    (c.replace.ensures.ok honest) (c.deref.ensures.value ∙ c.into_file.ensures)
