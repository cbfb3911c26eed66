use Rattle.std.proofs.Common.{◌≡◌, ◌∙◌, IfOk, ap, subst, sym}
use Rattle.eden_overlay.specs.Files.{ListsNumbers, Stored}
use Rattle.eden_overlay_journal.specs.Changes.{Changes, changed_files}
use Rattle.eden_overlay_journal.proofs.seen.list.Goals as goal

pub returns-clause-all : goal.returns-clause-all
returns-clause-all g c = λ honest.
    let f = g.F.Files.stored c.pour.new.files in
    let t : Stored = changed_files (g.J.Journal.changes c.args.journal.now) (g.F.Files.stored c.args.files.now) in
    let there : f ≡ t = sym (ap (λ (x : Changes). changed_files x f) (c.in_ok-pour.ensures.empty honest)) ∙ c.in_ok-pour.ensures.same honest in
    subst (λ (s : Stored). IfOk c.list.result (λ v. ListsNumbers v.items s)) there (c.list.ensures.all honest)
