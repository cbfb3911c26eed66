use Rattle.std.proofs.Common.{◌≡◌, ◌∙◌, ap, sym}
use Rattle.eden_overlay.specs.Files.{Stored}
use Rattle.eden_overlay_journal.specs.Changes.{Changes, changed_files}
use Rattle.eden_overlay_journal.proofs.Poured.{no_file, opened_as}
use Rattle.eden_overlay_journal.proofs.pouring.take_in.Goals as goal

pub returns-in_ok-pour-in-None-clause-stored : goal.returns-in_ok-pour-in-None-clause-stored
returns-in_ok-pour-in-None-clause-stored g c = λ honest.
    let C = g.J.Journal.changes c.args.journal.now in
    let F : Stored = g.F.Files.stored c.args.files.now in
    let f : Stored = g.F.Files.stored c.pour.new.files in
    let poured : f ≡ changed_files C (g.F.Files.stored c.head.new.self) =
    sym (ap (λ (x : Changes). changed_files x f) (c.in_ok-pour-in-None.ensures.empty honest)) ∙ c.in_ok-pour-in-None.ensures.same honest in
    opened_as C F f (no_file (F 0) _ (c.in_ok-head.ensures.found honest) c.in-None.is) (poured ∙ ap (changed_files C) (c.in_ok-head.ensures.unchanged honest))
