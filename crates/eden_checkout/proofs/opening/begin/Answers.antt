use Rattle.std.proofs.Common.{◌≡◌, ◌∙◌, [], sym}
use Rattle.std.proofs.lemmas.Bool.{eqb-true}
use Rattle.std.proofs.lemmas.List.{nil_from_length}
use Rattle.eden_overlay.proofs.CallerLemmas.{rootless_sound}
use Rattle.eden_checkout.specs.Opening.{IsRefusal}
use Rattle.eden_checkout.proofs.Fresh.{none_starts}
use Rattle.eden_checkout.proofs.Opened.{handed_up, refused_over}
use Rattle.eden_checkout.proofs.Tidied.{none_stored}
use Rattle.eden_checkout.proofs.opening.begin.Goals as goal

pub returns-in_err-next-in-Rescan-clause-refused : goal.returns-in_err-next-in-Rescan-clause-refused
returns-in_err-next-in-Rescan-clause-refused g c =
    let honest = g.W.World.honest in
    let F = g.F.Files.stored c.args.overlay.now in
    let old = g.F.Files.failures c.args.overlay.now in
    let looked = g.F.Files.failures c.list.new.self in
    let new = g.F.Files.failures c.rescanned.new.overlay in
    let fault = c.in_err-next-in-Rescan.field-0.0 in
    let passed = c.in_ok-numbers.was in
    let count : looked ≡ old = c.list.ensures.counted.same (λ failed. cc) in
    handed_up c.from_residual-in_err-next-in-Rescan.result fault (IsRefusal c.args.opening honest c.args.root F old new)
    c.from_residual-in_err-next-in-Rescan.ensures.1
    (refused_over honest c.args.opening c.args.root F (g.F.Files.stored c.list.new.self) old looked new fault c.in-Rescan.is c.list.ensures.unchanged count c.in_err-next-in-Rescan.ensures.refused)

pub returns-then-is_empty-clause-ok : goal.returns-then-is_empty-clause-ok
returns-then-is_empty-clause-ok g c = λ honest.
    let F = g.F.Files.stored c.args.overlay.now in
    let ks = c.in_ok-numbers.numbers.items in
    let zero : c.in_ok-numbers.numbers.len ≡ 0 = eqb-true c.in_ok-numbers.numbers.len 0 (sym c.if-is_empty.ensures) in
    let empty : ks ≡ [] = nil_from_length ks (sym c.in_ok-numbers.numbers.ok.0 ∙ zero) in
    none_starts rootless_sound c.args.root F (none_stored F ks (c.in_ok-numbers.ensures.all honest) empty) c.args.opening
