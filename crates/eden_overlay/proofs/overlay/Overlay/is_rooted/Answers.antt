use Rattle.std.proofs.Common.{◌≡◌, ◌∙◌, Bool, Result, IfOk, not, sym, ap, subst}
use Rattle.std.specs.Option.{is_some}
use Rattle.eden_overlay.specs.declared.files.FilesFault.{FilesFault}
use Rattle.eden_overlay.specs.Files.{IsHeadOf}
use Rattle.eden_overlay.specs.Held.{root_file}
use Rattle.eden_overlay.proofs.Roots.{unrooted, rooted_by}
use Rattle.eden_overlay.proofs.overlay.Overlay.is_rooted.Goals.{in-None, in-Some}
use Rattle.eden_overlay.proofs.overlay.Overlay.is_rooted.Goals as goal

pub returns-clause-told : goal.returns-clause-told
returns-clause-told g c = λ honest.
    let F = g.F.Files.stored c.args.self.now in
    let found = subst (λ f. IsHeadOf (g.F.Files.stored f 1) c.in_ok-head.field-0) c.self.view_is (c.in_ok-head.ensures.found honest) in
    let P : Result Bool FilesFault → Type 0 = λ r. IfOk r (λ b. b ≡ is_some (root_file F)) in
    elim c.match-branch-2.branch [
      | in-None w ↦ subst P (sym w.result-is) (unrooted (F 1) (subst (IsHeadOf (F 1)) w.in-None.is found))
      | in-Some w ↦ subst P (sym w.result-is) (ap not w.has_numbers.ensures ∙ rooted_by (F 1) w.in-Some.head (subst (IsHeadOf (F 1)) w.in-Some.is found))
    ]
