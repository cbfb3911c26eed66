use Rattle.std.proofs.Common.{◌∙◌, ℕ, Result, IfOk, IfErr, sym, subst}
use Rattle.eden_overlay.specs.declared.fault.GetFault.{GetFault}
use Rattle.eden_overlay.specs.Files.{IsHeadOf}
use Rattle.eden_overlay.specs.Getting.{ExplainsLength}
use Rattle.eden_overlay.specs.Held.{TellsLength}
use Rattle.eden_overlay.proofs.Lengths.{head_tells, head_explains, kept_tells}
use Rattle.eden_overlay.proofs.overlay.Overlay.get_len.Goals as goal

pub returns-in-Some-clause-told : goal.returns-in-Some-clause-told
returns-in-Some-clause-told g c = λ honest.
    subst (λ F. TellsLength (g.F.Files.stored F) c.args.number c.in-Some.len) c.self.view_is
    (kept_tells (g.F.Files.stored c.self.inside.files) c.self.inside.recent.kept.items c.args.number c.in-Some.len (c.self.invariant honest).0.0 (sym c.len_of.ensures ∙ c.in-Some.is))

pub returns-clause-told : goal.returns-clause-told
returns-clause-told g c = λ honest.
    let F = g.F.Files.stored c.args.self.now in
    subst (λ (r : Result ℕ GetFault). IfOk r (TellsLength F c.args.number)) (sym c.len_told.ensures.told)
    (head_tells (F c.args.number) c.in_ok-head.head (subst (λ f. IsHeadOf (g.F.Files.stored f c.args.number) c.in_ok-head.head) c.self.view_is (c.in_ok-head.ensures.found honest)))

pub returns-clause-refused : goal.returns-clause-refused
returns-clause-refused g c = λ honest.
    let F = g.F.Files.stored c.args.self.now in
    subst (λ (r : Result ℕ GetFault). IfErr r (ExplainsLength (F c.args.number))) (sym c.len_told.ensures.told)
    (head_explains (F c.args.number) c.in_ok-head.head (subst (λ f. IsHeadOf (g.F.Files.stored f c.args.number) c.in_ok-head.head) c.self.view_is (c.in_ok-head.ensures.found honest)))
