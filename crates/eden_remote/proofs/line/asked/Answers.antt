use Rattle.std.proofs.Common.{sym, ap, ◌∙◌, subst}
use Rattle.std.proofs.lemmas.Bool.{false≢true}
use Rattle.std.proofs.lemmas.Slice.Eq.{bytes_eq-Decides}
use Rattle.std.specs.Str.{IsUtf8}
use Rattle.eden_object.specs.IdText.{IsIdText}
use Rattle.eden_remote.specs.Protocol.{get_line}
use Rattle.eden_remote.proofs.LineLemmas.{text_digits, line_digits}
use Rattle.eden_remote.proofs.line.asked.Goals as goal

pub returns-in_default : goal.returns-in_default
returns-in_default c = λ digits h e. c.in_default.ensures.cases.0 (subst IsUtf8 (sym (line_digits c.args.line.now digits h e)) (text_digits digits h))

pub returns-in_err-id : goal.returns-in_err-id
returns-in_err-id c = rw c.from_residual.ensures (λ digits h e.
    false≢true (c.in_err-id.ensures.found.1 (subst IsIdText (sym (c.in-Ok.ensures.cases.0 ∙ line_digits c.args.line.now digits h e)) h)))

pub returns-else-eq : goal.returns-else-eq
returns-else-eq c = λ digits h e.
    let same = ap get_line (c.in_ok-id.ensures.value ∙ c.in-Ok.ensures.cases.0 ∙ line_digits c.args.line.now digits h e) in
    false≢true (c.if-eq.ensures ∙ (bytes_eq-Decides c.as_slice.result.now c.args.line.now).1 (c.as_slice.ensures ∙ c.get_line.ensures ∙ same ∙ sym e))
