use Rattle.std.proofs.Common.{length, sym, ap, ◌∙◌, arith}
use Rattle.eden_object.specs.declared.word.Word.TheVariants as word
use denote.Enum.Bare.{sameb}
use Rattle.eden_object.specs.contracts.word.Word.{the_type}
use Rattle.eden_object.proofs.CheckLemmas.{both}
use Rattle.eden_object.proofs.FrameLemmas.{one_frame_law}
use Rattle.eden_object.proofs.frame.decode_blob.Goals as goal
use Rattle.eden_object.proofs.frame.decode_blob.Goals.{else-eq-via-then-eq+else-content-le-BODY_LIMIT, else-eq-via-else-eq}

pub returns-in_err-word-clause-none : goal.returns-in_err-word-clause-none
returns-in_err-word-clause-none c = rw c.from_residual.ensures (λ content e. absurd (c.in_err-word.ensures word.Blob content e))

pub returns-else-eq-clause-none : goal.returns-else-eq-clause-none
returns-else-eq-clause-none c = λ content e.
    let same = one_frame_law c.in_ok-word.word word.Blob c.in_ok-word.content.now content (sym c.in_ok-word.ensures ∙ e) in
    let size = ap length same.1 in
    elim c.else-eq.branch [
      | else-eq-via-then-eq+else-content-le-BODY_LIMIT w ↦ omega (arith, w.if-content-le-BODY_LIMIT.false)
      | else-eq-via-else-eq w ↦ let is = same.0 in let answer = c.eq.ensures in let no = w.if-eq.false in absurd (both c.eq.result (answer ∙ ap (λ v. sameb the_type v word.Blob) is) no)
    ]
