use Rattle.std.proofs.Common.{sym}
use Rattle.std.proofs.lemmas.Result.{err_from_is_err_and}
use Rattle.eden_overlay_format.specs.declared.header.Identifier.TheVariants as identifier
use Rattle.eden_overlay_format.proofs.Found.{body_left, content_too_long, no_content}
use Rattle.eden_overlay_format.proofs.content.decode_file.Goals as goal

pub returns-in_err-content-clause-refused : goal.returns-in_err-content-clause-refused
returns-in_err-content-clause-refused c =
    let p = err_from_is_err_and c.from_residual.result c.from_residual.ensures.1 in
    rw (p.1, p.2) (no_content c.args.bytes.now c.in_err-content.field-0.0 c.in_err-content.ensures)

pub returns-then-content-gt-CONTENT_MOST-clause-refused : goal.returns-then-content-gt-CONTENT_MOST-clause-refused
returns-then-content-gt-CONTENT_MOST-clause-refused c =
    let bytes = c.args.bytes.now in
    let body = c.in_ok-content.content.now in
    (content_too_long bytes body c.in_ok-content.ensures c.if-content-gt-CONTENT_MOST.true, sym (body_left identifier.File bytes body c.in_ok-content.ensures))
