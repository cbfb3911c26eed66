use Rattle.std.proofs.Common.{◌∙◌, ap, sym}
use Rattle.eden_overlay_format.specs.Values.{content_in}
use Rattle.eden_overlay.proofs.Bodies.{whole, same}
use Rattle.eden_overlay.proofs.content.Content.of_file.Goals as goal

pub invariant_of-result : goal.invariant_of-result
invariant_of-result c =
    let found = ap content_in (sym c.deref.ensures.value) ∙ c.in_ok-_content.ensures.found in
    whole c.args.file.items c.in_ok-_content._content.now found

pub returns-clause-found : goal.returns-clause-found
returns-clause-found c =
    let found = ap content_in (sym c.deref.ensures.value) ∙ c.in_ok-_content.ensures.found in
    same c.args.file.items c.in_ok-_content._content.now found
