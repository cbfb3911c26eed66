use Rattle.std.proofs.Common.{length, sym, ap, ◌∙◌, subst, arith}
use Rattle.eden_object.specs.Objects.{IsFirstCause}
use Rattle.eden_object.proofs.CheckLemmas.{refused, held}
use Rattle.eden_object.proofs.object.Object.checked.Goals as goal

pub returns-in_err-body-clause-ok : goal.returns-in_err-body-clause-ok
returns-in_err-body-clause-ok c =
    let why = subst (λ t. IsFirstCause c.args.key.id c.args.key.kind t c.in_err-body.field-0.0) c.as_slice.ensures.value c.in_err-body.ensures.cause in
    refused c.args.key.id c.args.key.kind c.args.framed.items c.in_err-body.field-0.0 c.from_residual.result c.from_residual.ensures.0 why

pub invariant_of-result : goal.invariant_of-result
invariant_of-result c =
    let size = c.len.ensures ∙ sym c.as_slice.ensures.len in
    let whole = ap length c.as_slice.ensures.value in
    (omega arith, (held _ _ _ c.args.framed.items _ c.len.result c.in_ok-body.ensures.ok c.as_slice.ensures.value size).0)

pub returns-clause-body : goal.returns-clause-body
returns-clause-body c =
    let size = c.len.ensures ∙ sym c.as_slice.ensures.len in
    (held _ _ _ c.args.framed.items _ c.len.result c.in_ok-body.ensures.ok c.as_slice.ensures.value size).1
