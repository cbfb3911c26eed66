use Rattle.eden_object.proofs.CheckLemmas.{refused}
use Rattle.eden_object.proofs.checks.check.Goals as goal

pub returns-in_err-_body-clause-ok : goal.returns-in_err-_body-clause-ok
returns-in_err-_body-clause-ok c = refused c.args.id c.args.kind c.args.framed.now c.in_err-_body.field-0.0 c.from_residual.result c.from_residual.ensures.0 c.in_err-_body.ensures.cause
