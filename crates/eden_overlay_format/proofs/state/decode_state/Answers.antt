use Rattle.std.proofs.lemmas.Result.{err_from_is_err_and}
use Rattle.eden_overlay_format.proofs.Found.{no_state, good_state, refused_state}
use Rattle.eden_overlay_format.proofs.state.decode_state.Goals as goal

pub returns-in_err-body-clause-refused : goal.returns-in_err-body-clause-refused
returns-in_err-body-clause-refused c =
    let p = err_from_is_err_and c.from_residual.result c.from_residual.ensures.1 in
    rw (p.1, p.2) (no_state c.args.bytes.now c.in_err-body.field-0.0 c.in_err-body.ensures)

pub returns-clause-good : goal.returns-clause-good
returns-clause-good c = good_state c.args.bytes.now c.in_ok-body.body.now c.in_ok-body.ensures c.state_of.result c.state_of.ensures

pub returns-clause-refused : goal.returns-clause-refused
returns-clause-refused c = refused_state c.args.bytes.now c.in_ok-body.body.now c.in_ok-body.ensures c.state_of.result c.state_of.ensures
