use Rattle.eden_object.proofs.Cuts.{cut_after}
use Rattle.eden_object.proofs.rows.read_id.Goals as goal

pub returns : goal.returns
returns c =
    let cases = c.in_ok-id.ensures.cases in
    cut_after 20 c.args.bytes.now c.in_ok-id.id.now c.in_ok-id.rest.now cases.0 cases.1 cases.2
