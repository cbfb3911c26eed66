use Rattle.std.proofs.Common.{[]}
use Rattle.eden_wire.proofs.Growing.{holds_none}
use Rattle.eden_wire.proofs.RunLemmas.{ended_ok, ended_err}
use Rattle.eden_wire.proofs.serving.end.Goals as goal

pub returns-in-Ok : goal.returns-in-Ok
returns-in-Ok g c =
    let wrote = c.flush.ensures.written _ _ (c.put_error.ensures.after _ [] (holds_none _ _ c.requires.idle)) in
    ended_ok c.args.rest.now _ _ c.if-is_empty.ensures (rw c.in-Ok.is at wrote)

pub returns-in-Err : goal.returns-in-Err
returns-in-Err g c =
    let wrote = c.flush.ensures.written _ _ (c.put_error.ensures.after _ [] (holds_none _ _ c.requires.idle)) in
    ended_err c.args.rest.now _ _ c.if-is_empty.ensures (rw c.in-Err.is at wrote)
