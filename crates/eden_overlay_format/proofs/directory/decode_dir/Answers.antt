use Rattle.std.proofs.lemmas.Result.{err_from_is_err_and}
use Rattle.eden_overlay_format.proofs.Found.{no_entries, entries_refused, entries_given}
use Rattle.eden_overlay_format.proofs.directory.decode_dir.Goals as goal

pub returns-in_err-body-clause-refused : goal.returns-in_err-body-clause-refused
returns-in_err-body-clause-refused c =
    let p = err_from_is_err_and c.from_residual.result c.from_residual.ensures.1 in
    rw (p.1, p.2) (no_entries c.args.bytes.now c.in_err-body.field-0.0 c.in_err-body.ensures)

pub returns-clause-found : goal.returns-clause-found
returns-clause-found c = entries_given c.args.bytes.now c.in_ok-body.body.now c.in_ok-body.ensures _ c.entries_of.result c.entries_of.ensures.entries

pub returns-clause-refused : goal.returns-clause-refused
returns-clause-refused c =
    entries_refused c.args.bytes.now c.in_ok-body.body.now c.in_ok-body.ensures _ c.entries_of.result c.entries_of.ensures.entries c.entries_of.ensures.memory
