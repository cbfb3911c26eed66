use Rattle.eden_wire.proofs.Slices.{slice-end}
use Rattle.eden_wire.proofs.Splitting.{line_none, line_found}
use Rattle.eden_wire.proofs.serving.line_len.Goals as goal

pub returns-in_err-at : goal.returns-in_err-at
returns-in_err-at c = rw c.from_residual.ensures (line_none c.args.bytes.now _ c.args.searched (slice-end c.args.bytes.now c.args.searched) c.requires.none c.in_err-at.ensures)

pub returns : goal.returns
returns c = line_found c.args.bytes.now _ c.args.searched c.in_ok-at.at (slice-end c.args.bytes.now c.args.searched) c.requires.within c.requires.none c.in_ok-at.ensures.0 c.in_ok-at.ensures.1
