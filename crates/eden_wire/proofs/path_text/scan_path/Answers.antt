use Rattle.eden_wire.proofs.Scanning.{path_more, path_bad}
use Rattle.eden_wire.proofs.path_text.scan_path.Goals as goal

pub returns-in_err-name : goal.returns-in_err-name
returns-in_err-name c = rw c.from_residual.ensures (path_bad c.parts.invariant c.next_component-plain.ensures.part c.in_err-name.ensures)

pub parts-preserved : goal.parts-preserved
parts-preserved c = path_more c.parts.invariant c.next_component-plain.ensures.part c.in_ok-name.ensures c.or-refusal.ensures
