use Rattle.eden_wire.proofs.FieldLemmas.{scans_after}
use Rattle.eden_wire.proofs.name_text.scan_after.Goals as goal

pub returns : goal.returns
returns c = scans_after _ _ _ c.in_ok-name.ensures
