use Rattle.eden_wire.proofs.RequestLemmas.{one_item, no_line_patches}
use Rattle.eden_wire.proofs.laws.line_laws.Goals as goal

pub returns : goal.returns
returns c = record { one_item = one_item; no_line_patches = no_line_patches }
