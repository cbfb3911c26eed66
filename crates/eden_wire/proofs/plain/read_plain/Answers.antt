use Rattle.std.proofs.lemmas.Option.{IfSome_then}
use Rattle.eden_wire.proofs.Fronts.{asked_plain}
use Rattle.eden_wire.proofs.plain.read_plain.Goals as goal

pub returns : goal.returns
returns c = IfSome_then c.complete.result c.complete.ensures (λ q so. asked_plain c.in_ok-word.ensures c.in_ok-path.ensures so)
